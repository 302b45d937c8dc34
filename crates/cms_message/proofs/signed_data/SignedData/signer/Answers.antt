use Rattle.std.proofs.Common.{slice_get, ap, Some, None, ◌∙◌}
use Rattle.cms_message.specs.Spans as spans
use Rattle.cms_message.specs.SignedData.{SignedData, borrowed_signers}
use Rattle.cms_message.proofs.BorrowedLaws.{signer_at}
use Rattle.cms_message.proofs.signed_data.SignedData.signer.Goals as goal

pub returns-in-Some : goal.returns-in-Some
returns-in-Some c =
    let k = c.self.inside.kept.now in
    let these = c.signer_infos.ensures ∙ ap spans.signer_infos c.after_content.ensures in
    ap Some c.new.ensures ∙ (signer_at k _ c.args.i (Some _) (c.in-Some.ensures ∙ ap (λ xs. slice_get xs c.args.i) these)
    ∙ ap (λ (v : SignedData). slice_get (borrowed_signers v) c.args.i) c.self.view_is)

pub returns-in-None : goal.returns-in-None
returns-in-None c =
    let k = c.self.inside.kept.now in
    let these = c.signer_infos.ensures ∙ ap spans.signer_infos c.after_content.ensures in
    signer_at k _ c.args.i None (c.in-None.ensures ∙ ap (λ xs. slice_get xs c.args.i) these)
    ∙ ap (λ (v : SignedData). slice_get (borrowed_signers v) c.args.i) c.self.view_is
