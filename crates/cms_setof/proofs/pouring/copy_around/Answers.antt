use Rattle.std.proofs.Common.{◌≡◌, List, ℕ, ◌++◌, length, drop, ap, subst, sym, ◌∙◌, zero-add}
use Rattle.std.proofs.lemmas.List.{take-append-drop}
use Rattle.cms_tlv.specs.Spelling.{join}
use Rattle.cms_fields.specs.Received.{spanned_in}
use Rattle.cms_setof.proofs.PouringLaws.{put_more}
use Rattle.cms_setof.proofs.pouring.copy_around.Goals as goal

pub returns : goal.returns
returns c =
    let octets = c.args.before.now ++ (join (spanned_in c.args.kept.now c.args.spans.now) ++ c.args.after.now) in
    let old = c.args.out.now in
    let new = c.hold-2.new.buffer in
    let all = put_more c.hold.ensures (put_more c.hold_spans.ensures c.hold-2.ensures) in
    let parts = sym (take-append-drop c.hold-2.new.held new)
    ∙ (ap (λ (z : List ℕ). z ++ drop c.hold-2.new.held new) all.octets_are ∙ ap (λ (z : List ℕ). octets ++ z) all.rest) in
    subst (λ n. new ≡ octets ++ drop n old) (all.counted ∙ zero-add (length octets)) parts
