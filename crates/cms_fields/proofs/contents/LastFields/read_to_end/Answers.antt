use Rattle.std.proofs.lemmas.Result.{err_from_is_err_and}
use Rattle.cms_tlv.proofs.SourceLaws.{then_goes}
use Rattle.cms_tlv.proofs.Bind.{fails, then_fails, then_reaches, gave, kept_by}
use Rattle.cms_tlv.proofs.Exits.{at_last, later, still, answers_of}
use Rattle.cms_fields.specs.Readers.{last_of}
use Rattle.cms_fields.proofs.contents.LastFields.read_to_end.Goals as goal

pub returns-in_err-last-clause-refines : goal.returns-in_err-last-clause-refines
unfolding last_of
returns-in_err-last-clause-refines g c =
    let p = err_from_is_err_and c.from_residual.result c.from_residual.ensures.1 in
    rw (p.1, p.2) (fails _ (c.in_err-last.ensures.refines c.requires.no_fault))

pub returns-in_err-close-clause-refines : goal.returns-in_err-close-clause-refines
unfolding last_of
returns-in_err-close-clause-refines g c =
    let p = err_from_is_err_and c.from_residual-in_err-close.result c.from_residual-in_err-close.ensures.1 in
    let last = (c.in_ok-last.ensures.refines c.requires.no_fault) in
    rw (p.1, p.2) (then_fails _ last (fails _ (c.in_err-close.ensures.refines last.sound)))

pub returns-in_err-close-clause-accounted : goal.returns-in_err-close-clause-accounted
returns-in_err-close-clause-accounted g c = answers_of _ _ _ _ _ (returns-in_err-close-clause-refines g c)

pub returns-clause-refines : goal.returns-clause-refines
unfolding last_of
returns-clause-refines g c =
    let last = (c.in_ok-last.ensures.refines c.requires.no_fault) in
    let end = c.in_ok-close.ensures.refines last.sound in
    let behind = kept_by end.reaches in
    gave _ (then_reaches _ last (then_reaches _ end (at_last _))) (later last behind) end.sound (λ s k. still last behind k)

pub returns-clause-accounted : goal.returns-clause-accounted
returns-clause-accounted g c = then_goes c.in_ok-last.ensures.ok.goes c.in_ok-close.ensures.ok
