use Rattle.std.proofs.Common.{refl}
use Rattle.std.proofs.lemmas.Result.{err_from_is_err_and}
use Rattle.cms_tlv.proofs.SourceLaws.{then_goes}
use Rattle.cms_tlv.proofs.Bind.{fails, then_fails, then_reaches, gave, kept_by}
use Rattle.cms_tlv.proofs.Exits.{at_last, later, still, answers_of}
use Rattle.cms_fields.specs.Readers.{then_of}
use Rattle.cms_fields.proofs.ReaderLaws.{pairs}
use Rattle.cms_fields.proofs.contents.ThenFields.read_to_end.Goals as goal

pub returns-in_err-first-clause-refines : goal.returns-in_err-first-clause-refines
unfolding then_of
returns-in_err-first-clause-refines g c =
    let p = err_from_is_err_and c.from_residual.result c.from_residual.ensures.1 in
    rw (p.1, p.2) (fails _ (c.in_err-first.ensures.refines c.requires.no_fault))

pub returns-in_err-rest-clause-refines : goal.returns-in_err-rest-clause-refines
unfolding then_of
returns-in_err-rest-clause-refines g c =
    let p = err_from_is_err_and c.from_residual-in_err-rest.result c.from_residual-in_err-rest.ensures.1 in
    rw (p.1, p.2) (then_fails _ (c.in_ok-first.ensures.refines c.requires.no_fault) (fails _ c.in_err-rest.ensures.refines))

pub returns-in_err-rest-clause-accounted : goal.returns-in_err-rest-clause-accounted
returns-in_err-rest-clause-accounted g c = answers_of _ _ _ _ _ (returns-in_err-rest-clause-refines g c)

pub returns-clause-refines : goal.returns-clause-refines
unfolding then_of
returns-clause-refines g c =
    let first = (c.in_ok-first.ensures.refines c.requires.no_fault) in
    let rest = c.in_ok-rest.ensures.refines in
    let behind = kept_by rest.reaches in
    gave _ (then_reaches _ first (then_reaches _ rest (at_last _))) (pairs (later first behind) refl) rest.sound
    (λ s k. pairs (still first behind k) (rest.lasts s k))

pub returns-clause-accounted : goal.returns-clause-accounted
returns-clause-accounted g c = then_goes c.in_ok-first.ensures.ok.goes c.in_ok-rest.ensures.accounted
