use Rattle.std.proofs.Common.{refl}
use Rattle.std.proofs.lemmas.Result.{err_from_is_err_and}
use Rattle.cms_tlv.proofs.SourceLaws.{passes_then}
use Rattle.cms_tlv.proofs.Bind.{fails, then_fails, then_reaches, gave}
use Rattle.cms_tlv.proofs.Exits.{answers_of}
use Rattle.cms_fields.specs.Readers.{holding}
use Rattle.cms_fields.proofs.element.TaggedField.read.Goals as goal

pub returns-in_err-inner-clause-refines : goal.returns-in_err-inner-clause-refines
unfolding holding
returns-in_err-inner-clause-refines g c sound =
    let p = err_from_is_err_and c.from_residual.result c.from_residual.ensures.1 in
    rw (p.1, p.2) (fails _ (c.in_err-inner.ensures.refines sound))

pub returns-in_err-contents-clause-refines : goal.returns-in_err-contents-clause-refines
unfolding holding
returns-in_err-contents-clause-refines g c sound =
    let p = err_from_is_err_and c.from_residual-in_err-contents.result c.from_residual-in_err-contents.ensures.1 in
    rw (p.1, p.2) (then_fails _ (c.in_ok-inner.ensures.refines sound) c.in_err-contents.ensures.refines)

pub returns-in_err-contents-clause-accounted : goal.returns-in_err-contents-clause-accounted
returns-in_err-contents-clause-accounted g c sound = answers_of _ _ _ _ _ (returns-in_err-contents-clause-refines g c sound)

pub returns-clause-ok : goal.returns-clause-ok
returns-clause-ok g c = passes_then c.in_ok-inner.ensures.ok c.in_ok-contents.ensures.accounted

pub returns-clause-accounted : goal.returns-clause-accounted
returns-clause-accounted g c sound = (returns-clause-ok g c).goes

pub returns-clause-refines : goal.returns-clause-refines
unfolding holding
returns-clause-refines g c sound =
    let contents = c.in_ok-contents.ensures.refines in
    gave _ (then_reaches _ (c.in_ok-inner.ensures.refines sound) contents.reaches) refl contents.sound contents.lasts
