use Rattle.std.proofs.Common.{inr, refl, sym, ap, ◌∙◌}
use Rattle.std.proofs.lemmas.Result.{err_from_is_err_and}
use Rattle.cms_tlv.specs.declared.fault.Fault.TheVariants as faults
use Rattle.cms_tlv.specs.State.{position}
use Rattle.cms_tlv.proofs.Bind.{fails, gave}
use Rattle.cms_tlv.proofs.Exits.{stops_of}
use Rattle.cms_tlv.proofs.Judged.{judged_passes, judged_refuses}
use Rattle.cms_fields.specs.Readers.{constrained_of}
use Rattle.cms_fields.proofs.primitive.ConstrainedField.read.Goals as goal

pub returns-in_err-field-clause-refines : goal.returns-in_err-field-clause-refines
unfolding constrained_of
returns-in_err-field-clause-refines g c sound =
    let p = err_from_is_err_and c.from_residual.result c.from_residual.ensures.1 in
    rw (p.1, p.2) (fails _ (c.in_err-field.ensures.refines sound))

pub returns-then-passes-clause-refines : goal.returns-then-passes-clause-refines
unfolding constrained_of
returns-then-passes-clause-refines g c sound =
    let read = c.in_ok-field.ensures.refines sound in
    gave _ (judged_passes g.C.Constraint.test g.C.Constraint.refusal read
    (ap g.C.Constraint.test (sym c.bytes.ensures) ∙ sym c.passes.ensures ∙ c.if-passes.true)) refl read.sound read.lasts

pub returns-else-passes-clause-refines : goal.returns-else-passes-clause-refines
unfolding constrained_of
returns-else-passes-clause-refines g c sound =
    let read = c.in_ok-field.ensures.refines sound in
    judged_refuses g.C.Constraint.test g.C.Constraint.refusal read c.law.ensures.told (inr c.in_ok-field.ensures.clear)
    (ap g.C.Constraint.test (sym c.bytes.ensures) ∙ sym c.passes.ensures ∙ c.if-passes.false) (c.refuse.ensures.state read.sound)
    (c.refuse.ensures.refused read.sound ∙ ap (λ r. faults.Refused r (position c.read_scalar.new.source)) c.reason.ensures)

pub returns-else-passes-clause-accounted : goal.returns-else-passes-clause-accounted
returns-else-passes-clause-accounted g c sound = stops_of _ (returns-else-passes-clause-refines g c sound)
