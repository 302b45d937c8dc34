use Rattle.std.proofs.Common.{inr, refl, sym, ap, ◌∙◌}
use Rattle.std.proofs.lemmas.Result.{err_from_is_err_and}
use Rattle.cms_tlv.specs.declared.fault.Fault.TheVariants as faults
use Rattle.cms_tlv.specs.State.{position}
use Rattle.cms_tlv.specs.Reading.{scalar_of}
use Rattle.cms_tlv.proofs.Bind.{fails, gave}
use Rattle.cms_tlv.proofs.Exits.{stops_of}
use Rattle.cms_tlv.proofs.Judged.{judged_passes, judged_refuses}
use Rattle.cms_fields.proofs.primitive.read_scalar.Goals as goal

pub returns-in_err-contents-clause-refines : goal.returns-in_err-contents-clause-refines
unfolding scalar_of
returns-in_err-contents-clause-refines g c sound =
    let p = err_from_is_err_and c.from_residual.result c.from_residual.ensures.1 in
    rw (p.1, p.2) (fails _ (c.in_err-contents.ensures.refines sound))

pub returns-then-passes-clause-refines : goal.returns-then-passes-clause-refines
unfolding scalar_of
returns-then-passes-clause-refines g c sound =
    let read = c.in_ok-contents.ensures.refines sound in
    rw c.new.ensures (gave _ (judged_passes g.K.Scalar.test g.K.Scalar.malformed read
    (ap g.K.Scalar.test (sym c.bytes.ensures) ∙ sym c.passes.ensures ∙ c.if-passes.true)) refl read.sound read.lasts)

pub returns-else-passes-clause-refines : goal.returns-else-passes-clause-refines
unfolding scalar_of
returns-else-passes-clause-refines g c sound =
    let read = c.in_ok-contents.ensures.refines sound in
    judged_refuses g.K.Scalar.test g.K.Scalar.malformed read c.law.ensures.told (inr c.in_ok-contents.ensures.clear)
    (ap g.K.Scalar.test (sym c.bytes.ensures) ∙ sym c.passes.ensures ∙ c.if-passes.false) (c.refuse.ensures.state read.sound)
    (c.refuse.ensures.refused read.sound ∙ ap (λ r. faults.Refused r (position c.primitive.new.self)) c.reason.ensures)

pub returns-else-passes-clause-accounted : goal.returns-else-passes-clause-accounted
returns-else-passes-clause-accounted g c sound = stops_of _ (returns-else-passes-clause-refines g c sound)
