use Rattle.std.proofs.Common.{inr, ℕ, true, List, refl, sym, ap, ◌∙◌}
use Rattle.std.proofs.lemmas.Result.{err_from_is_err_and}
use Rattle.cms_tlv.specs.declared.fault.Reason.TheVariants.{BooleanMalformed}
use Rattle.cms_tlv.specs.Refines.{plain}
use Rattle.cms_tlv.specs.Reading.{give, scalar_of}
use Rattle.cms_tlv.proofs.Bind.{fails, gave, reaches_bind}
use Rattle.cms_tlv.proofs.Exits.{stops_of}
use Rattle.cms_tlv.proofs.Judged.{judged_passes, judged_refuses}
use Rattle.cms_tlv.proofs.Public.{found, faults_of, err_clause}
use Rattle.cms_tlv.proofs.SourceLaws.{no_fault}
use Rattle.cms_tlv.specs.declared.bound.Bound.{Bound}
use Rattle.cms_tlv.specs.Law.{rules_of, Reads}
use Rattle.cms_tlv.proofs.Rules.{follows, not_der}
use Rattle.cms_tlv.proofs.Why.{says_why, fault_says}
use Rattle.cms_scalars.proofs.WhyScalars.{boolean_told}
use Rattle.cms_scalars.specs.Booleans.{boolean, boolean_of, is_one_octet, is_true}
use Rattle.cms_scalars.proofs.Truth.{boolean_reads}
use Rattle.cms_scalars.proofs.booleans.read_bool.Goals as goal

by_bound : (bd : Bound) → Reads (rules_of bd.strict) (boolean (rules_of bd.strict)) boolean_of
by_bound bd = boolean_reads (rules_of bd.strict) (not_der bd.strict)

pub returns-in_err-contents-clause-refines : goal.returns-in_err-contents-clause-refines
unfolding boolean_of scalar_of
returns-in_err-contents-clause-refines g c sound =
    let p = err_from_is_err_and c.from_residual.result c.from_residual.ensures.1 in
    rw (p.1, p.2) (fails _ (fails _ (c.in_err-contents.ensures.refines sound)))

pub returns-in_err-contents-clause-faults : goal.returns-in_err-contents-clause-faults
returns-in_err-contents-clause-faults g c sound =
    err_clause (by_bound c.args.bound.now) c.args.bound.now (follows c.args.bound.now) plain _ _ c.from_residual.result
    (returns-in_err-contents-clause-refines g c sound)

pub returns-then-is_one-clause-refines : goal.returns-then-is_one-clause-refines
unfolding boolean_of scalar_of
returns-then-is_one-clause-refines g c sound =
    let read = c.in_ok-contents.ensures.refines sound in
    gave _ (reaches_bind (λ (d : List ℕ). give (is_true d)) (judged_passes is_one_octet BooleanMalformed read
    (ap is_one_octet (sym c.bytes.ensures) ∙ sym c.is_one.ensures ∙ c.if-is_one.true)))
    (ap is_true (sym c.bytes-then-is_one.ensures) ∙ sym c.is_true.ensures) read.sound (λ later k. refl)

pub returns-then-is_one-clause-found : goal.returns-then-is_one-clause-found
returns-then-is_one-clause-found g c =
    let sound = no_fault _ _ c.in_ok-contents.contents c.in_ok-contents.ensures.sticky in
    found (by_bound c.args.bound.now) c.args.bound.now (follows c.args.bound.now) plain _ _ _
    (returns-then-is_one-clause-refines g c sound) c.in_ok-contents.ensures.clear

pub returns-else-is_one-clause-refines : goal.returns-else-is_one-clause-refines
unfolding boolean_of scalar_of
returns-else-is_one-clause-refines g c sound =
    let read = c.in_ok-contents.ensures.refines sound in
    fails _ (judged_refuses is_one_octet BooleanMalformed read (λ z. cc) (inr c.in_ok-contents.ensures.clear)
    (ap is_one_octet (sym c.bytes.ensures) ∙ sym c.is_one.ensures ∙ c.if-is_one.false) (c.refuse.ensures.state read.sound)
    (c.refuse.ensures.refused read.sound))

pub returns-else-is_one-clause-accounted : goal.returns-else-is_one-clause-accounted
returns-else-is_one-clause-accounted g c sound = stops_of _ (returns-else-is_one-clause-refines g c sound)

pub returns-else-is_one-clause-faults : goal.returns-else-is_one-clause-faults
returns-else-is_one-clause-faults g c sound =
    faults_of (by_bound c.args.bound.now) c.args.bound.now (follows c.args.bound.now) _ _ _ (returns-else-is_one-clause-refines g c sound)

pub returns-in_err-contents-clause-why : goal.returns-in_err-contents-clause-why
returns-in_err-contents-clause-why g c sound =
    says_why {paths = true} plain (boolean_told c.args.bound.now) _ _ c.from_residual.result (returns-in_err-contents-clause-refines g c sound)

pub returns-else-is_one-clause-why : goal.returns-else-is_one-clause-why
returns-else-is_one-clause-why g c sound = fault_says {paths = true} (boolean_told c.args.bound.now) _ _ _ (returns-else-is_one-clause-refines g c sound)
