use Rattle.std.proofs.Common.{inl, refl}
use Rattle.std.proofs.lemmas.Result.{err_from_is_err_and}
use Rattle.cms_tlv.specs.declared.fault.Reason.TheVariants.{EmptyAttributes}
use Rattle.cms_tlv.proofs.Bind.{fails, gave}
use Rattle.cms_tlv.proofs.Exits.{stops_of}
use Rattle.cms_tlv.proofs.Judged.{judged_passes, judged_refuses}
use Rattle.cms_fields.specs.Readers.{constrained_of}
use Rattle.cms_setof.specs.Readers.{has_member}
use Rattle.cms_setof.proofs.NonEmptyLaws.{test_passes, test_refuses}
use Rattle.cms_setof.proofs.non_empty.NonEmptySetOfFields.read_to_end.Goals as goal

pub returns-in_err-set-clause-refines : goal.returns-in_err-set-clause-refines
unfolding constrained_of
returns-in_err-set-clause-refines g c =
    let p = err_from_is_err_and c.from_residual.result c.from_residual.ensures.1 in
    rw (p.1, p.2) (fails _ c.in_err-set.ensures.refines)

pub returns-then-is_empty-clause-refines : goal.returns-then-is_empty-clause-refines
unfolding constrained_of
returns-then-is_empty-clause-refines g c =
    let set = c.in_ok-set.ensures.refines in
    judged_refuses has_member EmptyAttributes set (λ e. absurd cc) (inl tt)
    (test_refuses (g.T.Write.value c.read_to_end.new.source.done) c.in_ok-set.set _ c.if-is_empty.true c.is_empty.ensures)
    (c.refuse.ensures.state set.sound) (c.refuse.ensures.refused set.sound)

pub returns-then-is_empty-clause-accounted : goal.returns-then-is_empty-clause-accounted
returns-then-is_empty-clause-accounted g c = stops_of _ (returns-then-is_empty-clause-refines g c)

pub returns-clause-refines : goal.returns-clause-refines
unfolding constrained_of
returns-clause-refines g c =
    let set = c.in_ok-set.ensures.refines in
    gave _ (judged_passes has_member EmptyAttributes set (test_passes (g.T.Write.value c.read_to_end.new.source.done) c.in_ok-set.set _
    c.if-is_empty.false c.is_empty.ensures)) refl set.sound set.lasts
