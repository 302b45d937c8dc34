use Rattle.std.proofs.Common.{inl, refl, sym, ap, ◌∙◌}
use Rattle.std.proofs.lemmas.Result.{err_from_is_err_and}
use Rattle.cms_tlv.specs.declared.fault.Reason.TheVariants.{CountersignTooDeep}
use Rattle.cms_tlv.specs.State.{State}
use Rattle.cms_tlv.proofs.SourceLaws.{then_goes}
use Rattle.cms_tlv.proofs.Bind.{fails, fails_then, reaches_then, then_reaches, gave}
use Rattle.cms_tlv.proofs.Exits.{answers_of, stops_of, at_last}
use Rattle.cms_tlv.proofs.Judged.{refused_behind}
use Rattle.cms_tlv.proofs.Loops.{saw}
use Rattle.cms_fields.proofs.ReaderLaws.{ends_where, some_seen, none_seen}
use Rattle.cms_message.specs.Countersignatures.{too_deep_of, no_countersignatures_of}
use Rattle.cms_message.proofs.CountersignatureLaws.{is_too_deep, is_end}
use Rattle.cms_message.proofs.countersignature.NoCountersignaturesFields.read_to_end.Goals as goal

pub returns-in_err-peek-clause-refines : goal.returns-in_err-peek-clause-refines
unfolding no_countersignatures_of
returns-in_err-peek-clause-refines g c =
    let p = err_from_is_err_and c.from_residual.result c.from_residual.ensures.1 in
    rw (p.1, p.2) (fails _ (c.in_err-peek.ensures.refines c.requires.no_fault))

pub returns-in_err-enter-clause-refines : goal.returns-in_err-enter-clause-refines
unfolding too_deep_of
returns-in_err-enter-clause-refines g c =
    let p = err_from_is_err_and c.from_residual-in_err-enter.result c.from_residual-in_err-enter.ensures.1 in
    let peek = some_seen c.args.bound c.in_ok-peek.field-0 (sym c.is_some.ensures ∙ c.if-is_some.true) (c.in_ok-peek.ensures.refines c.requires.no_fault) in
    rw (p.1, p.2) (fails_then (is_too_deep c.args.bound peek.1 refl) (fails _ (c.in_err-enter.ensures.refines peek.1.sound)))

pub returns-in_err-enter-clause-accounted : goal.returns-in_err-enter-clause-accounted
returns-in_err-enter-clause-accounted g c = answers_of _ _ _ _ _ (returns-in_err-enter-clause-refines g c)

pub returns-then-is_some-clause-refines : goal.returns-then-is_some-clause-refines
unfolding too_deep_of
returns-then-is_some-clause-refines g c =
    let peek = some_seen c.args.bound c.in_ok-peek.field-0 (sym c.is_some.ensures ∙ c.if-is_some.true) (c.in_ok-peek.ensures.refines c.requires.no_fault) in
    let header = c.in_ok-enter.ensures.refines peek.1.sound in
    fails_then (is_too_deep c.args.bound peek.1 refl) (refused_behind _ CountersignTooDeep (λ e. absurd cc) (inl tt) header
    (c.refuse.ensures.state header.sound) (c.refuse.ensures.refused header.sound))

pub returns-then-is_some-clause-accounted : goal.returns-then-is_some-clause-accounted
returns-then-is_some-clause-accounted g c = stops_of _ (returns-then-is_some-clause-refines g c)

pub returns-in_err-close-clause-refines : goal.returns-in_err-close-clause-refines
returns-in_err-close-clause-refines g c =
    let p = err_from_is_err_and c.from_residual-in_err-close.result c.from_residual-in_err-close.ensures.1 in
    let peek = saw _ (none_seen c.in_ok-peek.field-0 (sym c.is_some.ensures ∙ c.if-is_some.false)) (c.in_ok-peek.ensures.refines c.requires.no_fault) in
    rw (p.1, p.2) (fails_then (is_end c.args.bound peek refl) (fails _ (c.in_err-close.ensures.refines peek.sound)))

pub returns-in_err-close-clause-accounted : goal.returns-in_err-close-clause-accounted
returns-in_err-close-clause-accounted g c = answers_of _ _ _ _ _ (returns-in_err-close-clause-refines g c)

pub returns-clause-refines : goal.returns-clause-refines
returns-clause-refines g c =
    let peek = saw _ (none_seen c.in_ok-peek.field-0 (sym c.is_some.ensures ∙ c.if-is_some.false)) (c.in_ok-peek.ensures.refines c.requires.no_fault) in
    let end = c.in_ok-close.ensures.refines peek.sound in
    gave _ (reaches_then (is_end c.args.bound peek refl) (then_reaches _ end (at_last _))) refl end.sound (λ s k. refl)

pub returns-clause-accounted : goal.returns-clause-accounted
returns-clause-accounted g c = then_goes c.in_ok-peek.ensures.ok c.in_ok-close.ensures.ok

pub returns-clause-clear : goal.returns-clause-clear
returns-clause-clear g c before =
    let none = none_seen c.in_ok-peek.field-0 (sym c.is_some.ensures ∙ c.if-is_some.false) in
    c.in_ok-close.ensures.clear (λ definite. ap (λ (s : State). s.ahead) (c.in_ok-peek.ensures.at_end none definite)
    ∙ before (ends_where c.args.bound (c.in_ok-peek.ensures.refines c.requires.no_fault) none definite))
