use Rattle.std.proofs.Common.{◌≡◌, ◌++◌, ◌∷◌, [], false, Result, Ok, Err, refl, sym, ap, ◌∙◌}
use Rattle.std.specs.Prelude.{OnOk, is_err}
use Rattle.std.proofs.lemmas.Result.{err_from_is_err_and}
use Rattle.cms_tlv.specs.State.{State}
use Rattle.cms_tlv.proofs.SourceLaws.{then_goes}
use Rattle.cms_tlv.specs.Reading.{member_of}
use Rattle.cms_tlv.proofs.Bind.{fails_then, gave, kept_by}
use Rattle.cms_tlv.proofs.Exits.{answers_of, stops_of}
use Rattle.cms_tlv.proofs.Loops.{none_read, peek_fails, element_fails, close_fails, more_moved, all_read, wants_memory, saw}
use Rattle.cms_fields.proofs.ReaderLaws.{goes_nowhere, ends_where, some_seen, none_seen}
use Rattle.cms_setof.proofs.SetReads.{still_lies, member_fails, member_gives}
use Rattle.cms_setof.proofs.set.SetOfFields.read_to_end.Goals as goal

on_no_err : {T E P : Type 0} (r : Result T E) → is_err r ≡ false → OnOk r P → P
on_no_err (Ok v) e p = p
on_no_err (Err x) e p = absurd cc

pub loop-set-init : goal.loop-set-init
loop-set-init g c = (
  goes_nowhere c.args.source.now c.requires.no_fault,
  λ h. h,
  tt,
  rw c.new-set.ensures (none_read (λ (s : State) v. g.T.Write.value s.done v) (member_of g.T.Write.grammar.reader) _ c.args.bound
      c.args.source.now c.requires.no_fault),
)

pub returns-in_err-peek-clause-clear : goal.returns-in_err-peek-clause-clear
returns-in_err-peek-clause-clear g c = rw (err_from_is_err_and c.from_residual.result c.from_residual.ensures.1).1 tt

pub returns-in_err-peek-clause-refines : goal.returns-in_err-peek-clause-refines
returns-in_err-peek-clause-refines g c =
    let p = err_from_is_err_and c.from_residual.result c.from_residual.ensures.1 in
    let has = c.loop-set.invariant.3 in
    rw (p.1, p.2) (peek_fails (λ (s : State) v. g.T.Write.value s.done v) _ _ _ _ _ _ _ _ _ has (c.in_err-peek.ensures.refines has.sound))

pub returns-in_err-peek-clause-accounted : goal.returns-in_err-peek-clause-accounted
returns-in_err-peek-clause-accounted g c = answers_of _ _ _ _ _ (returns-in_err-peek-clause-refines g c)

pub read_member-requires-clause-no_fault : goal.read_member-requires-clause-no_fault
read_member-requires-clause-no_fault g c = (c.in_ok-peek.ensures.refines c.loop-set.invariant.3.sound).sound

pub read_member-requires-clause-last : goal.read_member-requires-clause-last
read_member-requires-clause-last g c =
    let peek = c.in_ok-peek.ensures.refines c.loop-set.invariant.3.sound in
    still_lies (kept_by peek.reaches) c.loop-set.last c.loop-set.invariant.2

pub returns-in_err-span-clause-clear : goal.returns-in_err-span-clause-clear
returns-in_err-span-clause-clear g c = rw (err_from_is_err_and c.from_residual-in_err-span.result c.from_residual-in_err-span.ensures.1).1 tt

pub returns-in_err-span-clause-refines : goal.returns-in_err-span-clause-refines
returns-in_err-span-clause-refines g c =
    let p = err_from_is_err_and c.from_residual-in_err-span.result c.from_residual-in_err-span.ensures.1 in
    let has = c.loop-set.invariant.3 in
    let peek = some_seen c.args.bound c.in_ok-peek.field-0 (sym c.is_some.ensures ∙ c.if-is_some.true) (c.in_ok-peek.ensures.refines has.sound) in
    rw (p.1, p.2) (element_fails (λ (s : State) v. g.T.Write.value s.done v) _ _ _ _ _ _ _ _ _ _ _ has peek.1
    (member_fails g.T.Write.grammar.reader c.args.bound (kept_by peek.1.reaches) c.loop-set.last c.loop-set.invariant.2
    c.in_err-span.ensures.refines))

pub returns-in_err-span-clause-accounted : goal.returns-in_err-span-clause-accounted
returns-in_err-span-clause-accounted g c = answers_of _ _ _ _ _ (returns-in_err-span-clause-refines g c)

pub returns-then-is_err-clause-clear : goal.returns-then-is_err-clause-clear
returns-then-is_err-clause-clear g c = tt

pub returns-then-is_err-clause-refines : goal.returns-then-is_err-clause-refines
returns-then-is_err-clause-refines g c =
    let has = c.loop-set.invariant.3 in
    let peek = some_seen c.args.bound c.in_ok-peek.field-0 (sym c.is_some.ensures ∙ c.if-is_some.true) (c.in_ok-peek.ensures.refines has.sound) in
    let member =
    member_gives g.T.Write.grammar.reader c.args.bound (kept_by peek.1.reaches) c.loop-set.last c.loop-set.invariant.2
    (λ (s : State) v. g.T.Write.value s.done v) c.in_ok-span.ensures.refines in
    let more =
    more_moved (λ (s : State) v. g.T.Write.value s.done v) (member_of g.T.Write.grammar.reader) _ c.args.bound _ _ _ _ _ _
    c.loop-set.set _ c.in_ok-span.member c.in_ok-span.ensures.ok.some has peek.1 member in
    rw (c.out_of_memory.ensures.state member.sound, c.out_of_memory.ensures.told member.sound)
    (fails_then more.so_far (wants_memory _ c.read_member.new.source member.sound))

pub returns-then-is_err-clause-accounted : goal.returns-then-is_err-clause-accounted
returns-then-is_err-clause-accounted g c = stops_of _ (returns-then-is_err-clause-refines g c)

pub loop-set-preserved : goal.loop-set-preserved
loop-set-preserved g c = (
  then_goes c.loop-set.invariant.0 (then_goes c.in_ok-peek.ensures.ok c.in_ok-span.ensures.ok.goes),
  (λ h k. c.in_ok-span.ensures.clear),
  c.in_ok-span.ensures.span,
  (let has = c.loop-set.invariant.3 in
      let peek = some_seen c.args.bound c.in_ok-peek.field-0 (sym c.is_some.ensures ∙ c.if-is_some.true) (c.in_ok-peek.ensures.refines has.sound) in
      let items : c.push.new.self ≡ c.loop-set.set ++ c.in_ok-span.member ∷ [] =
      on_no_err c.push.result (sym c.is_err.ensures.value ∙ c.if-is_err.false) c.push.ensures.ok in
      let member =
      member_gives g.T.Write.grammar.reader c.args.bound (kept_by peek.1.reaches) c.loop-set.last c.loop-set.invariant.2
      (λ (s : State) v. g.T.Write.value s.done v) c.in_ok-span.ensures.refines in
      rw items (more_moved (λ (s : State) v. g.T.Write.value s.done v) (member_of g.T.Write.grammar.reader) _ c.args.bound _ _ _ _ _ _
      c.loop-set.set _ c.in_ok-span.member c.in_ok-span.ensures.ok.some has peek.1 member)),
)

pub returns-in_err-close-clause-clear : goal.returns-in_err-close-clause-clear
returns-in_err-close-clause-clear g c = rw (err_from_is_err_and c.from_residual-in_err-close.result c.from_residual-in_err-close.ensures.1).1 tt

pub returns-in_err-close-clause-refines : goal.returns-in_err-close-clause-refines
returns-in_err-close-clause-refines g c =
    let p = err_from_is_err_and c.from_residual-in_err-close.result c.from_residual-in_err-close.ensures.1 in
    let has = c.loop-set.invariant.3 in
    let peek = saw _ (none_seen c.in_ok-peek.field-0 (sym c.is_some.ensures ∙ c.if-is_some.false)) (c.in_ok-peek.ensures.refines has.sound) in
    rw (p.1, p.2) (close_fails (λ (s : State) v. g.T.Write.value s.done v) _ _ _ _ _ _ _ _ _ _ has peek (c.in_err-close.ensures.refines peek.sound))

pub returns-in_err-close-clause-accounted : goal.returns-in_err-close-clause-accounted
returns-in_err-close-clause-accounted g c = answers_of _ _ _ _ _ (returns-in_err-close-clause-refines g c)

pub returns-clause-accounted : goal.returns-clause-accounted
returns-clause-accounted g c = then_goes c.loop-set.invariant.0 (then_goes c.in_ok-peek.ensures.ok c.in_ok-close.ensures.ok)

pub returns-clause-clear : goal.returns-clause-clear
returns-clause-clear g c before =
    let none = none_seen c.in_ok-peek.field-0 (sym c.is_some.ensures ∙ c.if-is_some.false) in
    c.in_ok-close.ensures.clear (λ definite. ap (λ (s : State). s.ahead) (c.in_ok-peek.ensures.at_end none definite)
    ∙ c.loop-set.invariant.1 before (ends_where c.args.bound (c.in_ok-peek.ensures.refines c.loop-set.invariant.3.sound) none definite))

pub returns-clause-refines : goal.returns-clause-refines
returns-clause-refines g c =
    let has = c.loop-set.invariant.3 in
    let peek = saw _ (none_seen c.in_ok-peek.field-0 (sym c.is_some.ensures ∙ c.if-is_some.false)) (c.in_ok-peek.ensures.refines has.sound) in
    let end = c.in_ok-close.ensures.refines peek.sound in
    let all = all_read (λ (s : State) v. g.T.Write.value s.done v) (member_of g.T.Write.grammar.reader) _ c.args.bound _ _ _ _ _ c.loop-set.set has peek end in
    gave _ all.0 refl end.sound all.1
