use Rattle.std.proofs.Common.{inl, ◌≡◌, ◌+◌, ◌-◌, ◌&&◌, eqb, false, arith, subst}
use Rattle.std.proofs.lemmas.Result.{err_from_is_err_and}
use Rattle.cms_tlv.specs.declared.fault.Reason.TheVariants.{UnexpectedElement}
use Rattle.cms_tlv.specs.Refines.{Simulates}
use Rattle.cms_tlv.specs.Reading.{tag_of}
use Rattle.cms_tlv.proofs.Numbers.{digit_more, digit_fits}
use Rattle.cms_tlv.proofs.Inverse.{eqb_no, and_false_first, and_false_second}
use Rattle.cms_tlv.proofs.HeaderGives.{tag_next, tag_step, tag_none, tag_low, tag_ends, tag_zero, tag_more, step_gave, step_failed, gave_give, refused_as}
use Rattle.cms_tlv.proofs.source.Source.tag_number.Goals as goal
use Rattle.cms_tlv.proofs.source.Source.tag_number.Goals.{In_ok-octet, else-octet-via-then-octet+else-number-eq0, else-octet-via-else-octet}

-- after the octet
stepped :
    (g : _) (c : In_ok-octet g) → Simulates (tag_of c.args.end 4 0) c.args.self.now
    (tag_next c.args.end (4 - (c.loop.counter + 1)) c.loop.number c.in_ok-octet.octet) c.next.new.self
stepped g c =
    step_gave c.args.end (tag_next c.args.end (4 - (c.loop.counter + 1)) c.loop.number) c.loop.invariant.so_far
    (tag_step c.args.end c.loop.counter c.loop.number c.loop-test.true) c.in_ok-octet.ensures.refines

pub returns-in_err-octet-clause-refines : goal.returns-in_err-octet-clause-refines
returns-in_err-octet-clause-refines g c =
    let p = err_from_is_err_and c.from_residual.result c.from_residual.ensures.1 in
    rw (p.1, p.2) (step_failed c.args.end _ c.loop.invariant.so_far (tag_step c.args.end c.loop.counter c.loop.number c.loop-test.true)
    c.in_err-octet.ensures.refines)

pub overflow_mul-number : goal.overflow_mul-number
overflow_mul-number g c =
    let h = digit_fits 128 c.loop.counter 4 c.loop.number 0 (omega arith) (omega arith) c.loop.invariant.small (omega arith) in omega arith

pub overflow_add-number : goal.overflow_add-number
overflow_add-number g c =
    let h = digit_fits 128 c.loop.counter 4 c.loop.number 0 (omega arith) (omega arith) c.loop.invariant.small (omega arith) in omega arith

pub returns-then-number-octet-lt31-clause-refines : goal.returns-then-number-octet-lt31-clause-refines
returns-then-number-octet-lt31-clause-refines g c =
    refused_as UnexpectedElement c.in_ok-octet.ensures.refines.sound (λ e. absurd cc) (inl tt) (stepped g
    (goal.at.returns-then-number-octet-lt31-clause-refines g c).In_ok-octet)
    (tag_low c.args.end _ c.loop.number c.in_ok-octet.octet c.if-octet-lt128.true c.if-number-octet-lt31.true) c.refused.ensures.state
    c.refused.ensures.same

pub returns-then-octet-lt128-clause-refines : goal.returns-then-octet-lt128-clause-refines
returns-then-octet-lt128-clause-refines g c =
    gave_give tt (stepped g (goal.at.returns-then-octet-lt128-clause-refines g c).In_ok-octet)
    (tag_ends c.args.end _ c.loop.number c.in_ok-octet.octet c.if-octet-lt128.true c.if-number-octet-lt31.false)
    c.in_ok-octet.ensures.refines.sound

pub returns-then-number-eq0-clause-refines : goal.returns-then-number-eq0-clause-refines
returns-then-number-eq0-clause-refines g c =
    refused_as UnexpectedElement c.in_ok-octet.ensures.refines.sound (λ e. absurd cc) (inl tt) (stepped g (goal.at.returns-then-number-eq0-clause-refines g c).In_ok-octet)
    (tag_zero c.args.end _ c.loop.number c.in_ok-octet.octet c.if-octet.true c.if-number-eq0.true)
    c.refused-then-number-eq0.ensures.state c.refused-then-number-eq0.ensures.same

pub overflow_mul-number-in-loop : goal.overflow_mul-number-in-loop
overflow_mul-number-in-loop g c =
    let h = digit_fits 128 c.loop.counter 4 c.loop.number 0 (omega arith) (omega arith) c.loop.invariant.small (omega arith) in omega arith

pub overflow_add-number-in-loop : goal.overflow_add-number-in-loop
overflow_add-number-in-loop g c =
    let h = digit_fits 128 c.loop.counter 4 c.loop.number 0 (omega arith) (omega arith) c.loop.invariant.small (omega arith) in omega arith

pub loop-preserved : goal.loop-preserved
loop-preserved g c =
    let n = c.loop.number in
    let b = c.in_ok-octet.octet in
    let no : (eqb b 128 && eqb n 0) ≡ false = elim c.else-octet.branch [
      | else-octet-via-then-octet+else-number-eq0 w ↦ and_false_second (eqb b 128) (eqb n 0) (eqb_no n 0 w.if-number-eq0.false)
      | else-octet-via-else-octet w ↦ and_false_first (eqb b 128) (eqb n 0) (eqb_no b 128 w.if-octet.false)
    ] in
    let e = tag_more c.args.end (4 - (c.loop.counter + 1)) n b c.if-octet-lt128.false no in
    record {
      so_far = subst (λ r. Simulates (tag_of c.args.end 4 0) c.args.self.now r c.next.new.self) e (stepped g (goal.at.loop-preserved g c).In_ok-octet);
      sound = c.in_ok-octet.ensures.refines.sound;
      still_clear = λ none. c.in_ok-octet.ensures.clear;
      small = digit_more 128 c.loop.counter n (b - 128) c.loop.invariant.small (omega arith);
    }

pub returns-clause-refines : goal.returns-clause-refines
returns-clause-refines g c =
    refused_as UnexpectedElement c.loop.invariant.sound (λ e. absurd cc) (inl tt) c.loop.invariant.so_far
    (tag_none c.args.end c.loop.counter c.loop.number c.loop-test.false) c.refused-2.ensures.state c.refused-2.ensures.same
