use Rattle.std.proofs.Common.{◌+◌, ◌-◌, arith}
use Rattle.std.proofs.lemmas.Result.{err_from_is_err_and}
use Rattle.cms_tlv.proofs.Numbers.{digit_more, digit_fits}
use Rattle.cms_tlv.proofs.HeaderGives.{number_next, number_step, number_none, step_gave, step_failed, gave_give}
use Rattle.cms_tlv.proofs.source.Source.number.Goals as goal

pub returns-in_err-octet-clause-refines : goal.returns-in_err-octet-clause-refines
returns-in_err-octet-clause-refines g c =
    let p = err_from_is_err_and c.from_residual.result c.from_residual.ensures.1 in
    let e = number_step c.args.end c.args.count c.loop.counter c.loop.number c.loop-test.true in
    rw (p.1, p.2) (step_failed c.args.end _ c.loop.invariant.so_far e c.in_err-octet.ensures.refines)

pub overflow_mul-number : goal.overflow_mul-number
overflow_mul-number g c =
    let h = digit_fits 256 c.loop.counter 8 c.loop.number c.in_ok-octet.octet (omega arith) (omega (arith, c.requires.few))
    c.loop.invariant.small (omega arith) in omega arith

pub overflow_add-number : goal.overflow_add-number
overflow_add-number g c =
    let h = digit_fits 256 c.loop.counter 8 c.loop.number c.in_ok-octet.octet (omega arith) (omega (arith, c.requires.few))
    c.loop.invariant.small (omega arith) in omega arith

pub loop-preserved : goal.loop-preserved
loop-preserved g c =
    let n = c.loop.number in
    let b = c.in_ok-octet.octet in
    let e = number_step c.args.end c.args.count c.loop.counter n c.loop-test.true in
    let h = digit_more 256 c.loop.counter n b c.loop.invariant.small (omega arith) in
    record {
      so_far = step_gave c.args.end (number_next c.args.end (c.args.count - (c.loop.counter + 1)) n) c.loop.invariant.so_far e c.in_ok-octet.ensures.refines;
      sound = c.in_ok-octet.ensures.refines.sound;
      clear = c.in_ok-octet.ensures.clear;
      small = omega arith;
    }

pub returns-clause-refines : goal.returns-clause-refines
returns-clause-refines g c =
    gave_give c.loop.number c.loop.invariant.so_far (number_none c.args.end c.args.count c.loop.counter c.loop.number c.loop-test.false)
    c.loop.invariant.sound
