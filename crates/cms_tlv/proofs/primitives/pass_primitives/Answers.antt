use Rattle.std.proofs.Common.{arith}
use Rattle.cms_tlv.proofs.PassLaws.{passed_none, passed_more, passed_place, all_passed, begins_fit, passed_fits}
use Rattle.cms_tlv.proofs.primitives.pass_primitives.Goals as goal

pub loop-len-init : goal.loop-len-init
loop-len-init c = passed_none _ _ _ _

pub overflow_add-span : goal.overflow_add-span
overflow_add-span c = omega (arith, passed_place c.loop-len.invariant, begins_fit c.in-Some.ensures, c.requires)

pub overflow_add-span-in-Some : goal.overflow_add-span-in-Some
overflow_add-span-in-Some c = omega (arith, passed_place c.loop-len.invariant, begins_fit c.in-Some.ensures, c.requires)

pub overflow_add-span-in-Some-2 : goal.overflow_add-span-in-Some-2
overflow_add-span-in-Some-2 c = omega (arith, passed_place c.loop-len.invariant, begins_fit c.in-Some.ensures, c.requires)

pub loop-len-preserved : goal.loop-len-preserved
loop-len-preserved c = passed_more c.loop-len.invariant c.in-Some.len c.in-Some.behind.now c.in-Some.ensures c.push.new.self c.in_ok-push.ensures.ok

pub overflow_sub-result : goal.overflow_sub-result
overflow_sub-result c = passed_fits c.loop-len.invariant

pub returns-clause-passes : goal.returns-clause-passes
returns-clause-passes c = all_passed c.loop-len.invariant
