use Rattle.cms_tlv.proofs.AtHand.{all_rest, less_rest, whole_passed, rest_fits}
use Rattle.cms_tlv.proofs.whole.whole.Goals as goal

pub loop-behind-init : goal.loop-behind-init
loop-behind-init c = all_rest _ _

pub loop-behind-preserved : goal.loop-behind-preserved
loop-behind-preserved c = less_rest c.loop-behind.invariant c.in-Some.ensures

pub overflow_sub-result : goal.overflow_sub-result
overflow_sub-result c = rest_fits c.loop-behind.invariant

pub returns-clause-whole : goal.returns-clause-whole
returns-clause-whole c = whole_passed c.loop-behind.invariant
