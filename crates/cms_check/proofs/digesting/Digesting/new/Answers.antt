use Rattle.cms_check.proofs.Digested.{one_more_hasher}
use Rattle.cms_check.proofs.digesting.Digesting.new.Goals as goal

pub loop-algorithm-preserved : goal.loop-algorithm-preserved
loop-algorithm-preserved c =
    rw c.in_ok-push.ensures.items (one_more_hasher c.args.algorithms.now c.loop-algorithm.algorithm-index _ c.loop-algorithm.hashers.items
    c.new.result c.loop-algorithm-test.true c.new.ensures.algorithm c.new.ensures.none c.loop-algorithm.invariant)
