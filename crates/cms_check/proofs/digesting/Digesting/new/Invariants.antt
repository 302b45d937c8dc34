use Rattle.std.proofs.Common.{[], take}
use Rattle.cms_check.specs.Hashers.{AreDigesting}
use Rattle.cms_check.proofs.digesting.Digesting.new.Given as goal

abbrev pub invariant-loop-algorithm : goal.invariant-loop-algorithm
invariant-loop-algorithm l = AreDigesting (take l.algorithm-index l.algorithms) [] l.hashers.items
