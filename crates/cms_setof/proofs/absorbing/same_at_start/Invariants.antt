use Rattle.std.proofs.Common.{◌≡◌, ◌≤◌, ◌-◌, length, take}
use Rattle.cms_setof.proofs.absorbing.same_at_start.Given as goal

abbrev pub invariant-loop-n : goal.invariant-loop-n
invariant-loop-n l = record {
  within : (l.n ≤ length l.first) × (l.n ≤ length l.second);
  same : take l.n l.first ≡ take l.n l.second;
}

abbrev pub decreases-loop-n : goal.decreases-loop-n
decreases-loop-n l = length l.first - l.n
