use Rattle.std.proofs.Common.{◌≡◌, ◌≤◌, ◌-◌, length, drop}
use Rattle.cms_setof.proofs.absorbing.same_at_end.Given as goal

abbrev pub invariant-loop-n : goal.invariant-loop-n
invariant-loop-n l = record {
  within : (l.n ≤ length l.first) × (l.n ≤ length l.second);
  same : drop (length l.first - l.n) l.first ≡ drop (length l.second - l.n) l.second;
}

abbrev pub decreases-loop-n : goal.decreases-loop-n
decreases-loop-n l = length l.first - l.n
