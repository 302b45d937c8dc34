use Rattle.std.proofs.Common.{◌≡◌, ◌≤◌, ◌<◌, ℕ, length, get_or, true}
use Rattle.cms_pem.specs.Pem.{is_blank}
use Rattle.cms_pem.proofs.edge.trimmed.Given as goal

abbrev pub invariant-loop-n : goal.invariant-loop-n
invariant-loop-n l = record {
  within : l.n ≤ length l.line;
  blank : (k : ℕ) → l.n ≤ k → k < length l.line → is_blank (get_or l.line k 0) ≡ true;
}

abbrev pub decreases-loop-n : goal.decreases-loop-n
decreases-loop-n l = l.n
