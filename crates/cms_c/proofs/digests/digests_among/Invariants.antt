use Rattle.std.proofs.Common.{◌≡◌, List, ℕ}
use Rattle.std.specs.List.{All}
use Rattle.cms_check.specs.Digests.{digest_by, digest_octets}
use Rattle.cms_c.specs.Digests.{AreDigestsOfC}
use Rattle.cms_c.proofs.digests.digests_among.Given as goal

abbrev pub invariant-loop-algorithm : goal.invariant-loop-algorithm
invariant-loop-algorithm l = All (λ d. (m : List ℕ) → AreDigestsOfC l.given m → digest_octets d.1 ≡ digest_by d.0 m) l.digests.items
