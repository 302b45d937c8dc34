use Rattle.std.proofs.Common.{◌≡◌, ◌<◌, ℕ, get_or}
use Rattle.cms_check.specs.declared.digests.HashAlg.{HashAlg}
use Rattle.cms_check.specs.declared.digests.Hashed.{Hashed}
use Rattle.cms_check.proofs.digests.Digests.by.Given as goal

abbrev pub invariant-loop-known : goal.invariant-loop-known
invariant-loop-known l = (k : ℕ) (d : HashAlg × Hashed) → k < l.known-index → (get_or l.known-items k d).0 ≡ l.algorithm → ⊥
