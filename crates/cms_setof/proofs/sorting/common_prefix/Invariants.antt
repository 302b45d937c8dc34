use Rattle.std.proofs.Common.{◌≡◌, ◌<◌, ℕ}
use Rattle.cms_tlv.specs.Order.{octet_at}
use Rattle.cms_setof.proofs.sorting.common_prefix.Given as goal

abbrev pub invariant-loop-i : goal.invariant-loop-i
invariant-loop-i l = (k : ℕ) → k < l.i → octet_at l.a k ≡ octet_at l.b k
