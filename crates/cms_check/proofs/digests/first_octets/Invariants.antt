use Rattle.std.proofs.Common.{◌≡◌, length, take}
use Rattle.cms_check.proofs.digests.first_octets.Given as goal

abbrev pub invariant-loop-i : goal.invariant-loop-i
invariant-loop-i g l = (length l.first ≡ g.row.N) × (take l.i l.first ≡ take l.i l.octets)
