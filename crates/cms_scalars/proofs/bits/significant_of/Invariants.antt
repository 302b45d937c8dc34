use Rattle.std.proofs.Common.{◌≡◌, ◌<◌, length}
use Rattle.cms_tlv.specs.Headers.{AreOctets}
use Rattle.cms_scalars.specs.Bits.{used_bits}
use Rattle.cms_scalars.proofs.bits.significant_of.Given as goal

abbrev pub invariant-loop-rest : goal.invariant-loop-rest
invariant-loop-rest l = record { some_unused : l.unused < 8; octets : AreOctets l.rest; same : used_bits l.fn.count l.fn.octets ≡ used_bits l.unused l.rest }

abbrev pub decreases-loop-rest : goal.decreases-loop-rest
decreases-loop-rest l = length l.rest
