use Rattle.std.proofs.Common.{◌≡◌, drop}
use Rattle.cms_scalars.proofs.Values.{onward}
use Rattle.cms_scalars.proofs.scalars.number_of.Given as goal

abbrev pub invariant-loop-octet : goal.invariant-loop-octet
invariant-loop-octet l = onward 0 l.octets ≡ onward l.number (drop l.octet-index l.octets)
