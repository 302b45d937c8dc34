use Rattle.std.proofs.Common.{◌≡◌, length, ◌-◌, ◌^◌, ◌<◌, ◌≤◌, drop}
use Rattle.cms_tlv.proofs.DigitLaws.{EndsIn}
use Rattle.cms_tlv.proofs.writing.digits.Given as goal

abbrev pub invariant-loop-rest : goal.invariant-loop-rest
invariant-loop-rest l = (2 ≤ l.start) × (l.start ≤ 10) × (l.rest < 256 ^ (l.start - 2)) × (length l.octets ≡ 10) × EndsIn (drop l.start l.octets) l.rest l.n

abbrev pub decreases-loop-rest : goal.decreases-loop-rest
decreases-loop-rest l = l.rest
