use Rattle.std.proofs.Common.{◌≡◌, ◌-◌, ◌^◌}
use Rattle.cms_tlv.proofs.header.fewest.Given as goal

abbrev pub invariant-loop : goal.invariant-loop
invariant-loop l = l.least ≡ 256 ^ (l.counter - 1)
