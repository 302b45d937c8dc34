use Rattle.std.proofs.Common.{◌≡◌, take}
use Rattle.cms_scalars.specs.Times.{decimal_value}
use Rattle.cms_scalars.proofs.times.number.Given as goal

abbrev pub invariant-loop-digit : goal.invariant-loop-digit
invariant-loop-digit l = l.number ≡ decimal_value (take l.digit-index l.digits)
