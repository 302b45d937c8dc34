use Rattle.std.proofs.Common.{◌≡◌, ◌+◌, ◌*◌, ◌^◌, ◌<◌, length, drop}
use Rattle.cms_tlv.specs.Headers.{big_endian}
use Rattle.cms_tlv.proofs.element.number_of.Given as goal

abbrev pub invariant-loop-digit : goal.invariant-loop-digit
invariant-loop-digit l =
    (l.number * 256 ^ length (drop l.digit-index l.digits) + big_endian (drop l.digit-index l.digits) ≡ big_endian l.digits)
    × (l.number < 256 ^ l.digit-index)
