use Rattle.std.proofs.Common.{◌≡◌, ◌++◌, ◌∷◌, [], length, ap, arith}
use Rattle.cms_scalars.specs.Scalars.{bits}
use Rattle.cms_scalars.specs.Bits.{without_trailing_zeros, borrowed_bits}
use Rattle.cms_scalars.proofs.BitStrings.{width_is}
use Rattle.cms_scalars.proofs.bits.NamedBits.width.Goals as goal

pub returns-in-Some : goal.returns-in-Some
returns-in-Some c =
    let k = c.in-Some.ensures in
    let e :
    length (borrowed_bits c.args.self.now) ≡ length (without_trailing_zeros
    (bits (c.in-Some.octets.front.now ++ c.in-Some.octets.last ∷ []))) = ap length k.some.1 in
    let w = width_is c.in-Some.octets.front.now c.in-Some.octets.last k.octets k.some.0 in
    omega arith
