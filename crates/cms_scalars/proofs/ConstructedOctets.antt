-- Identifier octets with bit 6.
use Rattle.std.proofs.Common.{◌≡◌, ℕ, ◌+◌, ◌*◌, ◌-◌, ◌/◌, ◌%◌, max, arith}
use Rattle.std.specs.Int.RustNames.{bit_or}
use lib.Bits.{or_step, or_zero_r}
use Rattle.cms_tlv.specs.Headers.{IsConstructed}
use Rattle.cms_scalars.specs.Readers.{constructed}

-- one bit after the other, from the lowest
pub with_bit_6 : (id : ℕ) → constructed id ≡ id + 0x20 * (1 - (id / 32) % 2)
with_bit_6 id =
    let b = id / 2 in
    let c = b / 2 in
    let d = c / 2 in
    let e = d / 2 in
    let f = e / 2 in
    let one : bit_or id 32 ≡ bit_or b 16 * 2 + max (id % 2) 0 = or_step id 32 in
    let two : bit_or b 16 ≡ bit_or c 8 * 2 + max (b % 2) 0 = or_step b 16 in
    let three : bit_or c 8 ≡ bit_or d 4 * 2 + max (c % 2) 0 = or_step c 8 in
    let four : bit_or d 4 ≡ bit_or e 2 * 2 + max (d % 2) 0 = or_step d 4 in
    let five : bit_or e 2 ≡ bit_or f 1 * 2 + max (e % 2) 0 = or_step e 2 in
    let six : bit_or f 1 ≡ bit_or (f / 2) 0 * 2 + max (f % 2) 1 = or_step f 1 in
    omega (arith, one, two, three, four, five, six, or_zero_r (f / 2))

pub has_bit_6 : (id : ℕ) → IsConstructed (constructed id)
has_bit_6 id = omega (arith, with_bit_6 id)
