-- The numbers of a range, by their octets.
use Rattle.std.proofs.Common.{◌≡◌, ℕ, zero, suc, ◌+◌, ◌*◌, ◌^◌, ◌<◌, ◌≤◌, Bool, true, false, ◌&&◌, ◌==◌, nat_le, List, length, pos, refl, sym, ap, ◌∙◌, arith}
use Rattle.std.proofs.lemmas.Bool.{eqb-true, leb-true}
use Rattle.cms_tlv.specs.Headers.{AreOctets, big_endian}
use Rattle.cms_tlv.proofs.HeaderLaws.{big_endian_below}
use Rattle.cms_tlv.proofs.Inverse.{and_first, and_second, leb_yes, leb_no}
use Rattle.cms_scalars.specs.Values.{first_bit, IsTwosComplement}
use Rattle.cms_scalars.specs.Ranges.{IsInRange, is_in_range}
use Rattle.cms_scalars.proofs.Values.{stands}

no_multiple : (f p n b : ℕ) → n + f * p ≡ b → b < p → f ≡ 0
no_multiple zero p n b e l = refl
no_multiple (suc f) p n b e l = absurd (omega arith)

-- a number that is not negative is that of its octets, and bit 8 of the first of them is 0
not_negative : (c : List ℕ) → AreOctets c → (n : ℕ) → IsTwosComplement c (pos n) → (first_bit c ≡ 0) × (big_endian c ≡ n)
not_negative c o n e =
    let s = stands c n e in
    let z = no_multiple (first_bit c) (256 ^ length c) n (big_endian c) s (big_endian_below c o) in
    let t : first_bit c * 256 ^ length c ≡ 0 = rw z (omega arith) in
    (z, omega arith)

pub range_known : (low high : ℕ) (c : List ℕ) → is_in_range low high c ≡ true → IsInRange low high c
range_known low high c t =
    let z = eqb-true (first_bit c) 0 (and_first _ _ t) in
    let r = and_second (first_bit c == 0) _ t in
    let f : first_bit c * 256 ^ length c ≡ 0 = rw z (omega arith) in
    let s : big_endian c + first_bit c * 256 ^ length c ≡ big_endian c = omega arith in
    (big_endian c, ap pos s, leb-true low (big_endian c) (and_first _ _ r), leb-true (big_endian c) high (and_second (nat_le low (big_endian c)) _ r))

range_test : (low high : ℕ) (c : List ℕ) → AreOctets c → (n : ℕ) → IsTwosComplement c (pos n) → (nat_le low n && nat_le n high) ≡ is_in_range low high c
range_test low high c o n e =
    let k = not_negative c o n e in
    rw (k.0, k.1) refl

pub test_from_low : (low high : ℕ) (c : List ℕ) → AreOctets c → (n : ℕ) → IsTwosComplement c (pos n) → low ≤ n → nat_le n high ≡ is_in_range low high c
test_from_low low high c o n e l = rw (leb_yes low n l) at (range_test low high c o n e)

pub test_below_low : (low high : ℕ) (c : List ℕ) → AreOctets c → (n : ℕ) → IsTwosComplement c (pos n) → n < low → nat_le low n ≡ is_in_range low high c
test_below_low low high c o n e l = let f = leb_no low n l in f ∙ (rw f at (range_test low high c o n e))

pub range_tested : (low high : ℕ) (c : List ℕ) → AreOctets c → IsInRange low high c → is_in_range low high c ≡ true
range_tested low high c o r = sym (range_test low high c o r.0 r.1) ∙ rw (leb_yes low r.0 r.2, leb_yes r.0 high r.3) refl

-- no number below 2^64 is none of the range
pub none_in_range : (low high : ℕ) (c : List ℕ) → high < 2 ^ 64 → ((n : ℕ) → IsTwosComplement c (pos n) → n < 2 ^ 64 → ⊥) → is_in_range low high c ≡ false
none_in_range low high c h none = not_so (is_in_range low high c) (λ t. let r = range_known low high c t in none r.0 r.1 (omega (arith, h, r.3)))
  where
    not_so : (b : Bool) → (b ≡ true → ⊥) → b ≡ false
    not_so true n = absurd (n refl)
    not_so false n = refl
