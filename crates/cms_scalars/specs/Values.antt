-- The value of an INTEGER (X.690, 8.3.3).
use Rattle.std.specs.Prelude.{◌≡◌, ℕ, ◌*◌, ◌/◌, ◌^◌, ℤ, pos, ◌+ℤ◌, List, [], ◌∷◌, length}
use Rattle.cms_tlv.specs.Headers.{big_endian}

-- bit 8 of the first octet
abbrev pub first_bit : List ℕ → ℕ
first_bit [] = 0
first_bit (x ∷ xs) = x / 128

--- `IsTwosComplement c z`: `c` encodes the number `z` in two's complement [X.690, 8.3.3]
abbrev pub IsTwosComplement : List ℕ → ℤ → Type 0
IsTwosComplement c z = z +ℤ pos (first_bit c * 256 ^ length c) ≡ pos (big_endian c)
