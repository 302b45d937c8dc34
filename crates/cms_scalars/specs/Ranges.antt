-- INTEGER of a range (X.680, 51.4).
use Rattle.std.specs.Prelude.{◌≤◌, ◌==◌, ◌&&◌, ℕ, pos, List, Bool, nat_le}
use Rattle.cms_tlv.specs.Headers.{big_endian}
use Rattle.cms_scalars.specs.Values.{first_bit, IsTwosComplement}

--- `IsInRange low high c`: `c` encodes a number from `low` to `high` [X.680, 51.4]
abbrev pub IsInRange : ℕ → ℕ → List ℕ → Type 0
IsInRange low high c = (n : ℕ) × IsTwosComplement c (pos n) × (low ≤ n) × (n ≤ high)

--- `is_in_range low high c`: the test for it: bit 8 of the first octet is 0, and the number of the
---   octets is from `low` to `high`
abbrev pub is_in_range : ℕ → ℕ → List ℕ → Bool
is_in_range low high c =
    (first_bit c == 0) && (nat_le low (big_endian c) && nat_le (big_endian c) high)
