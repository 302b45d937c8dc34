-- BIT STRING with a named-bit list (X.690, 8.6 and 11.2). Its value is the list of its bits, bit 0
-- first, up to the last 1.
use Rattle.std.specs.Prelude.{◌≡◌, ℕ, zero, suc, ◌-◌, ◌≤◌, List, [], ◌∷◌, ◌++◌, length, take, Bool}
use Rattle.std.specs.Prelude.{false, nat_lt, ◌==◌, if◌then◌else◌}
use Rattle.std.specs.List.{AllByRecursion}
use Rattle.cms_tlv.specs.declared.fault.Reason.TheVariants.{BitsMalformed}
use Rattle.cms_tlv.specs.declared.bound.Bound.{Bound}
use Rattle.cms_tlv.specs.Headers.{AreOctets}
use Rattle.cms_tlv.specs.Spelling.{Rules, ber, minimal, der, Spelling, element}
use Rattle.cms_tlv.specs.Reading.{Reader, ◌>>=◌, give, scalar_of}
use Rattle.cms_tlv.specs.Spans.{octets_in}
use Rattle.cms_scalars.specs.Scalars.{bits}
use Rattle.cms_scalars.specs.declared.bits.NamedBits.{NamedBits}
use Rattle.cms_scalars.specs.declared.bits.NamedBitsSpan.{NamedBitsSpan}

--- `AreZeros bs`: each of the bits is 0
abbrev pub AreZeros : List ℕ → Type 0
AreZeros bs = AllByRecursion (λ b. b ≡ 0) bs

--- `HasNoTrailingZero v`: the last of the bits, if there is one, is not 0
abbrev pub HasNoTrailingZero : List ℕ → Type 0
HasNoTrailingZero v = (before : List ℕ) → v ≡ before ++ 0 ∷ [] → ⊥

--- `MayFollow m zeros unused`: `zeros` are 0; by DER there are none, and `unused` are 0
---   [X.690, 11.2]
abbrev pub MayFollow : Rules → List ℕ → List ℕ → Type 0
MayFollow ber zeros unused = AreZeros zeros
MayFollow minimal zeros unused = AreZeros zeros
MayFollow der zeros unused = (zeros ≡ []) × AreZeros unused

--- `IsNamedBits m c v`: `c` is a count of unused bits, at most 7, and octets [X.690, 8.6.2]
--- | their bits are `v`, which does not end in 0, then zeros and the unused bits [X.680, 22.7]
pub record IsNamedBits (m : Rules) (c v : List ℕ) : Type 0 where
  pub count : ℕ
  pub octets : List ℕ
  pub contents : c ≡ count ∷ octets
  pub are : AreOctets octets
  pub most : count ≤ 7
  pub zeros : List ℕ
  pub unused : List ℕ
  pub counted : length unused ≡ count
  pub joined : bits octets ≡ v ++ (zeros ++ unused)
  pub no_trailing_zero : HasNoTrailingZero v
  pub may_follow : MayFollow m zeros unused

--- `named_bits m`: a primitive element 03 with such contents [X.690, 8.6.1; only primitive: ours]
abbrev pub named_bits : Rules → Spelling (List ℕ)
named_bits m = element m 0x03 (IsNamedBits m)

-- a bit with others after it, and nothing for a 0 with none
abbrev pub followed_by : ℕ → List ℕ → List ℕ
followed_by zero [] = []
followed_by zero (b ∷ bs) = zero ∷ b ∷ bs
followed_by (suc b) bs = suc b ∷ bs

--- `without_trailing_zeros bs`: bits without the zeros at their end (`followed_by`)
abbrev pub without_trailing_zeros : List ℕ → List ℕ
without_trailing_zeros [] = []
without_trailing_zeros (b ∷ bs) = followed_by b (without_trailing_zeros bs)

--- `used_bits n os`: the bits of the octets `os`, of which `n` are unused, trimmed
abbrev pub used_bits : ℕ → List ℕ → List ℕ
used_bits count octets = without_trailing_zeros (take (length (bits octets) - count) (bits octets))

--- `bits_of_contents c`: the value of the contents octets `c`; no bits if they are no such contents
abbrev pub bits_of_contents : List ℕ → List ℕ
bits_of_contents [] = []
bits_of_contents (count ∷ octets) = if nat_lt count 8 then used_bits count octets else []

-- whether octets are the contents of a BIT STRING
abbrev pub is_bit_string : List ℕ → Bool
is_bit_string [] = false
is_bit_string (count ∷ []) = count == 0
is_bit_string (count ∷ x ∷ xs) = nat_lt count 8

--- `named_bits_of`: the pure reader, by the test `is_bit_string`
unfoldable pub named_bits_of : Bound → Reader (List ℕ)
named_bits_of bd = scalar_of 0x03 is_bit_string BitsMalformed bd >>= λ c. give (bits_of_contents c)

--- `bits_in k x`, `borrowed_bits x`: the value that a span shows in the kept octets; that of a
---   borrowed BIT STRING
abbrev pub bits_in : List ℕ → NamedBitsSpan → List ℕ
bits_in k x = bits_of_contents (octets_in k x.span.start x.span.end)

-- the value of a borrowed BIT STRING
abbrev pub borrowed_bits : NamedBits → List ℕ
borrowed_bits x = bits_of_contents x.octets.now
