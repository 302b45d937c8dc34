-- Whole elements of opaque values, one after another.
use Rattle.std.specs.Prelude.{◌≡◌, ◌≢◌, ℕ, zero, suc, ◌+◌, ◌-◌, ◌%◌, ◌^◌, ◌<◌, ◌≤◌, Bool, not, ◌==◌}
use Rattle.std.specs.Prelude.{◌&&◌, List, [], ◌∷◌, ◌++◌, length, take, drop, sum, slice_index}
use Rattle.std.specs.Prelude.{Option, if◌then◌else◌}
use Rattle.cms_tlv.specs.Headers.{IsIdentifier, IsShortLength}
use Rattle.cms_tlv.specs.State.{State}
use Rattle.cms_tlv.specs.Clauses.{Room}
use Rattle.cms_tlv.specs.Opaque.{HasItsForm, IsFramed, AreFramed}
use Rattle.cms_tlv.specs.Reading.{has_its_form}

-- an identifier of one octet, not 00, that has its form
abbrev pub begins_value : ℕ → Bool
begins_value t = not (t == 0) && (not (t % 32 == 31) && has_its_form t)

-- the octets below it are lengths of one octet after the identifier t; none if t begins no value
abbrev pub short_below : ℕ → ℕ
short_below t = if begins_value t then 0x80 else 0

-- elements framed as those of an opaque value are, at most so many of them inside one another
abbrev pub AreWhole : ℕ → List ℕ → Type 0
AreWhole levels b = (d : ℕ) → levels + d ≡ 65 → AreFramed b d

-- and they end before the innermost definite end and the limit
abbrev pub FitIn : Option ℕ → State → ℕ → List ℕ → Type 0
FitIn end s levels b = AreWhole levels b × Room end s.limit (length s.done) (length b)

-- octets that begin with one of them, and what follows it
pub record HasWhole (levels : ℕ) (octets behind : List ℕ) : Type 0 where
  pub element : List ℕ
  pub parts : octets ≡ element ++ behind
  pub some : length behind < length octets
  pub framed : (d : ℕ) → levels + d ≡ 65 → IsFramed element d

-- octets that begin with the header of an opaque element, its identifier one octet and its length
-- len (X.690, 8.1.2.4 and 10.1), and
-- what follows it
pub record HasHeader (octets : List ℕ) (ident len : ℕ) (rest : List ℕ) : Type 0 where
  pub sizes : List ℕ
  pub parts : octets ≡ ident ∷ (sizes ++ rest)
  pub is_identifier : IsIdentifier ident (ident ∷ [])
  pub not_0 : ident ≢ 0
  pub form : HasItsForm ident
  pub is_length : IsShortLength sizes len

-- at a place in octets is the header of an opaque element, of size octets
pub record HasHead (octets : List ℕ) (at ident size len : ℕ) : Type 0 where
  pub header : HasHeader (drop at octets) ident len (drop (at + size) octets)
  pub small : size + len < 2 ^ 17

-- how many octets are left of each of n elements around the innermost, the inner ones first
abbrev pub around_by : List ℕ → ℕ → List ℕ
around_by around zero = []
around_by around (suc n) = slice_index around (suc n) ∷ around_by around n

-- the same of so many elements, room in the innermost
abbrev pub left_in : List ℕ → ℕ → ℕ → List ℕ
left_in around room zero = []
left_in around room (suc n) = room ∷ around_by around n

-- what is left of each element is elements, those in the first at depth d
abbrev pub AreLeft : ℕ → List ℕ → List ℕ → Type 0
AreLeft d rest [] = Unit {0}
AreLeft d rest (n ∷ ns) = AreFramed (take n rest) d × AreLeft (d - 1) (drop n rest) ns

-- a walk is inside at most so many elements: all octets are elements if what is left of each is
pub record Walks (most : ℕ) (octets around : List ℕ) (at room nested : ℕ) : Type 0 where
  pub ends : at + sum (left_in around room nested) ≡ length octets
  pub few : nested ≤ most
  pub there : 2 ≤ room → at + room ≤ length octets
  pub stop : slice_index around 0 ≡ 1
  pub out : nested ≡ 0 → room ≡ 1
  pub leads : (d : ℕ) → d + most ≤ 65
      → AreLeft (d + nested - 1) (drop at octets) (left_in around room nested) → AreFramed octets d
