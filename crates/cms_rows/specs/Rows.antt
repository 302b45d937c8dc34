-- Rows: where in a message the octets of its fields lie.
use Rattle.std.specs.Prelude.{◌≡◌, ◌≢◌, ◌≤◌, ◌⊎◌, ℕ, ◌+◌, ◌==◌, ◌||◌, List, [], ◌∷◌, ◌++◌, map}
use Rattle.std.specs.Prelude.{take, drop, length, Bool, true, false}
use mathlib.Core.Logic.{inl, inr}
use Rattle.std.specs.List.{All}
use Rattle.cms_tlv.specs.Spelling.{join}
use Rattle.cms_scalars.specs.Bits.{bits_of_contents}
use Rattle.cms_rows.specs.declared.kinds.TheConstants.{CONTENT, HASHED_MESSAGE, SIGNATURE}
use Rattle.cms_rows.specs.declared.kinds.TheConstants.{SUBJECT_KEY_IDENTIFIER}
use Rattle.cms_rows.specs.declared.row.Row.{Row}

--- `Entry`: a field: its kind, its level, and its octets, or the named bits that its octets show
abbrev pub Entry : Type 0
Entry = ℕ × (ℕ × (List ℕ ⊎ List ℕ))

--- `entry kind level octets`, `entry_of_bits kind level bits`: one such, alone
abbrev pub entry : ℕ → ℕ → List ℕ → List Entry
entry kind level octets = (kind, (level, inl octets)) ∷ []

-- one of these named bits, alone
abbrev pub entry_of_bits : ℕ → ℕ → List ℕ → List Entry
entry_of_bits kind level bits = (kind, (level, inr bits)) ∷ []

--- `entry_if kind level b`: one without octets if `b` is true, and else none
abbrev pub entry_if : ℕ → ℕ → Bool → List Entry
entry_if kind level true = entry kind level []
entry_if kind level false = []

--- `IsShown b shown`: the octets `b` are those of a field, or show its bits (`bits_of_contents`)
abbrev pub IsShown : List ℕ → List ℕ ⊎ List ℕ → Type 0
IsShown b (inl octets) = b ≡ octets
IsShown b (inr bits) = bits_of_contents b ≡ bits

--- `named k r`: the octets that the row `r` names in `k`
abbrev pub named : List ℕ → Row → List ℕ
named k r = take r.length (drop r.start k)

--- `IsOf k kind level r`: the row is of that kind and level, and what it names lies in `k`
pub record IsOf (k : List ℕ) (kind level : ℕ) (r : Row) : Type 0 where
  pub kind_is : r.kind ≡ kind
  pub level_is : r.level ≡ level
  pub lies : r.start + r.length ≤ length k

--- `is_string kind`: the kind is one of an OCTET STRING, which may be received in segments
abbrev pub is_string : ℕ → Bool
is_string kind =
    (kind == HASHED_MESSAGE)
    || ((kind == CONTENT) || ((kind == SUBJECT_KEY_IDENTIFIER) || (kind == SIGNATURE)))

--- `AreOf k e rows`: the rows are those of the field `e`: one, or of a string one or more; each is
---   of its kind and level;
--- | what they name, one after another, is shown
pub record AreOf (k : List ℕ) (e : Entry) (rows : List Row) : Type 0 where
  pub some : rows ≢ []
  pub one : is_string e.0 ≡ false → length rows ≡ 1
  pub each : All (IsOf k e.0 e.1.0) rows
  pub octets : IsShown (join (map (named k) rows)) e.1.1

--- `Show k es rows`: the rows are those of each field of `es`, in turn
abbrev pub Show : List ℕ → List Entry → List Row → Type 0
Show k [] rows = rows ≡ []
Show k (e ∷ es) rows = (a b : List Row) × (rows ≡ a ++ b) × AreOf k e a × Show k es b

--- `AddsRows k es old new`: such rows were added after those that were there
pub record AddsRows (k : List ℕ) (es : List Entry) (old new : List Row) : Type 0 where
  pub rows : List Row
  pub added : new ≡ old ++ rows
  pub show : Show k es rows
