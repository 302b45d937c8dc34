-- Octets that are written as they were received.
use Rattle.std.specs.Prelude.{◌≡◌, ◌<◌, ◌⊎◌, ℕ, List, ◌∷◌, ◌++◌, Bool, true, map, bytes_eq, Option}
use Rattle.std.specs.Prelude.{option_to_list, count_by}
use mathlib.Core.Logic.{inl, inr}
use Rattle.std.specs.List.{flat_map}
use Rattle.cms_tlv.specs.declared.span.Span.{Span}
use Rattle.cms_tlv.specs.Spans.{octets_in}
use Rattle.cms_tlv.specs.Opaque.{IsOpaque}
use Rattle.cms_tlv.specs.Spelling.{Spelling}

--- `as_received P`: octets with `P` spell themselves
abbrev pub as_received : (List ℕ → Type 0) → Spelling (List ℕ)
as_received P b v = (b ≡ v) × P b

--- `IsOpaqueAmong allowed b`: `b` is an opaque element whose first identifier octet is allowed
abbrev pub IsOpaqueAmong : (ℕ → Bool) → List ℕ → Type 0
IsOpaqueAmong allowed b = IsOpaque b × (t : ℕ) × (r : List ℕ) × (b ≡ t ∷ r) × (allowed t ≡ true)

--- `spanned_in k spans`: the octets that the spans show in `k`, a list for each span
abbrev pub spanned_in : List ℕ → List Span → List (List ℕ)
spanned_in k spans = map (λ s. octets_in k s.start s.end) spans

--- `IsPart z b`: `z` is in `b`, in one piece
abbrev pub IsPart : List ℕ → List ℕ → Type 0
IsPart z b = (x y : List ℕ) × (b ≡ x ++ (z ++ y))

--- `times z zs`: how often `z` is among the lists `zs`
abbrev pub times : List ℕ → List (List ℕ) → ℕ
times z zs = count_by (bytes_eq z) zs

--- `in_option f o`: what `f` gives for the value in `o`; nothing if there is none
abbrev pub in_option : {V : Type 0} → (V → List (List ℕ)) → Option V → List (List ℕ)
in_option f o = flat_map f (option_to_list o)

--- `in_either f g x`: what `f` gives for a value of the first kind, or `g` for one of the second
abbrev pub in_either : {V W X : Type 0} → (V → X) → (W → X) → V ⊎ W → X
in_either f g (inl v) = f v
in_either f g (inr w) = g w

--- `ArePartsOf R f`: each list that `f` gives of a value is part of what spells that value by `R`
pub record ArePartsOf {V : Type 0} (R : Spelling V) (f : V → List (List ℕ)) : Type 0 where
  pub are_parts : (b : List ℕ) (v : V) → R b v → (z : List ℕ) → 0 < times z (f v) → IsPart z b

--- `CountedAlike P same f`: if two values with `P` are the same, then for each test, `f` gives
---   equally many items that pass it for both
pub record CountedAlike {V X : Type 0} (P : V → Type 0) (same : V → V → Bool)
    (f : V → List X) : Type 0 where
  pub counted : (v w : V) → P v → P w → same v w ≡ true → (t : X → Bool)
      → count_by t (f v) ≡ count_by t (f w)
