-- How values are spelled in octets: by BER, by BER with minimal lengths, or by DER.
use Rattle.std.specs.Prelude.{◌≡◌, ℕ, List, [], ◌++◌, Option, None, Some, ⊤, ◌⊎◌}
use mathlib.Core.Logic.{inl, inr}
use Rattle.std.specs.List.{AllZip, flat_map}
use Rattle.cms_tlv.specs.Frames.{IsElement, IsDerElement}
use Rattle.cms_tlv.specs.Order.{Ascends}

--- `Rules`: by which rules octets are read or written: BER, or DER [X.690, 8, 10, 11]
--- | `minimal` is BER in which each length is definite and shortest, and the members of a set
---   ascend [X.690, 8, 10.1, 11.6]
pub data Rules : Type 0 where
  ber minimal der : Rules

--- `Spelling V`: a relation of octet lists and values of `V`: which octets spell which value
abbrev pub Spelling : Type 0 → Type 1
Spelling V = List ℕ → V → Type 0

--- `IsElementBy m b id c`: by BER `IsElement`, by DER `IsDerElement` [X.690, 8.1.1, 10.1]
abbrev pub IsElementBy : Rules → List ℕ → ℕ → List ℕ → Type 0
IsElementBy ber b id c = IsElement b id c
IsElementBy minimal b id c = IsDerElement b id c
IsElementBy der b id c = IsDerElement b id c

--- `element m id R`: by `m`, an element: octet `id`, a length, and what `R` spells [X.690, 8.1.1]
abbrev pub element : {V : Type 0} → Rules → ℕ → Spelling V → Spelling V
element m id R b v = (c : List ℕ) × IsElementBy m b id c × R c v

infixr 30 ◌⨟◌
--- `R ⨟ S`: a spelling by `R`, then one by `S` [X.690, 8.9]
abbrev pub ◌⨟◌ : {V W : Type 0} → Spelling V → Spelling W → Spelling (V × W)
(R ⨟ S) b v = (b₁ b₂ : List ℕ) × (b ≡ b₁ ++ b₂) × R b₁ v.0 × S b₂ v.1

--- `optional R`: no octets if the value is absent, else a spelling by `R` [X.690, 8.9.3]
abbrev pub optional : {V : Type 0} → Spelling V → Spelling (Option V)
optional R b None = b ≡ []
optional R b (Some v) = R b v

--- `either R S`: by `R`, a value of the first kind; or by `S`, one of the second [X.690, 8.13]
abbrev pub either : {V W : Type 0} → Spelling V → Spelling W → Spelling (V ⊎ W)
either R S b (inl v) = R b v
either R S b (inr w) = S b w

--- `InOrder m bs`: by BER in any order, by DER ascending [X.690, 11.6]
abbrev pub InOrder : Rules → List (List ℕ) → Type 0
InOrder ber bs = ⊤
InOrder minimal bs = Ascends bs
InOrder der bs = Ascends bs

--- `join bs`: the lists `bs` one after another
abbrev pub join : List (List ℕ) → List ℕ
join bs = flat_map (λ b. b) bs

--- `rows R`: spellings by `R` of the values, one after another
abbrev pub rows : {V : Type 0} → Spelling V → Spelling (List V)
rows R b vs = (bs : List (List ℕ)) × (b ≡ join bs) × AllZip R bs vs

--- `members m R`: spellings by `R` of the values, which are `InOrder` [X.690, 8.12, 11.6]
abbrev pub members : {V : Type 0} → Rules → Spelling V → Spelling (List V)
members m R b vs = (bs : List (List ℕ)) × (b ≡ join bs) × AllZip R bs vs × InOrder m bs

infixl 20 ◌where_value◌
--- `R where_value P`: a spelling by `R` of a value with `P`
abbrev pub ◌where_value◌ : {V : Type 0} → Spelling V → (V → Type 0) → Spelling V
(R where_value P) b v = R b v × P v

--- `with_octets R`: a spelling by `R`; the value includes the octets themselves
abbrev pub with_octets : {V : Type 0} → Spelling V → Spelling (List ℕ × V)
with_octets R b v = (b ≡ v.0) × R b v.1
