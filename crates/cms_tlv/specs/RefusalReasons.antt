-- Why reading stops: what the octets before say of the reason (X.690, 8.1.3 and the contents of
-- each type).
use Rattle.std.specs.Prelude.{◌≡◌, ℕ, ◌+◌, ◌<◌, ◌≤◌, List, [], ◌∷◌, ◌++◌, length, None, Ok, Err}
use Rattle.std.specs.Prelude.{◌⊎◌, Bool, true, false}
use Rattle.cms_tlv.specs.declared.fault.Reason.{Reason}
use Rattle.cms_tlv.specs.declared.fault.Reason.TheVariants.{TooLarge, LengthReserved, LengthTooLong}
use Rattle.cms_tlv.specs.declared.fault.Reason.TheVariants.{IndefinitePrimitive, IntegerMalformed}
use Rattle.cms_tlv.specs.declared.fault.Reason.TheVariants.{OidMalformed, BooleanMalformed}
use Rattle.cms_tlv.specs.declared.fault.Reason.TheVariants.{BitsMalformed, NotSignedData, Trailing}
use Rattle.cms_tlv.specs.declared.bound.Bound.{Bound}
use Rattle.cms_tlv.specs.Clauses.{Contains, EndsBefore}
use Rattle.cms_tlv.specs.Frames.{IsPath}
use Rattle.cms_tlv.specs.Headers.{IsConstructed, IsHeader, IsIdentifier, IsLength}
use Rattle.cms_tlv.specs.Reading.{Cursor, stop, Reader}
use Rattle.cms_tlv.specs.Refines.{NeedsNoOctets}
use Rattle.cms_tlv.specs.Law.{Moves}
use Rattle.cms_tlv.specs.State.{State}
use Rattle.cms_tlv.specs.declared.fault.Fault.{Fault}
use Rattle.cms_tlv.specs.declared.fault.Fault.TheVariants as faults

--- `HeaderSays limit at t l reason`: what the length octets `l`, after an identifier that begins
---   with `t` and up to the place `at`, say of the reason:
--- | E2: they are the length of contents that pass the limit [ours]
--- | E3: they are FF [X.690, 8.1.3.5]
--- | E4: they are 89 to FE [ours]
--- | E5: they are 80, and the identifier is primitive [X.690, 8.1.3.2]
--- | E8 to E11, E17 and E18: nothing does; any other reason: nothing has to
abbrev pub HeaderSays : ℕ → ℕ → ℕ → List ℕ → Reason → Type 0
HeaderSays limit at t l TooLarge = (n : ℕ) × IsLength l n × (limit < at + n)
HeaderSays limit at t l LengthReserved = l ≡ 0xff ∷ []
HeaderSays limit at t l LengthTooLong = (f : ℕ) × (l ≡ f ∷ []) × (0x89 ≤ f) × (f ≤ 0xfe)
HeaderSays limit at t l IndefinitePrimitive = (l ≡ 0x80 ∷ []) × (IsConstructed t → ⊥)
HeaderSays limit at t l IntegerMalformed = ⊥
HeaderSays limit at t l OidMalformed = ⊥
HeaderSays limit at t l BooleanMalformed = ⊥
HeaderSays limit at t l BitsMalformed = ⊥
HeaderSays limit at t l NotSignedData = ⊥
HeaderSays limit at t l Trailing = ⊥
HeaderSays limit at t l reason = Unit {0}

-- A record that holds parts in a primitive element is none of X.690, so there is no path to them.
--- `IsPathIf paths b`: if `paths`, `b` is a path (`IsPath`)
abbrev pub IsPathIf : Bool → List ℕ → Type 0
IsPathIf true b = IsPath b
IsPathIf false b = Unit {0}

--- `Lasts c reason at`, `Ties`, `TiesLast paths`: a pure reader stopped after such a header; or no
---   octets have to say why; or either is so after octets that `IsPathIf paths`
pub record Lasts (c : Cursor) (reason : Reason) (at : ℕ) : Type 0 where
  pub identifier : List ℕ
  pub sizes : List ℕ
  pub first : ℕ
  pub after : Cursor
  pub moves : Moves c (identifier ++ sizes) after
  pub here : after.at ≡ at
  pub is_identifier : IsIdentifier first identifier
  pub says : HeaderSays c.limit at first sizes reason

abbrev pub Ties : Cursor → Reason → ℕ → Type 0
Ties c reason at = NeedsNoOctets c.limit at reason ⊎ Lasts c reason at

-- what `Ties` says, but of the last header, which follows a path if `paths`
pub record TiesLast (paths : Bool) (c : Cursor) (reason : Reason) (at : ℕ) : Type 0 where
  pub prefix : List ℕ
  pub path : IsPathIf paths prefix
  pub last : Cursor
  pub moves : Moves c prefix last
  pub ties : Ties last reason at

--- `Malforms K c reason at`: it stopped after octets of which `K` says that the reason is for them
pub record Malforms (K : Reason → List ℕ → Type 0) (c : Cursor) (reason : Reason)
    (at : ℕ) : Type 0 where
  pub octets : List ℕ
  pub after : Cursor
  pub moves : Moves c octets after
  pub here : after.at ≡ at
  pub malformed : K reason octets

--- `HasCause paths K c reason at`: one of these
abbrev pub HasCause : Bool → (Reason → List ℕ → Type 0) → Cursor → Reason → ℕ → Type 0
HasCause paths K c reason at = TiesLast paths c reason at ⊎ Malforms K c reason at

--- `Explained paths K n bd f`: `f` takes at least `n` octets, none past the bound `bd`, and they
---   are a path if `paths`; each of its refusals `HasCause`
pub record Explained (paths : Bool) (K : Reason → List ℕ → Type 0) {A : Type 0} (n : ℕ)
    (bd : Bound) (f : Reader A) : Type 0 where
  pub goes : (c d : Cursor) (v : A) → f c ≡ Ok (v, d) → (b : List ℕ) × Moves c b d × (n ≤ length b)
      × (1 ≤ length b → EndsBefore bd.end d.at) × IsPathIf paths b
  pub cause : (c : Cursor) (reason : Reason) (at : ℕ) → f c ≡ Err (stop reason at)
      → HasCause paths K c reason at

--- `IsFree reason`: with this reason no octets have to say why
abbrev pub IsFree : Reason → Type 0
IsFree reason = (limit at : ℕ) → NeedsNoOctets limit at reason

-- For which reason octets are refused, from the first octet of what is read to the last one taken.

--- `says_nothing`: no octets are refused for any reason
abbrev pub says_nothing : Reason → List ℕ → Type 0
says_nothing reason b = ⊥

--- `says_element id P refusal`: an element with the identifier octet `id` whose contents are `P` is
---   refused for the reason `refusal`, and nothing else [X.690, 8.1.1]
abbrev pub says_element : ℕ → (List ℕ → Type 0) → Reason → Reason → List ℕ → Type 0
says_element id P refusal reason b =
    (c : List ℕ) × (reason ≡ refusal) × Contains id false b c × P c

--- `says_malformed id P malformed`: `says_element` of contents that are not `P`
abbrev pub says_malformed : ℕ → (List ℕ → Type 0) → Reason → Reason → List ℕ → Type 0
says_malformed id P malformed = says_element id (λ c. P c → ⊥) malformed

--- `either_says K L`: what one of the two says
abbrev pub either_says : (Reason → List ℕ → Type 0) → (Reason → List ℕ → Type 0) → Reason → List ℕ
    → Type 0
either_says K L reason b = K reason b ⊎ L reason b

--- `says_later paths K`: what `K` says, after octets that are a path if `paths`
abbrev pub says_later : Bool → (Reason → List ℕ → Type 0) → Reason → List ℕ → Type 0
says_later paths K reason b =
    (b₁ b₂ : List ℕ) × (b ≡ b₁ ++ b₂) × IsPathIf paths b₁ × K reason b₂

--- `says_then paths K L`: what `K` says, or what `L` says after octets that are a path if `paths`
abbrev pub says_then : Bool → (Reason → List ℕ → Type 0) → (Reason → List ℕ → Type 0) → Reason
    → List ℕ → Type 0
says_then paths K L = either_says K (says_later paths L)

--- `says_inside id K`: what `K` says, after the header of an element with the identifier octet `id`
abbrev pub says_inside : ℕ → (Reason → List ℕ → Type 0) → Reason → List ℕ → Type 0
says_inside id K reason b = (b₁ b₂ : List ℕ) × (b ≡ b₁ ++ b₂) × IsHeader id b₁ × K reason b₂

-- Calls.

--- `HeaderTaken old new P`: since `old`, identifier octets and length octets with `P` were taken,
---   and nothing else [X.690, 8.1.2, 8.1.3]
pub record HeaderTaken (old new : State) (P : ℕ → List ℕ → Type 0) : Type 0 where
  pub identifier : List ℕ
  pub sizes : List ℕ
  pub first : ℕ
  pub taken : new.done ≡ old.done ++ (identifier ++ sizes)
  pub none_kept : new.ahead ≡ None
  pub is_identifier : IsIdentifier first identifier
  pub says : P first sizes

--- `Tied old new f`: of a refusal: no octets have to say why, or since `old` a header was taken
---   that says why, and nothing else
abbrev pub Tied : State → State → Fault → Type 0
Tied old new (faults.Refused reason at) =
    NeedsNoOctets old.limit (length new.done) reason
    ⊎ HeaderTaken old new (λ t l. HeaderSays old.limit (length new.done) t l reason)
Tied old new e = Unit {0}

--- `TiedLast paths old new f`: what `Tied` says, but of the last header; octets taken before it are
---   a path if `paths`
abbrev pub TiedLast : Bool → State → State → Fault → Type 0
TiedLast paths old new e =
    (before : List ℕ) × IsPathIf paths before
    × Tied (record old { done = old.done ++ before }) new e

--- `OctetsSay old new P`: since `old`, octets with `P` were taken, and none is kept ahead
pub record OctetsSay (old new : State) (P : List ℕ → Type 0) : Type 0 where
  pub octets : List ℕ
  pub taken : new.done ≡ old.done ++ octets
  pub none_kept : new.ahead ≡ None
  pub says : P octets

--- `SaysWhy paths K old new f`: of a refusal: it is `TiedLast paths`, or `K` says that it is for
---   the octets taken
abbrev pub SaysWhy : Bool → (Reason → List ℕ → Type 0) → State → State → Fault → Type 0
SaysWhy paths K old new (faults.Refused reason at) =
    TiedLast paths old new (faults.Refused reason at) ⊎ OctetsSay old new (K reason)
SaysWhy paths K old new e = Unit {0}
