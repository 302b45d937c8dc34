-- What the octets taken say of a refusal (X.690, 8.1.3, and the contents of each type).
use Rattle.std.specs.Prelude.{◌≡◌, ◌++◌, ◌∷◌, [], ◌⊎◌, ◌+◌, ◌<◌, ◌≤◌, ℕ, List, length}
use Rattle.cms_tlv.specs.declared.fault.Reason.{Reason}
use Rattle.cms_tlv.specs.declared.fault.Reason.TheVariants.{TooLarge, LengthReserved, LengthTooLong}
use Rattle.cms_tlv.specs.declared.fault.Reason.TheVariants.{IndefinitePrimitive, IntegerMalformed}
use Rattle.cms_tlv.specs.declared.fault.Reason.TheVariants.{OidMalformed, BooleanMalformed}
use Rattle.cms_tlv.specs.declared.fault.Reason.TheVariants.{BitsMalformed, NotSignedData, Trailing}
use Rattle.cms_tlv.specs.Frames.{IsPath}
use Rattle.cms_tlv.specs.Headers.{IsConstructed, IsIdentifier, IsLength}
use Rattle.cms_scalars.specs.Malformed.{IsMalformed}

--- `EndInHeader octets P`: `octets` are a path, then identifier octets that begin with `first`, and
---   octets `sizes`, with `P first sizes` [X.690, 8.1.2, 8.1.3]
pub record EndInHeader (octets : List ℕ) (P : ℕ → List ℕ → Type 0) : Type 0 where
  pub before : List ℕ
  pub identifier : List ℕ
  pub sizes : List ℕ
  pub first : ℕ
  pub are : octets ≡ before ++ (identifier ++ sizes)
  pub is_path : IsPath before
  pub is_identifier : IsIdentifier first identifier
  pub says : P first sizes

--- `SayWhy limit reason octets`: what a refusal says of the octets taken:
--- | E2: they are at least `limit` many, or end in a header whose contents pass the limit [ours]
--- | E3: they end in the length octet FF [X.690, 8.1.3.5]
--- | E4: they end in a first length octet from 89 to FE [ours]
--- | E5: they end in the length octet 80 of a primitive element [X.690, 8.1.3.2]
--- | E8 to E11 and E17: they are `IsMalformed`
--- | E18: never; any other reason: no condition
abbrev pub SayWhy : ℕ → Reason → List ℕ → Type 0
SayWhy limit TooLarge octets =
    (limit ≤ length octets)
    ⊎ EndInHeader octets (λ t l. (n : ℕ) × IsLength l n × (limit < length octets + n))
SayWhy limit LengthReserved octets = EndInHeader octets (λ t l. l ≡ 0xff ∷ [])
SayWhy limit LengthTooLong octets =
    EndInHeader octets (λ t l. (f : ℕ) × (l ≡ f ∷ []) × (0x89 ≤ f) × (f ≤ 0xfe))
SayWhy limit IndefinitePrimitive octets =
    EndInHeader octets (λ t l. (l ≡ 0x80 ∷ []) × (IsConstructed t → ⊥))
SayWhy limit IntegerMalformed octets = IsMalformed IntegerMalformed octets
SayWhy limit OidMalformed octets = IsMalformed OidMalformed octets
SayWhy limit BooleanMalformed octets = IsMalformed BooleanMalformed octets
SayWhy limit BitsMalformed octets = IsMalformed BitsMalformed octets
SayWhy limit NotSignedData octets = IsMalformed NotSignedData octets
SayWhy limit Trailing octets = ⊥
SayWhy limit reason octets = Unit {0}
