-- Which octets a message is refused for, by their contents.
use Rattle.std.specs.Prelude.{◌≡◌, ◌≢◌, ◌++◌, ℕ, List, Bool}
use Rattle.cms_tlv.specs.declared.fault.Reason.{Reason}
use Rattle.cms_tlv.specs.declared.fault.Reason.TheVariants.{IntegerMalformed, OidMalformed}
use Rattle.cms_tlv.specs.declared.fault.Reason.TheVariants.{BooleanMalformed, BitsMalformed}
use Rattle.cms_tlv.specs.declared.fault.Reason.TheVariants.{NotSignedData}
use Rattle.cms_tlv.specs.Frames.{IsElement, IsPath}
use Rattle.cms_tlv.specs.Headers.{IsHeader}
use Rattle.cms_tlv.specs.Spelling.{ber}
use Rattle.cms_scalars.specs.Scalars.{IsInteger, IsObjectIdentifier}
use Rattle.cms_scalars.specs.Booleans.{truth}
use Rattle.cms_scalars.specs.Bits.{IsNamedBits}
use Rattle.cms_scalars.specs.ObjectIdentifiers.{id_signed_data}

--- `EndInElement octets id P`: `octets` are a path, then an element `id` whose contents have `P`
---   [X.690, 8.1.1]
pub record EndInElement (octets : List ℕ) (id : ℕ) (P : List ℕ → Type 0) : Type 0 where
  pub before : List ℕ
  pub element : List ℕ
  pub contents : List ℕ
  pub are : octets ≡ before ++ element
  pub is_path : IsPath before
  pub is_element : IsElement element id contents
  pub says : P contents

--- `EndInContentType octets P`: `octets` are a path, then a header with the identifier octet 30,
---   then an element 06 whose contents have `P` [RFC 5652, 3]
pub record EndInContentType (octets : List ℕ) (P : List ℕ → Type 0) : Type 0 where
  pub before : List ℕ
  pub header : List ℕ
  pub element : List ℕ
  pub contents : List ℕ
  pub are : octets ≡ before ++ (header ++ element)
  pub is_path : IsPath before
  pub is_header : IsHeader 0x30 header
  pub is_element : IsElement element 0x06 contents
  pub says : P contents

--- `IsMalformed reason octets`: what `octets` end in, by the reason; false for any not listed:
--- | E8 to E11: an element whose contents are no INTEGER, OBJECT IDENTIFIER, BOOLEAN or BIT STRING
--- | E17: a content type that is an OBJECT IDENTIFIER, and not id-signedData [RFC 5652, 3]
abbrev pub IsMalformed : Reason → List ℕ → Type 0
IsMalformed IntegerMalformed octets = EndInElement octets 0x02 (λ c. IsInteger c → ⊥)
IsMalformed OidMalformed octets = EndInElement octets 0x06 (λ c. IsObjectIdentifier c → ⊥)
IsMalformed BooleanMalformed octets = EndInElement octets 0x01 (λ c. (v : Bool) → truth ber c v → ⊥)
IsMalformed BitsMalformed octets =
    EndInElement octets 0x03 (λ c. (v : List ℕ) → IsNamedBits ber c v → ⊥)
IsMalformed NotSignedData octets =
    EndInContentType octets (λ c. IsObjectIdentifier c × (c ≢ id_signed_data))
IsMalformed reason octets = ⊥
