-- Attributes of a signer (RFC 5652, 5.3).
use Rattle.std.specs.Prelude.{ℕ, List}
use Rattle.cms_fields.specs.Grammar.{Grammar, tagged, opaque_element, already_der, then_by, last}
use Rattle.cms_setof.specs.Grammar.{set_of, some_of}
use Rattle.cms_scalars.specs.Grammar.{object_identifier_type}

--- `Attribute`: the type of an attribute, and its values, which are opaque [RFC 5652, 5.3]
abbrev pub Attribute : Type 0
Attribute = List ℕ × List (List ℕ)

--- `attr_type`, `attr_values`: its parts; `attr_type` is that of any attribute, whatever its values
---   are [RFC 5652, 5.3]
abbrev pub attr_type : {V : Type 0} → List ℕ × V → List ℕ
attr_type v = v.0

abbrev pub attr_values : Attribute → List (List ℕ)
attr_values v = v.1

-- Attribute ::= SEQUENCE { attrType OBJECT IDENTIFIER, attrValues SET OF AttributeValue }
--- `attribute`: 30 with these as its contents; each value is opaque [RFC 5652, 5.3]
abbrev pub attribute : Grammar Attribute
attribute = tagged 0x30
    (then_by object_identifier_type (last (tagged 0x31 (set_of opaque_element))))

--- `SignedAttributes`: the octets of signedAttrs, and its attributes [RFC 5652, 5.3]
abbrev pub SignedAttributes : Type 0
SignedAttributes = List ℕ × List Attribute

-- SignedAttributes ::= SET SIZE (1..MAX) OF Attribute; signedAttrs is [0] IMPLICIT
--- `signed_attributes`: A0 of attributes, at least one, always in DER [RFC 5652, 5.3]
abbrev pub signed_attributes : Grammar SignedAttributes
signed_attributes = already_der (tagged 0xa0 (some_of attribute))

-- UnsignedAttributes ::= SET SIZE (1..MAX) OF Attribute; unsignedAttrs is [1] IMPLICIT
--- `unsigned_attributes g`: A1 of members that `g` describes, at least one [RFC 5652, 5.3]
abbrev pub unsigned_attributes : {U : Type 0} → Grammar U → Grammar (List U)
unsigned_attributes g = tagged 0xa1 (some_of g)
