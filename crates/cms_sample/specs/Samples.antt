-- A record of five fields, one of them optional.
use Rattle.std.specs.Prelude.{ℕ, List, Option, true, ◌⊎◌}
use Rattle.cms_tlv.specs.Headers.{AreOctets}
use Rattle.cms_tlv.specs.declared.fault.Reason.TheVariants.{UnexpectedElement}
use Rattle.cms_fields.specs.Grammar.{Grammar, tagged, primitive, opaque_element, choice, then_by}
use Rattle.cms_fields.specs.Grammar.{optional_then, last}
use Rattle.cms_setof.specs.Grammar.{some_of}
use Rattle.cms_scalars.specs.Grammar.{integer_type, object_identifier_type}

abbrev pub SampleAttribute : Type 0
SampleAttribute = List ℕ × List ℕ

-- SEQUENCE (30): attrType, attrValue
abbrev pub sample_attribute : Grammar SampleAttribute
sample_attribute = tagged 0x30 (then_by object_identifier_type (last opaque_element))

-- octets in one primitive encoding
abbrev pub text : ℕ → Grammar (List ℕ)
text id = primitive id AreOctets (λ octets. true) UnexpectedElement

abbrev pub Sample : Type 0
Sample = List ℕ × ((List ℕ ⊎ List ℕ) × (Option (List SampleAttribute) × (List ℕ × List ℕ)))

-- SEQUENCE (30): version; sid, an INTEGER or [0] (80); signedAttrs, [0] (A0), at least one, or
-- none; signatureAlgorithm; signature
abbrev pub sample : Grammar Sample
sample =
    tagged 0x30
    (then_by integer_type
    (then_by (choice integer_type (text 0x80))
    (optional_then (tagged 0xa0 (some_of sample_attribute))
    (then_by object_identifier_type
    (last (text 0x04))))))
