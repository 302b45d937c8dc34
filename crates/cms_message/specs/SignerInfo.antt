-- SignerInfo (RFC 5652, 5.3).
use Rattle.std.specs.Prelude.{ℕ, zero, suc, List, Option, Bool, ◌==◌, ◌⊎◌}
use Rattle.cms_fields.specs.Grammar.{Grammar, tagged, opaque_among, choice, then_by, optional_then}
use Rattle.cms_fields.specs.Grammar.{last, last_optional}
use Rattle.cms_setof.specs.Grammar.{set_of}
use Rattle.cms_scalars.specs.Grammar.{integer_type, octet_string_type}
use Rattle.cms_message.specs.Algorithms.{AlgorithmIdentifier, algorithm_identifier}
use Rattle.cms_message.specs.Attributes.{SignedAttributes, signed_attributes, unsigned_attributes}
use Rattle.cms_message.specs.Countersignatures.{UnsignedAttribute, unsigned_attribute}
use Rattle.cms_message.specs.Countersignatures.{no_countersignatures}

--- `IssuerAndSerialNumber`: the issuer's name, opaque, and the number [RFC 5652, 10.2.4]
abbrev pub IssuerAndSerialNumber : Type 0
IssuerAndSerialNumber = List ℕ × List ℕ

--- `is_name t`: `t` is 30, the identifier octet of a Name [RFC 5652, 10.2.4]
abbrev pub is_name : ℕ → Bool
is_name t = t == 0x30

-- IssuerAndSerialNumber ::= SEQUENCE { issuer Name, serialNumber CertificateSerialNumber }
--- `issuer_and_serial_number`: 30 with these; a Name is an opaque element 30 [RFC 5652, 10.2.4]
abbrev pub issuer_and_serial_number : Grammar IssuerAndSerialNumber
issuer_and_serial_number = tagged 0x30 (then_by (opaque_among is_name) (last integer_type))

-- SignerIdentifier ::= CHOICE { issuerAndSerialNumber IssuerAndSerialNumber, subjectKeyIdentifier
-- [0] SubjectKeyIdentifier }
--- `SignerIdentifier`: an issuer's name and a serial number, or a key identifier [RFC 5652, 5.3]
abbrev pub SignerIdentifier : Type 0
SignerIdentifier = IssuerAndSerialNumber ⊎ List ℕ

--- `signer_identifier`: IssuerAndSerialNumber; or an OCTET STRING, 80, or A0 if it is constructed
---   [RFC 5652, 5.3]
abbrev pub signer_identifier : Grammar SignerIdentifier
signer_identifier = choice issuer_and_serial_number (octet_string_type 0x80)

--- `SignerInfo C`: the value of a SignerInfo with countersignatures `C` [RFC 5652, 5.3]
abbrev pub SignerInfo : Type 0 → Type 0
SignerInfo C = List ℕ
    × (SignerIdentifier
    × (AlgorithmIdentifier
    × (Option SignedAttributes
    × (AlgorithmIdentifier × (List ℕ × Option (List (UnsignedAttribute C)))))))

module _ {C : Type 0} where
  --- `signer_info_version`, `sid`, `digest_algorithm`, `signed_attrs`, `signature_algorithm`,
  ---   `signature`, `unsigned_attrs`: its fields [RFC 5652, 5.3]
  abbrev pub signer_info_version : SignerInfo C → List ℕ
  signer_info_version v = v.0

  -- sid of a SignerInfo
  abbrev pub sid : SignerInfo C → SignerIdentifier
  sid v = v.1.0

  -- digestAlgorithm of a SignerInfo
  abbrev pub digest_algorithm : SignerInfo C → AlgorithmIdentifier
  digest_algorithm v = v.1.1.0

  -- signedAttrs of a SignerInfo
  abbrev pub signed_attrs : SignerInfo C → Option SignedAttributes
  signed_attrs v = v.1.1.1.0

  -- signatureAlgorithm of a SignerInfo
  abbrev pub signature_algorithm : SignerInfo C → AlgorithmIdentifier
  signature_algorithm v = v.1.1.1.1.0

  -- signature of a SignerInfo
  abbrev pub signature : SignerInfo C → List ℕ
  signature v = v.1.1.1.1.1.0

  -- unsignedAttrs of a SignerInfo
  abbrev pub unsigned_attrs : SignerInfo C → Option (List (UnsignedAttribute C))
  unsigned_attrs v = v.1.1.1.1.1.1

  --- `after_digest_algorithm c`: its fields after digestAlgorithm [RFC 5652, 5.3]
  abbrev pub after_digest_algorithm : Grammar C
      → Grammar (Option SignedAttributes
      × (AlgorithmIdentifier × (List ℕ × Option (List (UnsignedAttribute C)))))
  after_digest_algorithm c =
      optional_then signed_attributes
      (then_by algorithm_identifier
      (then_by (octet_string_type 0x04)
      (last_optional (unsigned_attributes (unsigned_attribute c)))))

  -- SignerInfo ::= SEQUENCE {
  --   version CMSVersion,
  --   sid SignerIdentifier,
  --   digestAlgorithm DigestAlgorithmIdentifier,
  --   signedAttrs [0] IMPLICIT SignedAttributes OPTIONAL,
  --   signatureAlgorithm SignatureAlgorithmIdentifier,
  --   signature SignatureValue,
  --   unsignedAttrs [1] IMPLICIT UnsignedAttributes OPTIONAL }
  --- `signer_info c`: 30 with these; `c` describes countersignatures [RFC 5652, 5.3]
  abbrev pub signer_info : Grammar C → Grammar (SignerInfo C)
  signer_info c =
      tagged 0x30
      (then_by integer_type
      (then_by signer_identifier
      (then_by algorithm_identifier
      (after_digest_algorithm c))))

--- `SignerWithin d`: a SignerInfo with at most `d - 1` levels of countersignatures below it
---   [RFC 5652, 5.3, 11.4; the depth is ours]
abbrev pub SignerWithin : ℕ → Type 0
SignerWithin zero = ⊥
SignerWithin (suc d) = SignerInfo (List (SignerWithin d))

--- `countersignatures_within d`: a set of `SignerWithin d`, which may be empty [RFC 5652, 11.4,
---   which wants at least one; empty is ours]
abbrev pub countersignatures_within : (d : ℕ) → Grammar (List (SignerWithin d))
countersignatures_within zero = no_countersignatures
countersignatures_within (suc d) = set_of (signer_info (countersignatures_within d))
