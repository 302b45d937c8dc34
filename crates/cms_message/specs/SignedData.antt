-- SignedData (RFC 5652, 5.1) and EncapsulatedContentInfo (RFC 5652, 5.2).
use Rattle.std.specs.Prelude.{ℕ, List, map, Option}
use Rattle.cms_fields.specs.Grammar.{Grammar, tagged, opaque_among, then_by, optional_then, last}
use Rattle.cms_fields.specs.Grammar.{last_optional}
use Rattle.cms_setof.specs.Grammar.{set_of}
use Rattle.cms_scalars.specs.Grammar.{integer_type, object_identifier_type, octet_string_type}
use Rattle.cms_message.specs.Algorithms.{AlgorithmIdentifier, algorithm_identifier}
use Rattle.cms_message.specs.Choices.{is_certificate_choices, is_revocation_info_choice}
use Rattle.cms_message.specs.Signers.{BorrowedSigner, borrowed_by, within}
use Rattle.cms_message.specs.SignerInfo.{SignerWithin, signer_info, countersignatures_within}

--- `EncapsulatedContentInfo`: the type of the content, and the content or none [RFC 5652, 5.2]
abbrev pub EncapsulatedContentInfo : Type 0
EncapsulatedContentInfo = List ℕ × Option (List ℕ)

--- `e_content_type`, `e_content`: its parts [RFC 5652, 5.2]
abbrev pub e_content_type : EncapsulatedContentInfo → List ℕ
e_content_type v = v.0

-- eContent of an EncapsulatedContentInfo
abbrev pub e_content : EncapsulatedContentInfo → Option (List ℕ)
e_content v = v.1

-- EncapsulatedContentInfo ::= SEQUENCE { eContentType ContentType, eContent [0] EXPLICIT OCTET
-- STRING OPTIONAL }
--- `encapsulated_content_info`: 30 with these as its contents [RFC 5652, 5.2]
abbrev pub encapsulated_content_info : Grammar EncapsulatedContentInfo
encapsulated_content_info =
    tagged 0x30 (then_by object_identifier_type
    (last_optional (tagged 0xa0 (last (octet_string_type 0x04)))))

--- `Signer`, `signer`: a signer of a message: a SignerInfo with at most four levels of
---   countersignatures below it [RFC 5652, 5.3]
abbrev pub Signer : Type 0
Signer = SignerWithin 5

-- how a `Signer` is spelled
abbrev pub signer : Grammar Signer
signer = signer_info (countersignatures_within 4)

--- `SignedData`: the value of a SignedData [RFC 5652, 5.1]
abbrev pub SignedData : Type 0
SignedData = List ℕ
    × (List AlgorithmIdentifier
    × (EncapsulatedContentInfo × (Option (List (List ℕ)) × (Option (List (List ℕ)) × List Signer))))

--- `signed_data_version`, `digest_algorithms`, `encap_content_info`, `certificates`, `crls`,
---   `signer_infos`: its fields [RFC 5652, 5.1]
abbrev pub signed_data_version : SignedData → List ℕ
signed_data_version v = v.0

-- digestAlgorithms of a SignedData
abbrev pub digest_algorithms : SignedData → List AlgorithmIdentifier
digest_algorithms v = v.1.0

-- encapContentInfo of a SignedData
abbrev pub encap_content_info : SignedData → EncapsulatedContentInfo
encap_content_info v = v.1.1.0

-- certificates of a SignedData
abbrev pub certificates : SignedData → Option (List (List ℕ))
certificates v = v.1.1.1.0

-- crls of a SignedData
abbrev pub crls : SignedData → Option (List (List ℕ))
crls v = v.1.1.1.1.0

-- signerInfos of a SignedData
abbrev pub signer_infos : SignedData → List Signer
signer_infos v = v.1.1.1.1.1

--- `borrowed_signers v`: the signers of a SignedData, as views lend them
abbrev pub borrowed_signers : SignedData → List BorrowedSigner
borrowed_signers v = map (borrowed_by (map (within 4))) (signer_infos v)

--- `after_content`: the fields of a SignedData after encapContentInfo [RFC 5652, 5.1]
abbrev pub after_content : Grammar (Option (List (List ℕ)) × (Option (List (List ℕ)) × List Signer))
after_content =
    optional_then (tagged 0xa0 (set_of (opaque_among is_certificate_choices)))
    (optional_then (tagged 0xa1 (set_of (opaque_among is_revocation_info_choice)))
    (last (tagged 0x31 (set_of signer))))

-- SignedData ::= SEQUENCE {
--   version CMSVersion,
--   digestAlgorithms SET OF AlgorithmIdentifier,
--   encapContentInfo EncapsulatedContentInfo,
--   certificates [0] IMPLICIT SET OF CertificateChoices OPTIONAL,
--   crls [1] IMPLICIT SET OF RevocationInfoChoice OPTIONAL,
--   signerInfos SET OF SignerInfo }
--- `signed_data`: 30 with these as its contents [RFC 5652, 5.1]
abbrev pub signed_data : Grammar SignedData
signed_data =
    tagged 0x30
    (then_by integer_type
    (then_by (tagged 0x31 (set_of algorithm_identifier))
    (then_by encapsulated_content_info
    after_content)))
