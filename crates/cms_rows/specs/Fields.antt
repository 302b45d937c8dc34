-- The fields of records, in the order of their definitions in the standards. `kinds.rt` has the
-- kinds, and the header for C their ASN.1.
use Rattle.std.specs.Prelude.{ℕ, zero, suc, ◌+◌, List, [], ◌++◌, map, ◌⊎◌, Box, Option, Some, None}
use Rattle.std.specs.List.{flat_map}
use Rattle.std.specs.Option.{is_some}
use Rattle.cms_fields.specs.Received.{in_either}
use Rattle.cms_message.specs.Algorithms.{AlgorithmIdentifier, algorithm, parameters}
use Rattle.cms_message.specs.Attributes.{Attribute, SignedAttributes, attr_type, attr_values}
use Rattle.cms_message.specs.Countersignatures.{UnsignedAttribute}
use Rattle.cms_message.specs.SignerInfo.{IssuerAndSerialNumber, SignerIdentifier, SignerInfo}
use Rattle.cms_message.specs.SignerInfo.{SignerWithin, signer_info_version, sid, digest_algorithm}
use Rattle.cms_message.specs.SignerInfo.{signed_attrs, signature_algorithm, signature}
use Rattle.cms_message.specs.SignerInfo.{unsigned_attrs}
use Rattle.cms_message.specs.ContentInfo.{content}
use Rattle.cms_message.specs.SignedData.{SignedData, signed_data_version, digest_algorithms}
use Rattle.cms_message.specs.SignedData.{encap_content_info, e_content_type, e_content}
use Rattle.cms_message.specs.SignedData.{certificates, crls, signer_infos}
use Rattle.cms_tlv.specs.Spelling.{join}
use Rattle.std.specs.Global.{Global}
use Rattle.cms_tlv.specs.Spans.{octets_in}
use Rattle.cms_fields.specs.Choices.{choice_value}
use Rattle.cms_fields.specs.declared.choice.Choice.{Choice}
use Rattle.cms_fields.specs.declared.opaque.Opaque.{Opaque}
use Rattle.cms_fields.specs.declared.strict.AlreadyDer.{AlreadyDer}
use Rattle.cms_message.specs.declared.attribute.AttributeSpans.{AttributeSpans}
use Rattle.cms_fields.specs.declared.contents.Last.{Last}
use Rattle.cms_fields.specs.declared.element.Tagged.{Tagged}
use Rattle.cms_setof.specs.declared.non_empty.NonEmptySetOf.{NonEmptySetOf}
use Rattle.cms_scalars.specs.declared.octets.OctetsSpan.{OctetsSpan}
use Rattle.cms_scalars.specs.Borrowed.{parts_in}
use Rattle.cms_message.specs.declared.countersignature.UnsignedAttributeSpans.{UnsignedAttributeSpans}
use Rattle.cms_message.specs.Spanned.{attribute_spanned, opaque_spanned, unsigned_attribute_spanned}
use Rattle.cms_tsp.specs.Requests.{MessageImprint, TimeStampReq, hash_algorithm, hashed_message}
use Rattle.cms_tsp.specs.Requests.{req_version, imprint, req_policy, nonce, cert_req, extensions}
use Rattle.cms_tsp.specs.Responses.{PkiStatusInfo, TimeStampResp, status, status_string, fail_info}
use Rattle.cms_tsp.specs.Responses.{status_info, token}
use Rattle.cms_tsp.specs.TstInfo.{Accuracy, TstInfo, seconds, millis, micros, tst_version, policy}
use Rattle.cms_tsp.specs.TstInfo.{tst_imprint, serial_number, gen_time}
use Rattle.cms_rows.specs.declared.kinds.TheConstants.{ACCURACY, ATTRIBUTE, CERTIFICATE}
use Rattle.cms_rows.specs.declared.kinds.TheConstants.{CERTIFICATES, CERT_REQ, CONTENT}
use Rattle.cms_rows.specs.declared.kinds.TheConstants.{CONTENT_TYPE, COUNTERSIGNATURE, CRL, CRLS}
use Rattle.cms_rows.specs.declared.kinds.TheConstants.{DIGEST_ALGORITHM, FAIL_INFO, GEN_TIME}
use Rattle.cms_rows.specs.declared.kinds.TheConstants.{HASHED_MESSAGE, HASH_ALGORITHM, ISSUER}
use Rattle.cms_rows.specs.declared.kinds.TheConstants.{MICROS, MILLIS, ORDERING, PARAMETERS}
use Rattle.cms_rows.specs.declared.kinds.TheConstants.{REQUEST, REQUEST_EXTENSIONS, REQUEST_NONCE}
use Rattle.cms_rows.specs.declared.kinds.TheConstants.{REQUEST_POLICY, REQUEST_VERSION, RESPONSE}
use Rattle.cms_rows.specs.declared.kinds.TheConstants.{SECONDS, SERIAL_NUMBER, SIGNATURE}
use Rattle.cms_rows.specs.declared.kinds.TheConstants.{SIGNATURE_ALGORITHM, SIGNED_ATTRIBUTES}
use Rattle.cms_rows.specs.declared.kinds.TheConstants.{SIGNED_DATA, SIGNER, SIGNER_DIGEST_ALGORITHM}
use Rattle.cms_rows.specs.declared.kinds.TheConstants.{SIGNER_VERSION, STATUS, STATUS_STRING}
use Rattle.cms_rows.specs.declared.kinds.TheConstants.{SUBJECT_KEY_IDENTIFIER, TSA, TST_EXTENSIONS}
use Rattle.cms_rows.specs.declared.kinds.TheConstants.{TST_NONCE, TST_POLICY, TST_SERIAL_NUMBER}
use Rattle.cms_rows.specs.declared.kinds.TheConstants.{TST_VERSION, UNSIGNED_ATTRIBUTES, VALUE}
use Rattle.cms_rows.specs.declared.kinds.TheConstants.{VERSION}
use Rattle.cms_rows.specs.Rows.{Entry, entry, entry_of_bits, entry_if}

--- `maybe f o`: a value that may be absent
abbrev pub maybe : {V : Type 0} → (V → List Entry) → Option V → List Entry
maybe f None = []
maybe f (Some v) = f v

--- `of_algorithm`: AlgorithmIdentifier [RFC 5652, 10.1]
abbrev pub of_algorithm : ℕ → ℕ → AlgorithmIdentifier → List Entry
of_algorithm kind level v =
    entry kind level (algorithm v) ++ maybe (entry PARAMETERS (level + 1)) (parameters v)

--- `of_attribute`, `of_signed_attributes`: Attribute, signedAttrs [RFC 5652, 5.3]
abbrev pub of_attribute : ℕ → ℕ → Attribute → List Entry
of_attribute kind level v =
    entry kind level (attr_type v) ++ flat_map (entry VALUE (level + 1)) (attr_values v)

-- The octets of all signed attributes, as received; below them the attributes (RFC 5652, 5.3).
abbrev pub of_signed_attributes : ℕ → ℕ → SignedAttributes → List Entry
of_signed_attributes kind level v =
    entry kind level v.0 ++ flat_map (of_attribute ATTRIBUTE (level + 1)) v.1

--- `of_issuer`, `of_sid`: IssuerAndSerialNumber, SignerIdentifier [RFC 5652, 5.3, 10.2.4]
abbrev pub of_issuer : ℕ → IssuerAndSerialNumber → List Entry
of_issuer level v = entry ISSUER level v.0 ++ entry SERIAL_NUMBER level v.1

-- The issuer and the serial number, or the subject key identifier (RFC 5652, 5.3).
abbrev pub of_sid : ℕ → SignerIdentifier → List Entry
of_sid level = in_either (of_issuer level) (entry SUBJECT_KEY_IDENTIFIER level)

--- `of_unsigned f`, `of_unsigned_attributes f`: an unsigned attribute and all of them, with
---   countersignatures as `f` says [RFC 5652, 5.3, 11.4]
abbrev pub of_unsigned : {C : Type 0} → (ℕ → ℕ → C → List Entry) → ℕ → ℕ → UnsignedAttribute C
    → List Entry
of_unsigned f kind level v =
    entry kind level v.0
    ++ in_either (f COUNTERSIGNATURE (level + 1)) (flat_map (entry VALUE (level + 1))) v.1

-- All unsigned attributes; below them each of them.
abbrev pub of_unsigned_attributes : {C : Type 0} → (ℕ → ℕ → C → List Entry) → ℕ → ℕ
    → List (UnsignedAttribute C) → List Entry
of_unsigned_attributes f kind level attributes =
    entry kind level [] ++ flat_map (of_unsigned f ATTRIBUTE (level + 1)) attributes

--- `of_signer_info f`, `of_signer_within d`: SignerInfo, and the same within `d` levels of
---   countersignatures [RFC 5652, 5.3]
abbrev pub of_signer_info : {C : Type 0} → (ℕ → ℕ → C → List Entry) → ℕ → ℕ → SignerInfo C
    → List Entry
of_signer_info f kind level v =
    entry kind level []
    ++ (entry SIGNER_VERSION (level + 1) (signer_info_version v)
    ++ (of_sid (level + 1) (sid v)
    ++ (of_algorithm SIGNER_DIGEST_ALGORITHM (level + 1) (digest_algorithm v)
    ++ (maybe (of_signed_attributes SIGNED_ATTRIBUTES (level + 1)) (signed_attrs v)
    ++ (of_algorithm SIGNATURE_ALGORITHM (level + 1) (signature_algorithm v)
    ++ (entry SIGNATURE (level + 1) (signature v)
    ++ maybe (of_unsigned_attributes f UNSIGNED_ATTRIBUTES (level + 1)) (unsigned_attrs v)))))))

-- within d levels of signers, its own counted
abbrev pub of_signer_within : (d : ℕ) → ℕ → ℕ → SignerWithin d → List Entry
of_signer_within zero kind level s = []
of_signer_within (suc d) kind level s =
    of_signer_info (λ kind level. flat_map (of_signer_within d kind level)) kind level s

--- `of_set`, `of_signed_data`: a set of certificates or of revocation information, SignedData
---   [RFC 5652, 5.1]
abbrev pub of_set : ℕ → ℕ → ℕ → List (List ℕ) → List Entry
of_set kind member level vs = entry kind level [] ++ flat_map (entry member (level + 1)) vs

-- SignedData (RFC 5652, 5.1).
abbrev pub of_signed_data : ℕ → SignedData → List Entry
of_signed_data level v =
    entry SIGNED_DATA level []
    ++ (entry VERSION (level + 1) (signed_data_version v)
    ++ (flat_map (of_algorithm DIGEST_ALGORITHM (level + 1)) (digest_algorithms v)
    ++ (entry CONTENT_TYPE (level + 1) (e_content_type (encap_content_info v))
    ++ (maybe (entry CONTENT (level + 1)) (e_content (encap_content_info v))
    ++ (maybe (of_set CERTIFICATES CERTIFICATE (level + 1)) (certificates v)
    ++ (maybe (of_set CRLS CRL (level + 1)) (crls v)
    ++ flat_map (of_signer_within 5 SIGNER (level + 1)) (signer_infos v)))))))

--- `of_imprint`, `of_request`: MessageImprint, TimeStampReq [RFC 3161, 2.4.1]
abbrev pub of_imprint : ℕ → MessageImprint → List Entry
of_imprint level v =
    of_algorithm HASH_ALGORITHM level (hash_algorithm v)
    ++ entry HASHED_MESSAGE level (hashed_message v)

-- A request (RFC 3161, 2.4.1); certReq has an entry if it is TRUE.
abbrev pub of_request : ℕ → TimeStampReq → List Entry
of_request level v =
    entry REQUEST level []
    ++ (entry REQUEST_VERSION (level + 1) (req_version v)
    ++ (of_imprint (level + 1) (imprint v)
    ++ (maybe (entry REQUEST_POLICY (level + 1)) (req_policy v)
    ++ (maybe (entry REQUEST_NONCE (level + 1)) (nonce v)
    ++ (entry_if CERT_REQ (level + 1) (cert_req v)
    ++ maybe (entry REQUEST_EXTENSIONS (level + 1)) (extensions v))))))

--- `of_status_info`, `of_response`: PKIStatusInfo, TimeStampResp [RFC 3161, 2.4.2]
abbrev pub of_status_info : ℕ → PkiStatusInfo → List Entry
of_status_info level v =
    entry STATUS level (status v)
    ++ (maybe (entry STATUS_STRING level) (status_string v)
    ++ maybe (entry_of_bits FAIL_INFO level) (fail_info v))

-- A response (RFC 3161, 2.4.2); below it the status, and the SignedData of the token.
abbrev pub of_response : ℕ → TimeStampResp → List Entry
of_response level v =
    entry RESPONSE level []
    ++ (of_status_info (level + 1) (status_info v)
    ++ maybe (λ t. of_signed_data (level + 1) (content t)) (token v))

--- `of_accuracy`, `of_after_gen_time`, `of_tst_info`: Accuracy, the fields of a TSTInfo after
---   genTime (`AfterGenTime`), TSTInfo [RFC 3161, 2.4.2]
abbrev pub of_accuracy : ℕ → ℕ → Accuracy → List Entry
of_accuracy kind level v =
    entry kind level []
    ++ (maybe (entry SECONDS (level + 1)) (seconds v)
    ++ (maybe (entry MILLIS (level + 1)) (millis v) ++ maybe (entry MICROS (level + 1)) (micros v)))

-- the fields of a TSTInfo after genTime: accuracy, ordering, nonce, tsa and extensions
abbrev pub AfterGenTime : Type 0
AfterGenTime = Option Accuracy
    × (Option (List ℕ) × (Option (List ℕ) × (Option (List ℕ) × Option (List ℕ))))

-- The fields after genTime; ordering has an entry if it is TRUE.
abbrev pub of_after_gen_time : ℕ → ℕ → AfterGenTime → List Entry
of_after_gen_time kind level v =
    maybe (of_accuracy kind level) v.0
    ++ (entry_if ORDERING level (is_some v.1.0)
    ++ (maybe (entry TST_NONCE level) v.1.1.0
    ++ (maybe (entry TSA level) v.1.1.1.0
    ++ maybe (entry TST_EXTENSIONS level) v.1.1.1.1)))

-- What a token says (RFC 3161, 2.4.2).
abbrev pub of_tst_info : ℕ → ℕ → TstInfo → List Entry
of_tst_info kind level v =
    entry kind level []
    ++ (entry TST_VERSION (level + 1) (tst_version v)
    ++ (entry TST_POLICY (level + 1) (policy v)
    ++ (of_imprint (level + 1) (tst_imprint v)
    ++ (entry TST_SERIAL_NUMBER (level + 1) (serial_number v)
    ++ (entry GEN_TIME (level + 1) (gen_time v)
    ++ of_after_gen_time ACCURACY (level + 1) v.1.1.1.1.1)))))

-- What spans show.

--- `unsigned_attributes_spanned`, `content_spanned`, `strict_attributes_spanned`, `values_spanned`:
---   what spans show in `k`: these values
abbrev pub unsigned_attributes_spanned : {id : ℕ} {X C : Type 0} → (List ℕ → X → C) → List ℕ
    → Tagged id (NonEmptySetOf (UnsignedAttributeSpans X)) → List (UnsignedAttribute C)
unsigned_attributes_spanned show k u = map (unsigned_attribute_spanned show k) u.0.0

abbrev pub content_spanned : {id : ℕ} → List ℕ → Tagged id (Last (OctetsSpan 0x04)) → List ℕ
content_spanned k c = join (parts_in k c.0.0)

abbrev pub strict_attributes_spanned : {id : ℕ} → List ℕ
    → AlreadyDer (Tagged id (NonEmptySetOf AttributeSpans)) → SignedAttributes
strict_attributes_spanned k x =
    (octets_in k x.span.start x.span.end, map (attribute_spanned k) x.field.0.0)

abbrev pub values_spanned : {id1 id2 : ℕ} {X C : Type 0} → (List ℕ → X → C) → List ℕ
    → Choice (Last (Tagged id1 (Box X Global))) (Last (Tagged id2 (List Opaque))) → C
    ⊎ List (List ℕ)
values_spanned show k = choice_value (λ c. show k c.0.0.value) (λ v. map (opaque_spanned k) v.0.0)
