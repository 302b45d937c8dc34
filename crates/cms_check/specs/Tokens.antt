-- The rules of RFC 3161, RFC 5816 and RFC 5035 that a time-stamp token may break, each with its
-- number.
use Rattle.std.specs.Prelude.{ℕ, List, Option, None, Bool, not, ◌&&◌, ◌||◌, ◌==◌, bytes_eq, length}
use Rattle.std.specs.Prelude.{if◌then◌else◌}
use Rattle.std.specs.List.{list_any}
use Rattle.std.specs.Option.{is_some, option_and_then, option_or}
use Rattle.cms_scalars.specs.ObjectIdentifiers.{id_ct_tst_info, id_aa_signing_certificate}
use Rattle.cms_scalars.specs.ObjectIdentifiers.{id_aa_signing_certificate_v2}
use Rattle.cms_message.specs.Algorithms.{algorithm}
use Rattle.cms_message.specs.Choices.{identifier_octet}
use Rattle.cms_message.specs.SignedData.{SignedData, certificates, encap_content_info}
use Rattle.cms_message.specs.SignedData.{e_content_type, borrowed_signers}
use Rattle.cms_message.specs.Signers.{AnyAttribute, BorrowedSigner}
use Rattle.cms_tsp.specs.Requests.{MessageImprint, hash_algorithm, hashed_message}
use Rattle.cms_tsp.specs.TstInfo.{TstInfo, tst_imprint}
use Rattle.cms_tsp.specs.CertificateIdentifiers.{first_cert_id}
use Rattle.cms_check.specs.declared.digests.HashAlg.{HashAlg}
use Rattle.cms_check.specs.declared.tokens.CertIdRules.{CertIdRules}
use Rattle.cms_check.specs.Attributes.{only_of_type}
use Rattle.cms_check.specs.Digests.{algorithm_named, digest_by}
use Rattle.cms_check.specs.Rules.{passes, attributes_signed}

--- `is_token v`: eContentType is id-ct-TSTInfo [RFC 3161, 2.4.2]
abbrev pub is_token : SignedData → Bool
is_token v = bytes_eq (e_content_type (encap_content_info v)) id_ct_tst_info

--- `token_content v content`: the content of a token
abbrev pub token_content : SignedData → Option (List ℕ) → Option (List ℕ)
token_content v content = if is_token v then content else None

--- `imprint_algorithm i`: the digest algorithm of an imprint, if it is known [RFC 3161, 2.4.1]
abbrev pub imprint_algorithm : MessageImprint → Option HashAlg
imprint_algorithm i = algorithm_named (algorithm (hash_algorithm i))

--- `has_unknown_imprint_algorithm`: F8, of an imprint: it is not known
abbrev pub has_unknown_imprint_algorithm : MessageImprint → Bool
has_unknown_imprint_algorithm i = not (is_some (imprint_algorithm i))

--- `is_no_token v stamped token`: F11: the message is no token, though that is said or data are
---   given
abbrev pub is_no_token : SignedData → Option (List ℕ) → Bool → Bool
is_no_token v stamped token = (token || is_some stamped) && not (is_token v)

--- `has_not_one_signer`: F12: a token does not have exactly one signer [RFC 3161, 2.4.2]
abbrev pub has_not_one_signer : SignedData → Bool
has_not_one_signer v = is_token v && not (length (borrowed_signers v) == 1)

--- `has_no_tst_info v content read`: F13: the content of a token is not a TSTInfo in DER; `read` is
---   the TSTInfo that it is [RFC 3161, 2.4.2]
abbrev pub has_no_tst_info : SignedData → Option (List ℕ) → Option TstInfo → Bool
has_no_tst_info v content read = is_some (token_content v content) && not (is_some read)

--- `has_another_imprint stamped i`: F14, of an imprint: it is not the digest of the data, by its
---   own algorithm [RFC 3161, 2.4.1]
abbrev pub has_another_imprint : List ℕ → MessageImprint → Bool
has_another_imprint stamped i =
    passes (λ h. not (bytes_eq (hashed_message i) (digest_by h stamped))) (imprint_algorithm i)

--- `imprint_passes test stamped read`: data are given, there is a TSTInfo, and its imprint passes
---   the test
abbrev pub imprint_passes : (List ℕ → MessageImprint → Bool) → Option (List ℕ) → Option TstInfo
    → Bool
imprint_passes test stamped read =
    passes (λ octets. passes (λ t. test octets (tst_imprint t)) read) stamped

--- `cert_id_by oid as`: the first certificate identifier of the one attribute of a type [RFC 5035,
---   3, 5]
abbrev pub cert_id_by : List ℕ → List AnyAttribute → Option (List ℕ × List ℕ)
cert_id_by oid attributes = option_and_then first_cert_id (only_of_type oid attributes)

--- `cert_id_among as`, `signer_cert_id s`: that of signing-certificate-v2, else that of
---   signing-certificate; of a signer's signed attributes [RFC 5035, 3]
abbrev pub cert_id_among : List AnyAttribute → Option (List ℕ × List ℕ)
cert_id_among attributes =
    option_or (cert_id_by id_aa_signing_certificate_v2 attributes)
    (cert_id_by id_aa_signing_certificate attributes)

abbrev pub signer_cert_id : BorrowedSigner → Option (List ℕ × List ℕ)
signer_cert_id s = option_and_then cert_id_among (attributes_signed s)

--- `has_unknown_cert_id_algorithm`: F8, of a signer of a token: the algorithm of that identifier is
---   not known
abbrev pub has_unknown_cert_id_algorithm : SignedData → BorrowedSigner → Bool
has_unknown_cert_id_algorithm v s =
    is_token v && passes (λ i. not (is_some (algorithm_named i.0))) (signer_cert_id s)

--- `lacks_cert_id`: F15: a signer of a token has no such identifier [RFC 3161, 2.4.2; RFC 5816,
---   2.2.1]
abbrev pub lacks_cert_id : SignedData → BorrowedSigner → Bool
lacks_cert_id v s = is_token v && not (is_some (signer_cert_id s))

--- `has_certificate h hash cs`: one of the certificates has this digest by the algorithm `h` [RFC
---   5035, 4, 6]
abbrev pub has_certificate : HashAlg → List ℕ → List (List ℕ) → Bool
has_certificate h hash choices =
    list_any (λ c. (identifier_octet c == 0x30) && bytes_eq (digest_by h c) hash) choices

--- `lacks_certificate`: F16: there are certificates, the algorithm is known, and none of them has
---   the hash [RFC 5035, 4, 6]
abbrev pub lacks_certificate : SignedData → BorrowedSigner → Bool
lacks_certificate v s =
    is_token v && passes
    (λ i. passes (λ h. passes (λ choices. not (has_certificate h i.1 choices)) (certificates v))
    (algorithm_named i.0)) (signer_cert_id s)

--- `cert_id_rules v s`: these three, as the code has them
abbrev pub cert_id_rules : SignedData → BorrowedSigner → CertIdRules
cert_id_rules v s =
    record {
      unknown_algorithm = has_unknown_cert_id_algorithm v s;
      none = lacks_cert_id v s;
      no_certificate = lacks_certificate v s;
    }
