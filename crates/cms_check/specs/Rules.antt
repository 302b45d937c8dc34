-- The rules of RFC 5652 that a SignedData may break, each with its number, and what a verifier is
-- asked.
use Rattle.std.specs.Prelude.{ℕ, List, [], ◌∷◌, Option, Some, None, Bool, true, false, not, ◌&&◌}
use Rattle.std.specs.Prelude.{bytes_eq, option_map, map}
use Rattle.std.specs.List.{list_any}
use Rattle.std.specs.Option.{is_some, option_eq, option_and_then}
use mathlib.Core.Logic.{inl, inr}
use Rattle.cms_tlv.specs.FirstElement.{first_contents}
use Rattle.cms_message.specs.Algorithms.{algorithm}
use Rattle.cms_message.specs.Signers.{AnyAttribute, BorrowedSigner, as_any_attribute}
use Rattle.cms_message.specs.Cover.{cover}
use Rattle.cms_message.specs.SignerInfo.{signer_info_version, SignerIdentifier, sid}
use Rattle.cms_message.specs.SignerInfo.{digest_algorithm, signed_attrs}
use Rattle.cms_message.specs.SignedData.{SignedData, signed_data_version, digest_algorithms}
use Rattle.cms_message.specs.SignedData.{encap_content_info, e_content_type}
use Rattle.cms_scalars.specs.ObjectIdentifiers.{id_data}
use Rattle.cms_message.specs.Versions.{due_version}
use Rattle.cms_check.specs.declared.digests.HashAlg.{HashAlg}
use Rattle.cms_check.specs.declared.verifier.Verdict.{Verdict}
use Rattle.cms_check.specs.declared.verifier.Verdict.TheVariants.{Good, Bad, Unknown}
use Rattle.cms_check.specs.Attributes.{content_type_value, message_digest}
use Rattle.cms_check.specs.Digests.{algorithm_named, digest_by}
use Rattle.cms_check.specs.Jobs.{JobValue, job}

--- `passes test o`: there is an `o`, and it passes the test
abbrev pub passes : {A : Type 0} → (A → Bool) → Option A → Bool
passes test None = false
passes test (Some x) = test x

--- `differ a b`: there are an `a` and a `b`, and they are not equal
abbrev pub differ : Option (List ℕ) → Option (List ℕ) → Bool
differ None b = false
differ (Some a) None = false
differ (Some a) (Some b) = not (bytes_eq a b)

--- `attributes_signed s`: the signed attributes of a signer [5.3]
abbrev pub attributes_signed : BorrowedSigner → Option (List AnyAttribute)
attributes_signed s = option_map (λ a. map as_any_attribute a.1) (signed_attrs s)

--- `known_digest_algorithm s`: its digest algorithm, if that is known
abbrev pub known_digest_algorithm : BorrowedSigner → Option HashAlg
known_digest_algorithm s = algorithm_named (algorithm (digest_algorithm s))

--- `content_digest content s`: the digest of the content by it [5.4]
abbrev pub content_digest : Option (List ℕ) → BorrowedSigner → Option (List ℕ)
content_digest content s =
    option_and_then (λ h. option_map (digest_by h) content) (known_digest_algorithm s)

--- `has_another_version`: F1: the version of the SignedData is not the one due [5.1]
abbrev pub has_another_version : SignedData → Bool
has_another_version v = not (bytes_eq (signed_data_version v) (due_version v ∷ []))

-- F2: a signer's version is not 1 with issuerAndSerialNumber, or not 3 with subjectKeyIdentifier
-- (5.3)
abbrev pub version_due_to : SignerIdentifier → ℕ
version_due_to (inl issuer) = 1
version_due_to (inr key) = 3

--- `signer_has_another_version`, `version_due_to`: F2: the version of a signer is not the one that
---   its sid asks for [5.3]
abbrev pub signer_has_another_version : BorrowedSigner → Bool
signer_has_another_version s = not (bytes_eq (signer_info_version s) (version_due_to (sid s) ∷ []))

--- `lacks_signed_attributes`: F3: there are no signed attributes, and eContentType is not id-data
---   [5.3]
abbrev pub lacks_signed_attributes : SignedData → BorrowedSigner → Bool
lacks_signed_attributes v s =
    not (is_some (signed_attrs s)) && not (bytes_eq (e_content_type (encap_content_info v)) id_data)

--- `lacks_content_type`: F4: there is not exactly one content-type attribute with exactly one value
---   [5.3, 11.1]
abbrev pub lacks_content_type : BorrowedSigner → Bool
lacks_content_type s = passes (λ a. not (is_some (content_type_value a))) (attributes_signed s)

--- `has_another_content_type`: F5: its value is not eContentType [11.1]
abbrev pub has_another_content_type : SignedData → BorrowedSigner → Bool
has_another_content_type v s =
    passes (λ x. not
    (option_eq bytes_eq (first_contents 0x06 x) (Some (e_content_type (encap_content_info v)))))
    (option_and_then content_type_value (attributes_signed s))

--- `lacks_message_digest`: F6: there is not exactly one message-digest attribute with exactly one
---   value, an OCTET STRING [5.3, 11.2]
abbrev pub lacks_message_digest : BorrowedSigner → Bool
lacks_message_digest s = passes (λ a. not (is_some (message_digest a))) (attributes_signed s)

--- `has_another_digest`: F7: its value is not the digest of the content [5.4, 5.6]
abbrev pub has_another_digest : Option (List ℕ) → BorrowedSigner → Bool
has_another_digest content s =
    differ (option_and_then message_digest (attributes_signed s)) (content_digest content s)

--- `has_unknown_digest_algorithm`: F8: the digest algorithm is not known
abbrev pub has_unknown_digest_algorithm : BorrowedSigner → Bool
has_unknown_digest_algorithm s = not (is_some (known_digest_algorithm s))

--- `lacks_content`: F9: there is no content [5.2]
abbrev pub lacks_content : Option (List ℕ) → Bool
lacks_content content = not (is_some content)

--- `has_unlisted_digest_algorithm`: F10: the digest algorithm is not among digestAlgorithms [5.3]
abbrev pub has_unlisted_digest_algorithm : SignedData → BorrowedSigner → Bool
has_unlisted_digest_algorithm v s =
    not (list_any (λ a. bytes_eq (algorithm a) (algorithm (digest_algorithm s)))
    (digest_algorithms v))

--- `verdict_on answer v content s`: the verifier's verdict on what a signature covers, if it covers
---   anything [5.6]
abbrev pub verdict_on : (JobValue → Verdict) → SignedData → Option (List ℕ) → BorrowedSigner
    → Option Verdict
verdict_on answer v content s = option_map (λ c. answer (job v s c)) (cover s content)

--- `is_bad`, `is_unknown`: F17: the verdict is Bad; F18: it is Unknown [5.6]
abbrev pub is_bad : Option Verdict → Bool
is_bad verdict = passes (elim [ Good ↦ false | Bad ↦ true | Unknown ↦ false ]) verdict

-- F18: it is Unknown
abbrev pub is_unknown : Option Verdict → Bool
is_unknown verdict = passes (elim [ Good ↦ false | Bad ↦ false | Unknown ↦ true ]) verdict
