-- Which rules a message breaks, in the order in which they are reported.
use Rattle.std.specs.Prelude.{◌≡◌, ℕ, List, [], ◌∷◌, ◌++◌, ◌+◌, Option, Some, None, Bool, not, true}
use Rattle.std.specs.Prelude.{◌||◌, if◌then◌else◌}
use Rattle.std.specs.List.{filter_map}
use Rattle.std.specs.Option.{is_some, option_and_then}
use Rattle.cms_message.specs.Signers.{BorrowedSigner}
use Rattle.cms_message.specs.Cover.{content_given}
use Rattle.cms_message.specs.SignedData.{SignedData, borrowed_signers}
use Rattle.cms_message.specs.ContentInfo.{ContentInfo, content}
use Rattle.cms_tsp.specs.Requests.{MessageImprint, TimeStampReq, imprint}
use Rattle.cms_tsp.specs.Responses.{TimeStampResp, token, status_agrees}
use Rattle.cms_tsp.specs.TstInfo.{TstInfo, IsTstInfoOf}
use Rattle.cms_check.specs.declared.verifier.Verdict.{Verdict}
use Rattle.cms_check.specs.declared.report.Finding.{Finding}
use Rattle.cms_check.specs.Jobs.{JobValue}
use Rattle.cms_check.specs.Rules.{has_another_version, signer_has_another_version}
use Rattle.cms_check.specs.Rules.{lacks_signed_attributes, lacks_content_type}
use Rattle.cms_check.specs.Rules.{has_another_content_type, lacks_message_digest}
use Rattle.cms_check.specs.Rules.{has_another_digest, has_unknown_digest_algorithm, lacks_content}
use Rattle.cms_check.specs.Rules.{has_unlisted_digest_algorithm, verdict_on, is_bad, is_unknown}
use Rattle.cms_check.specs.Tokens.{token_content, has_unknown_imprint_algorithm, is_no_token}
use Rattle.cms_check.specs.Tokens.{has_not_one_signer, has_no_tst_info, has_another_imprint}
use Rattle.cms_check.specs.Tokens.{imprint_passes, has_unknown_cert_id_algorithm, lacks_cert_id}
use Rattle.cms_check.specs.Tokens.{lacks_certificate}

-- a rule, by its number, and whether it is broken
abbrev pub Rule : Type 0
Rule = ℕ × Bool

--- `message_rules`, `signer_rules`: the rules for a message and for a signer, each a `Rule`: its
---   number, and whether it is broken
abbrev pub message_rules : SignedData → Option (List ℕ) → Option (List ℕ) → Bool → Option TstInfo
    → List Rule
message_rules v content stamped token read =
    (1, has_another_version v) ∷
    (8, imprint_passes (λ octets. has_unknown_imprint_algorithm) stamped read) ∷
    (9, lacks_content content) ∷
    (11, is_no_token v stamped token) ∷
    (12, has_not_one_signer v) ∷
    (13, has_no_tst_info v content read) ∷
    (14, imprint_passes has_another_imprint stamped read) ∷ []

abbrev pub signer_rules : SignedData → Option (List ℕ) → Option Verdict → BorrowedSigner → List Rule
signer_rules v content verdict s =
    (2, signer_has_another_version s) ∷
    (3, lacks_signed_attributes v s) ∷
    (4, lacks_content_type s) ∷
    (5, has_another_content_type v s) ∷
    (6, lacks_message_digest s) ∷
    (7, has_another_digest content s) ∷
    (8, has_unknown_digest_algorithm s || has_unknown_cert_id_algorithm v s) ∷
    (10, has_unlisted_digest_algorithm v s) ∷
    (15, lacks_cert_id v s) ∷
    (16, lacks_certificate v s) ∷
    (17, is_bad verdict) ∷
    (18, is_unknown verdict) ∷ []

--- `findings_of signer rules`, `of_signers`: the findings of the broken rules; those of the signers
---   one after another
abbrev pub findings_of : Option ℕ → List Rule → List Finding
findings_of signer rules =
    filter_map (λ r. if r.1 then Some (record { code = r.0; signer = signer }) else None) rules

-- those of signers, the first of which has the index i
abbrev pub of_signers : (BorrowedSigner → List Rule) → ℕ → List BorrowedSigner → List Finding
of_signers rules i [] = []
of_signers rules i (s ∷ ss) = findings_of (Some i) (rules s) ++ of_signers rules (i + 1) ss

--- `rules_for answer v content s`: the rules for a signer, with the verifier's verdict
abbrev pub rules_for : (JobValue → Verdict) → SignedData → Option (List ℕ) → BorrowedSigner
    → List Rule
rules_for answer v content s = signer_rules v content (verdict_on answer v content s) s

--- `findings_with more answer v detached stamped token read`: all findings: those of the message
---   and of more rules for it, then those of the signers;
--- | `read` is the TSTInfo of a token, or none
abbrev pub findings_with : List Rule → (JobValue → Verdict) → SignedData → Option (List ℕ)
    → Option (List ℕ) → Bool → Option TstInfo → List Finding
findings_with more answer v detached stamped token read =
    let content = content_given v detached in
    findings_of None (message_rules v content stamped token read)
    ++ (findings_of None more ++ of_signers (rules_for answer v content) 0 (borrowed_signers v))

--- `findings`: `findings_with` no more rules
abbrev pub findings : (JobValue → Verdict) → SignedData → Option (List ℕ) → Option (List ℕ) → Bool
    → Option TstInfo → List Finding
findings = findings_with []

--- `AreFound more answer v detached stamped token r`: `r` are all of these, if `read` is the
---   TSTInfo of the content of a token, or none
abbrev pub AreFound : List Rule → (JobValue → Verdict) → SignedData
    → Option (List ℕ) → Option (List ℕ) → Bool → List Finding → Type 0
AreFound more answer v detached stamped token r =
    (read : Option TstInfo) × IsTstInfoOf (token_content v (content_given v detached)) read
    × (r ≡ findings_with more answer v detached stamped token read)

--- `imprint_rules stamped i`: those for an imprint alone
abbrev pub imprint_rules : List ℕ → MessageImprint → List Rule
imprint_rules stamped i =
    (8, has_unknown_imprint_algorithm i) ∷
    (14, has_another_imprint stamped i) ∷ []

--- `request_findings stamped v`: those of a request's imprint, if data are given for it
abbrev pub request_findings : Option (List ℕ) → TimeStampReq → List Finding
request_findings None v = []
request_findings (Some stamped) v = findings_of None (imprint_rules stamped (imprint v))

--- `status_rules v`: F19
abbrev pub status_rules : TimeStampResp → List Rule
status_rules v = (19, not (status_agrees v)) ∷ []

--- `response_content v detached`: the octets of a response's token that have to be a TSTInfo
abbrev pub response_content : TimeStampResp → Option (List ℕ) → Option (List ℕ)
response_content v detached =
    option_and_then (λ t. token_content (content t) (content_given (content t) detached)) (token v)

--- `response_findings answer v detached stamped read`: those of its token as a time-stamp token,
---   with F19; without a token F11, if data are given, and F19
abbrev pub response_findings : (JobValue → Verdict) → TimeStampResp → Option (List ℕ)
    → Option (List ℕ) → Option TstInfo → List Finding
response_findings answer v detached stamped read = token_findings (token v)
  where
    token_findings : Option ContentInfo → List Finding
    token_findings (Some t) =
        findings_with (status_rules v) answer (content t) detached stamped true read
    token_findings None = findings_of None ((11, is_some stamped) ∷ status_rules v)

--- `AreFoundInResponse answer v detached stamped r`: `r` are all of these, if `read` is the TSTInfo
---   of the content of its token, or none
abbrev pub AreFoundInResponse : (JobValue → Verdict) → TimeStampResp
    → Option (List ℕ) → Option (List ℕ) → List Finding → Type 0
AreFoundInResponse answer v detached stamped r =
    (read : Option TstInfo) × IsTstInfoOf (response_content v detached) read
    × (r ≡ response_findings answer v detached stamped read)
