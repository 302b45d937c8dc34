-- Which rules a message breaks, by its kind.
use Rattle.std.specs.Prelude.{◌≡◌, List, ℕ, Option, None, false}
use mathlib.Core.Logic.{inl, inr}
use Rattle.cms_message.specs.ContentInfo.{content}
use Rattle.cms_message.specs.Cover.{content_given}
use Rattle.cms_tsp.specs.TstInfo.{TstInfo, IsTstInfoOf}
use Rattle.cms_check.specs.declared.report.Finding.{Finding}
use Rattle.cms_check.specs.declared.verifier.Verdict.{Verdict}
use Rattle.cms_check.specs.Findings.{findings, request_findings, response_content}
use Rattle.cms_check.specs.Findings.{response_findings}
use Rattle.cms_check.specs.Jobs.{JobValue}
use Rattle.cms_check.specs.Tokens.{token_content}
use Rattle.cms_canon.specs.Kinds.{MessageValue}

--- `tst_content_in v detached`: the octets of a message that have to be a TSTInfo, if it is a token
abbrev pub tst_content_in : MessageValue → Option (List ℕ) → Option (List ℕ)
tst_content_in (inl v) detached = token_content (content v) (content_given (content v) detached)
tst_content_in (inr (inl v)) detached = None
tst_content_in (inr (inr v)) detached = response_content v detached

--- `findings_in answer v detached stamped read`: the rules that a message breaks, by its kind;
---   `read` is the TSTInfo of those octets, or none
abbrev pub findings_in : (JobValue → Verdict) → MessageValue → Option (List ℕ) → Option (List ℕ)
    → Option TstInfo → List Finding
findings_in answer (inl v) detached stamped read =
    findings answer (content v) detached stamped false read
findings_in answer (inr (inl v)) detached stamped read = request_findings stamped v
findings_in answer (inr (inr v)) detached stamped read =
    response_findings answer v detached stamped read

--- `AreFindings answer v detached stamped found`: `found` are the rules that the message breaks
abbrev pub AreFindings : (JobValue → Verdict) → MessageValue → Option (List ℕ) → Option (List ℕ)
    → List Finding → Type 0
AreFindings answer v detached stamped found =
    (read : Option TstInfo) × IsTstInfoOf (tst_content_in v detached) read
    × (found ≡ findings_in answer v detached stamped read)
