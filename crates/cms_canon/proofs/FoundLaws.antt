-- The rules that a message breaks, by its kind, and by digests.
use Rattle.std.proofs.Common.{◌≡◌, ℕ, List, [], Option, None, false, refl, subst}
use mathlib.Core.Logic.{inl, inr}
use Rattle.cms_message.specs.ContentInfo.{ContentInfo, content}
use Rattle.cms_message.specs.SignedData.{SignedData}
use Rattle.cms_tsp.specs.Requests.{TimeStampReq}
use Rattle.cms_tsp.specs.Responses.{TimeStampResp}
use Rattle.cms_check.specs.declared.report.Finding.{Finding}
use Rattle.cms_check.specs.declared.verifier.Verdict.TheVariants.{Unknown}
use Rattle.cms_check.specs.Findings.{AreFound, AreFoundInResponse, request_findings}
use Rattle.cms_canon.specs.Checking.{AreFindings}
use Rattle.cms_canon.specs.Kinds.{MessageValue}

module _ (v : MessageValue) (detached stamped : Option (List ℕ)) (r : List Finding) where
  pub signed_found : (t : ContentInfo) (s : SignedData) → inl t ≡ v → s ≡ content t
      → AreFound [] (λ job. Unknown) s detached stamped false r → AreFindings (λ job. Unknown) v detached stamped r
  signed_found t s kind same found =
      subst (λ x. AreFindings (λ job. Unknown) x detached stamped r) kind
      (subst (λ x. AreFound [] (λ job. Unknown) x detached stamped false r) same found)

  pub request_found : (t : TimeStampReq) → inr (inl t) ≡ v → r ≡ request_findings stamped t → AreFindings (λ job. Unknown) v detached stamped r
  request_found t kind found = subst (λ x. AreFindings (λ job. Unknown) x detached stamped r) kind (None, refl, found)

  pub response_found : (t : TimeStampResp) → inr (inr t) ≡ v → AreFoundInResponse (λ job. Unknown) t detached stamped r
      → AreFindings (λ job. Unknown) v detached stamped r
  response_found t kind found = subst (λ x. AreFindings (λ job. Unknown) x detached stamped r) kind found
