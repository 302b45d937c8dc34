-- A report, signer by signer.
use Rattle.std.proofs.Common.{◌≡◌, ◌++◌, ℕ, suc, ◌+◌, List, [], ◌∷◌, drop, slice_get, Option, Some, None, Bool, true, not, sym, ap, subst, ◌∙◌, arith}
use Rattle.std.proofs.lemmas.List.{append_assoc}
use Rattle.cms_message.specs.Signers.{BorrowedSigner}
use Rattle.cms_message.specs.SignedData.{SignedData, borrowed_signers}
use Rattle.cms_message.specs.ContentInfo.{ContentInfo, content}
use Rattle.cms_message.proofs.Searches.{behind}
use Rattle.cms_tsp.specs.Responses.{TimeStampResp, token, status_agrees}
use Rattle.cms_check.specs.declared.report.Finding.{Finding}
use Rattle.cms_check.specs.declared.verifier.Verdict.{Verdict}
use Rattle.cms_check.specs.Jobs.{JobValue}
use Rattle.cms_check.specs.Rules.{verdict_on}
use Rattle.cms_check.specs.Findings.{Rule, signer_rules, rules_for, findings_of, of_signers, AreFound, AreFoundInResponse}

module _ (answer : JobValue → Verdict) (v : SignedData) (content : Option (List ℕ)) where
  told : (s : BorrowedSigner) (verdict : Option Verdict) (rules : List Rule) → verdict ≡ verdict_on answer v content s
      → rules ≡ signer_rules v content verdict s → rules ≡ rules_for answer v content s
  told s verdict rules answered e = e ∙ ap (λ verdict. signer_rules v content verdict s) answered

  pub one_more_signer : (i : ℕ) (s : BorrowedSigner) (verdict : Option Verdict) (rules : List Rule) (old new all : List Finding)
      → Some s ≡ slice_get (borrowed_signers v) i → verdict ≡ verdict_on answer v content s → rules ≡ signer_rules v content verdict s
      → new ≡ old ++ findings_of (Some i) rules → old ++ of_signers (rules_for answer v content) i (drop i (borrowed_signers v)) ≡ all
      → new ++ of_signers (rules_for answer v content) (i + 1) (drop (i + 1) (borrowed_signers v)) ≡ all
  one_more_signer i s verdict rules old new all at answered e added so_far =
      let n : i + 1 ≡ suc i = omega arith in
      let rest = of_signers (rules_for answer v content) (i + 1) (drop (i + 1) (borrowed_signers v)) in
      ap (λ fs. fs ++ rest) (added ∙ ap (λ rs. old ++ findings_of (Some i) rs) (told s verdict rules answered e))
      ∙ append_assoc old (findings_of (Some i) (rules_for answer v content s)) rest
      ∙ ap (λ j. old ++ (findings_of (Some i) (rules_for answer v content s)
      ++ of_signers (rules_for answer v content) (i + 1) (drop j (borrowed_signers v)))) n
      ∙ ap (λ ts. old ++ of_signers (rules_for answer v content) i ts) (sym (behind (borrowed_signers v) i s at)) ∙ so_far

pub all_reported : (f0 f1 f2 f3 x : List Finding) (rules message more : List Rule) → f0 ≡ [] → f1 ≡ f0 ++ findings_of None rules
    → rules ≡ message → f2 ≡ f1 ++ findings_of None more → f3 ≡ f2 ++ x → f3 ≡ findings_of None message ++ (findings_of None more ++ x)
all_reported f0 f1 f2 f3 x rules message more none of_message same of_more of_signers = of_signers
    ∙ ap (λ f. f ++ x) (of_more ∙ ap (λ f. f ++ findings_of None more)
    (of_message ∙ ap (λ f. f ++ findings_of None rules) none ∙ ap (findings_of None) same))
    ∙ append_assoc (findings_of None message) (findings_of None more) x

-- the token of a response
pub in_response :
    (answer : JobValue → Verdict) (v : TimeStampResp) (t : ContentInfo) (agrees : Bool) (s : SignedData)
    (detached stamped : Option (List ℕ)) (r : List Finding) → Some t ≡ token v → agrees ≡ status_agrees v → s ≡ content t
    → AreFound ((19, not agrees) ∷ []) answer s detached stamped true r → AreFoundInResponse answer v detached stamped r
in_response answer (status, None) t agrees s detached stamped r e same signed found = absurd cc
in_response answer (status, Some u) t agrees s detached stamped r e same signed found =
    let one : t ≡ u = cc in
    subst (λ b. AreFound ((19, not b) ∷ []) answer (content u) detached stamped true r) same
    (subst (λ d. AreFound ((19, not agrees) ∷ []) answer d detached stamped true r) (signed ∙ ap content one) found)
