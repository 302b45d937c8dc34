use Rattle.std.proofs.Common.{ap, subst, sym, length, ◌∙◌, arith, Vec, Global, Option}
use Rattle.std.specs.Option.{option_copied}
use Rattle.cms_message.proofs.Searches.{there}
use Rattle.cms_message.specs.SignedData.{borrowed_signers}
use Rattle.cms_check.specs.declared.content.Content.{Content}
use Rattle.cms_check.specs.declared.report.Finding.{Finding}
use Rattle.cms_check.specs.Jobs.{answer_of}
use Rattle.cms_check.specs.Known.{Correspond, IsContentOf}
use Rattle.cms_check.proofs.Reports.{one_more_signer}
use Rattle.cms_check.proofs.checking.append_broken_by_signers.Goals.{in-Some+in_ok-verdict+in_ok-cert_id+in_ok-rules+in_ok-append_broken, in_default}
use Rattle.cms_check.proofs.checking.append_broken_by_signers.Goals as goal

pub loop-i-preserved : goal.loop-i-preserved
loop-i-preserved g c = elim c.match-signer.branch [
  | in-Some+in_ok-verdict+in_ok-cert_id+in_ok-rules+in_ok-append_broken w ↦ record {
    content = w.content-is ∙ w.in_ok-rules.ensures.same ∙ c.loop-i.invariant.content;
    certificates = w.certificates-is ∙ w.in_ok-cert_id.ensures.same ∙ c.loop-i.invariant.certificates;
    findings = λ m k.
        let now = subst (λ (content : Option Content). Correspond IsContentOf content m) (sym c.loop-i.invariant.content) k in
        one_more_signer (answer_of g.V.Verifier.answer (option_copied c.args.verifier)) c.args.signed_data.now m c.loop-i.i
        w.in-Some.signer w.in_ok-verdict.verdict w.in_ok-rules.rules c.loop-i.findings.items c.match-signer.findings.items _
        w.in-Some.ensures (w.in_ok-verdict.ensures m now) (w.in_ok-rules.ensures.ok m now)
        (ap (λ (f : Vec Finding Global). f.items) w.findings-is ∙ w.in_ok-append_broken.ensures) (c.loop-i.invariant.findings m k);
  }
  | in_default w ↦ absurd (there (borrowed_signers c.args.signed_data.now) c.loop-i.i
      (omega (arith, c.loop-i-test.true, c.len-i-end.ensures ∙ ap length c.signers.ensures)) w.in_default.ensures)
]
