use Rattle.std.proofs.Common.{[], subst}
use Rattle.std.proofs.lemmas.Result.{IfOk-weaker}
use Rattle.cms_check.specs.declared.verifier.Verdict.TheVariants.{Unknown}
use Rattle.cms_check.specs.Findings.{AreFound}
use Rattle.cms_check.proofs.checking.check_digests.Goals as goal

pub returns : goal.returns
returns c =
    IfOk-weaker c.check_known.result _ _ (λ r found detached stamped k.
    subst (λ token. AreFound [] (λ job. Unknown) c.args.signed_data.now detached stamped token r) c.of_digests-known.ensures.token
    (found detached stamped (c.of_digests-known.ensures.octets detached stamped k))) c.check_known.ensures
