use Rattle.std.proofs.Common.{[], subst}
use Rattle.std.specs.Option.{option_copied}
use Rattle.cms_check.specs.Findings.{AreFound}
use Rattle.cms_check.proofs.checking.check.Goals as goal

pub returns-in-Ok : goal.returns-in-Ok
returns-in-Ok g c =
    let given = c.args.given.now in
    subst (λ token. AreFound [] (g.V.Verifier.answer c.args.verifier.now) c.args.signed_data.now (option_copied given.detached)
    (option_copied given.stamped) token c.in-Ok.report) c.of_octets-known.ensures.token
    (c.in-Ok.ensures (option_copied given.detached) (option_copied given.stamped) c.of_octets-known.ensures.octets)
