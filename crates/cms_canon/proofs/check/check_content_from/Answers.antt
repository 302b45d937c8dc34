use Rattle.std.proofs.Common.{Some, None}
use Rattle.std.proofs.lemmas.Result.{IfOk-at_ok}
use Rattle.std.proofs.lemmas.Result.{IfOk-weaker}
use Rattle.cms_check.proofs.DigestLaws.{are_digests}
use Rattle.cms_canon.proofs.check.check_content_from.Goals as goal

pub returns-in-Ok-digests-clause-ok : goal.returns-in-Ok-digests-clause-ok
returns-in-Ok-digests-clause-ok g c =
    let given = IfOk-at_ok _ c.in-Ok-digests.is c.digests_from-reader.ensures.ok in
    IfOk-weaker c.report_by.result _ _ (λ r found. (
      given.0,
      given.1,
      found (Some given.0) None (are_digests _ given.0 c.in-Ok-digests.digests given.2) tt,
    )) c.report_by.ensures.ok
