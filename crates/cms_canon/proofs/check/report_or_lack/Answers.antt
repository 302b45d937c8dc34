use Rattle.std.proofs.lemmas.Result.{IfOk-weaker}
use Rattle.cms_canon.proofs.FoundLaws.{signed_found, response_found}
use Rattle.cms_canon.proofs.check.report_or_lack.Goals as goal

pub returns-in-Signed : goal.returns-in-Signed
returns-in-Signed c =
    IfOk-weaker c.check_digests.result _ _ (λ r found content octets k l.
    signed_found c.args.message.now.value content octets r c.in-Signed.content_info c.signed_data.result c.in-Signed.ensures
    c.signed_data.ensures (found content octets (k, l))) c.check_digests.ensures

pub returns-in-Response : goal.returns-in-Response
returns-in-Response c =
    IfOk-weaker c.check_response_digests.result _ _ (λ r found content octets k l.
    response_found c.args.message.now.value content octets r c.in-Response.response c.in-Response.ensures (found content octets (k, l)))
    c.check_response_digests.ensures
