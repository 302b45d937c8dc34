use Rattle.std.specs.Option.{option_copied}
use Rattle.std.proofs.lemmas.Result.{IfOk-weaker}
use Rattle.cms_check.specs.Jobs.{answer_of}
use Rattle.cms_check.proofs.Reports.{in_response}
use Rattle.cms_check.proofs.time_stamp_messages.check_response_known.Goals as goal

pub returns-in-Some : goal.returns-in-Some
returns-in-Some g c =
    IfOk-weaker c.check_known.result _ _ (λ r found detached stamped k.
    in_response (answer_of g.V.Verifier.answer (option_copied c.args.verifier)) c.args.response.now c.in-Some.token c.status_agrees.result
    c.signed_data.result detached stamped r c.in-Some.ensures c.status_agrees.ensures c.signed_data.ensures (found detached stamped k))
    c.check_known.ensures
