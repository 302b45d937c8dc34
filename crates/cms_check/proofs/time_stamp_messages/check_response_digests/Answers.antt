use Rattle.std.proofs.lemmas.Result.{IfOk-weaker}
use Rattle.cms_check.proofs.time_stamp_messages.check_response_digests.Goals as goal

pub returns : goal.returns
returns c =
    IfOk-weaker c.check_response_known.result _ _ (λ r found detached stamped k.
    found detached stamped (c.of_digests-known.ensures.octets detached stamped k)) c.check_response_known.ensures
