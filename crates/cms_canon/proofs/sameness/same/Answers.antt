use Rattle.std.proofs.lemmas.Result.{IfOk-at_ok}
use Rattle.cms_canon.proofs.ReadLaws.{both_same}
use Rattle.cms_canon.proofs.sameness.same.Goals as goal

pub returns-in-Ok-clause-ok : goal.returns-in-Ok-clause-ok
returns-in-Ok-clause-ok g c =
    both_same _ _ c.args.limit c.in-Ok.message (IfOk-at_ok _ c.in-Ok.is
    c.read_message-first.ensures.found) c.same_as-second.result.1 c.same_as-second.ensures.ok
