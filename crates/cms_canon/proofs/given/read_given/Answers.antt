use Rattle.std.proofs.lemmas.Result.{IfOk-at_ok}
use Rattle.cms_canon.specs.Streams.{reading}
use Rattle.cms_canon.proofs.ReadLaws.{all_given}
use Rattle.cms_canon.proofs.given.read_given.Goals as goal

pub returns-in-Ok-message-clause-ok : goal.returns-in-Ok-message-clause-ok
returns-in-Ok-message-clause-ok g c =
    let all = reading g.I.Input.left g.I.Input.failures c.args.input c.read_rest_after.result.0 in
    let mid = c.read_message-input-2.result.0 in
    let read = IfOk-at_ok _ c.in-Ok-message.is c.read_message-input-2.ensures.found in
    rw c.if-not-with_rest.false (all_given all c.args.limit c.in-Ok-message.message (g.I.Input.left mid) (g.I.Input.failures mid) read
    c.read_rest_after.result.1 c.read_rest_after.ensures.ok)
