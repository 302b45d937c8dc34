use Rattle.std.proofs.Common.{subst}
use Rattle.std.proofs.lemmas.Result.{IfOk-at_ok, IfErr-at_err}
use Rattle.cms_canon.specs.Exact.{ExactFaults}
use Rattle.cms_canon.specs.Messages.{IsRead}
use Rattle.cms_canon.specs.Streams.{reading}
use Rattle.cms_cli.proofs.AfterLaws.{after_checked, after_faults, message_failed}
use Rattle.cms_cli.proofs.check.check.Goals as goal

pub returns-in-Ok-clause-ok : goal.returns-in-Ok-clause-ok
returns-in-Ok-clause-ok g c =
    let all = reading g.I.Input.left g.I.Input.failures c.args.input c.checked.result.0 in
    let mid = c.read_message-input.result.0 in
    let read =
    subst (λ tail. IsRead (reading g.I.Input.left g.I.Input.failures c.args.input mid) c.args.limit tail c.in-Ok.message)
    c.tail_before.ensures (IfOk-at_ok _ c.in-Ok.is c.read_message-input.ensures.found) in
    after_checked all c.args.limit c.args.after c.in-Ok.message (g.I.Input.left mid) (g.I.Input.failures mid) read c.checked.result.1 c.checked.ensures.ok

pub returns-in-Ok-clause-faults : goal.returns-in-Ok-clause-faults
returns-in-Ok-clause-faults g c =
    let all = reading g.I.Input.left g.I.Input.failures c.args.input c.checked.result.0 in
    let mid = c.read_message-input.result.0 in
    let read =
    subst (λ tail. IsRead (reading g.I.Input.left g.I.Input.failures c.args.input mid) c.args.limit tail c.in-Ok.message)
    c.tail_before.ensures (IfOk-at_ok _ c.in-Ok.is c.read_message-input.ensures.found) in
    after_faults all c.args.limit c.args.after c.in-Ok.message (g.I.Input.left mid) (g.I.Input.failures mid) read c.checked.result.1 c.checked.ensures.faults

pub returns-in-Err-clause-faults : goal.returns-in-Err-clause-faults
returns-in-Err-clause-faults g c =
    let all = reading g.I.Input.left g.I.Input.failures c.args.input c.read_message-input.result.0 in
    let read = c.read_message-input.result.1 in
    let fault = c.in-Err.fault in
    message_failed all c.args.limit c.args.after fault (subst (λ tail. ExactFaults all c.args.limit tail fault) c.tail_before.ensures
    (IfErr-at_err _ c.in-Err.is c.read_message-input.ensures.faults, IfErr-at_err _ c.in-Err.is c.read_message-input.ensures.refines))
