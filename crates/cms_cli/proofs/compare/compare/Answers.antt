use Rattle.std.proofs.lemmas.Result.{IfOk-at_ok, IfErr-at_err}
use Rattle.cms_canon.specs.Streams.{reading}
use Rattle.cms_cli.proofs.PairLaws.{says_same, said_in_vain, which_failed}
use Rattle.cms_cli.proofs.compare.compare.Goals as goal
use Rattle.cms_cli.proofs.compare.compare.Goals.{in-Ok-same, in-Err-same}

pub returns-after-same-clause-ok : goal.returns-after-same-clause-ok
returns-after-same-clause-ok g c =
    let all = reading g.I.Input.left g.I.Input.failures c.args.input c.same_as-input.result.0 in
    let mid = c.read_message-input.result.0 in
    let read = IfOk-at_ok _ c.in-Ok.is c.read_message-input.ensures.found in
    elim c.match-same.branch [
      | in-Ok-same w ↦ rw w.answer-is (says_same all c.args.limit c.in-Ok.first (g.I.Input.left mid) (g.I.Input.failures mid) read
          w.in-Ok-same.same (IfOk-at_ok _ w.in-Ok-same.is c.same_as-input.ensures.ok)
          w.said-answer.result w.said-answer.ensures.ok)
      | in-Err-same w ↦ rw w.answer-is tt
    ]

pub returns-after-same-clause-faults : goal.returns-after-same-clause-faults
returns-after-same-clause-faults g c =
    let all = reading g.I.Input.left g.I.Input.failures c.args.input c.same_as-input.result.0 in
    let mid = c.read_message-input.result.0 in
    let read = IfOk-at_ok _ c.in-Ok.is c.read_message-input.ensures.found in
    elim c.match-same.branch [
      | in-Ok-same w ↦
          let second = IfOk-at_ok _ w.in-Ok-same.is c.same_as-input.ensures.ok in
          rw w.answer-is (said_in_vain all c.args.limit c.in-Ok.first (g.I.Input.left mid) (g.I.Input.failures mid) read second.0 second.1
          w.said-answer.result w.said-answer.ensures.err)
      | in-Err-same w ↦ rw w.answer-is (which_failed all c.args.limit c.in-Ok.first (g.I.Input.left mid) (g.I.Input.failures mid) read
          w.in-Err-same.fault (IfErr-at_err _ w.in-Err-same.is c.same_as-input.ensures.faults))
    ]
