use Rattle.std.proofs.lemmas.Result.{IfOk-at_ok, IfErr-at_err}
use Rattle.cms_canon.proofs.ReadLaws.{second_same, second_in_vain}
use Rattle.cms_canon.proofs.sameness.same_as.Goals as goal
use Rattle.cms_canon.proofs.sameness.same_as.Goals.{in-Ok, in-Err}

pub returns-clause-ok : goal.returns-clause-ok
returns-clause-ok g c = elim c.match-second.branch [
  | in-Ok w ↦ rw w.same-is (second_same _ c.args.limit c.args.tail c.args.first.now w.in-Ok.second
      (IfOk-at_ok _ w.in-Ok.is c.read_message-input.ensures.found) w.compared-same.result
      w.compared-same.ensures.ok)
  | in-Err w ↦ rw w.same-is tt
]

pub returns-clause-faults : goal.returns-clause-faults
returns-clause-faults g c = elim c.match-second.branch [
  | in-Ok w ↦ rw w.same-is (second_in_vain _ c.args.limit c.args.tail c.args.first.now w.in-Ok.second
      (IfOk-at_ok _ w.in-Ok.is c.read_message-input.ensures.found) w.compared-same.result
      w.compared-same.ensures.err)
  | in-Err w ↦ rw w.same-is (
    IfErr-at_err _ w.in-Err.is c.read_message-input.ensures.faults,
    IfErr-at_err _ w.in-Err.is c.read_message-input.ensures.refines,
  )
]
