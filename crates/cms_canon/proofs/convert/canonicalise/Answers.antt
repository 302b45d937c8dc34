use Rattle.std.proofs.Common.{refl}
use Rattle.std.proofs.lemmas.Result.{IfOk-at_ok, IfErr-at_err}
use Rattle.cms_canon.proofs.Canonicalised.{sent, not_sent, not_read}
use Rattle.cms_canon.proofs.convert.canonicalise.Goals as goal
use Rattle.cms_canon.proofs.convert.canonicalise.Goals.{in-Ok, in-Err}

pub returns-clause-found : goal.returns-clause-found
returns-clause-found g c = elim c.match-message.branch [
  | in-Ok w ↦ rw (w.done-is, w.writer-is) (sent _ _ c.args.limit c.args.tail c.message_octets_are_kept.ensures _
      (IfOk-at_ok _ w.in-Ok.is c.read_message-reader.ensures.found) w.write_message-done.result
      w.write_message-done.ensures.ok)
  | in-Err w ↦ rw w.done-is tt
]

pub returns-clause-faults : goal.returns-clause-faults
returns-clause-faults g c = elim c.match-message.branch [
  | in-Ok w ↦ rw (w.done-is, w.writer-is) (not_sent _ _ c.args.limit c.args.tail _
      (IfOk-at_ok _ w.in-Ok.is c.read_message-reader.ensures.found) w.write_message-done.result
      w.write_message-done.ensures.err)
  | in-Err w ↦ rw (w.done-is, w.writer-is) (not_read _ _ c.args.limit c.args.tail (refl, refl) _ (
    IfErr-at_err _ w.in-Err.is c.read_message-reader.ensures.faults,
    IfErr-at_err _ w.in-Err.is c.read_message-reader.ensures.refines,
  ))
]
