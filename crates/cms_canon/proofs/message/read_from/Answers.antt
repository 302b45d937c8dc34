use Rattle.cms_tlv.specs.Spelling.{ber}
use Rattle.cms_canon.proofs.Messages.{kept_whole, spells_whole, none_failed, message_read, past_clause, was_refused, message_refused}
use Rattle.cms_canon.proofs.FirstFaults.{past_first_clause, refused_first, refused_begun, rejected_begun_clause}
use Rattle.cms_canon.proofs.message.read_from.Goals as goal
use Rattle.cms_canon.proofs.message.read_from.Goals.{in-Ok, in-Err}

pub returns-clause-found : goal.returns-clause-found
returns-clause-found g c left failures begun = elim c.match-read.branch [
  | in-Ok w ↦
      let k =
      kept_whole left (g.R.Input.left c.finish-reader.result.0) failures c.args.limit c.finish-reader.result.1.items begun
      w.in-Ok.ensures.found w.in-Ok.ensures.clear c.finish-reader.ensures.kept c.finish-reader.ensures.left c.finish-reader.ensures.limit in
      let same =
      none_failed _ c.read_spans-read.new.source left failures c.args.limit (g.R.Input.failures c.finish-reader.result.0) _ begun
      c.requires.sound c.finish-reader.ensures.failures (w.in-Ok.ensures.refines c.requires.sound).reaches.took
      (w.in-Ok.ensures.refines c.requires.sound).sound in
      rw (w.message-is, w.reader-is) (message_read left (g.R.Input.left c.finish-reader.result.0)
      (g.R.Input.left w.if_writable-message.new.reader) failures (g.R.Input.failures c.finish-reader.result.0)
      (g.R.Input.failures w.if_writable-message.new.reader) c.args.limit c.args.tail _ same k.0 k.1 w.if_writable-message.result
      w.if_writable-message.ensures.found w.if_writable-message.ensures.writable)
  | in-Err w ↦ rw w.message-is tt
]

pub returns-clause-faults : goal.returns-clause-faults
returns-clause-faults g c left failures begun = elim c.match-read.branch [
  | in-Ok w ↦
      let k =
      kept_whole left (g.R.Input.left c.finish-reader.result.0) failures c.args.limit c.finish-reader.result.1.items begun
      w.in-Ok.ensures.found w.in-Ok.ensures.clear c.finish-reader.ensures.kept c.finish-reader.ensures.left c.finish-reader.ensures.limit in
      let same =
      none_failed _ c.read_spans-read.new.source left failures c.args.limit (g.R.Input.failures c.finish-reader.result.0) _ begun
      c.requires.sound c.finish-reader.ensures.failures (w.in-Ok.ensures.refines c.requires.sound).reaches.took
      (w.in-Ok.ensures.refines c.requires.sound).sound in
      rw (w.message-is, w.reader-is) (past_clause left (g.R.Input.left c.finish-reader.result.0)
      (g.R.Input.left w.if_writable-message.new.reader) failures (g.R.Input.failures c.finish-reader.result.0)
      (g.R.Input.failures w.if_writable-message.new.reader) c.args.limit c.args.tail _ k.0 k.1 same w.if_writable-message.result
      w.if_writable-message.ensures.faults)
  | in-Err w ↦
      let s = c.read_spans-read.new.source in
      let failed = was_refused left failures c.args.limit _ s w.in-Err.fault begun (w.in-Err.ensures.refines c.requires.sound) in
      rw (w.message-is, w.reader-is, c.finish-reader.ensures.left, c.finish-reader.ensures.failures)
      (message_refused (c.message_laws.ensures.reads ber (λ e. absurd (let z = e in cc))) c.message_laws.ensures.explained left
      failures c.args.limit c.args.tail s c.finish-reader.result.1.items c.finish-reader.ensures.kept c.finish-reader.ensures.limit
      w.in-Err.fault failed)
]

pub returns-clause-refines : goal.returns-clause-refines
returns-clause-refines g c left failures begun = elim c.match-read.branch [
  | in-Ok w ↦
      let k =
      kept_whole left (g.R.Input.left c.finish-reader.result.0) failures c.args.limit c.finish-reader.result.1.items begun
      w.in-Ok.ensures.found w.in-Ok.ensures.clear c.finish-reader.ensures.kept c.finish-reader.ensures.left c.finish-reader.ensures.limit in
      rw (w.message-is, w.reader-is) (past_first_clause left (g.R.Input.left c.finish-reader.result.0)
      (g.R.Input.left w.if_writable-message.new.reader) failures (g.R.Input.failures c.finish-reader.result.0)
      (g.R.Input.failures w.if_writable-message.new.reader) c.args.limit c.args.tail _ k.0 k.1 w.if_writable-message.result
      w.if_writable-message.ensures.faults)
  | in-Err w ↦
      let s = c.read_spans-read.new.source in
      let failed = was_refused left failures c.args.limit _ s w.in-Err.fault begun (w.in-Err.ensures.refines c.requires.sound) in
      rw (w.message-is, w.reader-is, c.finish-reader.ensures.left, c.finish-reader.ensures.failures)
      (refused_first left failures c.args.limit c.args.tail s w.in-Err.fault failed)
]

pub returns-clause-begins : goal.returns-clause-begins
returns-clause-begins g c n = elim c.match-read.branch [
  | in-Ok w ↦ rw w.message-is (rejected_begun_clause _ _ _ _ w.if_writable-message.result w.if_writable-message.ensures.faults)
  | in-Err w ↦ rw w.message-is (refused_begun _ _ _ w.in-Err.fault n (w.in-Err.ensures.refines c.requires.sound))
]

pub measured-is_der-requires : goal.measured-is_der-requires
measured-is_der-requires g c =
    rw c.deref.ensures.value (spells_whole c.finish-reader.result.1.items c.requires.begun c.in-Ok.ensures.found c.in-Ok.ensures.clear
    c.finish-reader.ensures.kept)

pub invariant_of-message : goal.invariant_of-message
invariant_of-message g c = record {
  spells = spells_whole c.finish-reader.result.1.items c.requires.begun c.in-Ok.ensures.found c.in-Ok.ensures.clear c.finish-reader.ensures.kept;
  length = rw (← c.deref.ensures.value) c.measured-is_der.ensures.length;
  is_der = rw (← c.deref.ensures.value) c.measured-is_der.ensures.der;
}
