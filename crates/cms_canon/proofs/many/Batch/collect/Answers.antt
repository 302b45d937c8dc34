use Rattle.std.proofs.Common.{[], arith}
use Rattle.std.proofs.KnownBytes.{Consumes-nil}
use Rattle.std.proofs.lemmas.Result.{err_from_is_err_and}
use Rattle.cms_canon.specs.Streams.{between}
use Rattle.cms_canon.proofs.Conversions.{collected, flushed, read_in_vain}
use Rattle.cms_canon.proofs.many.Batch.collect.Goals as goal

pub returns-in-Err-clause-proceeds : goal.returns-in-Err-clause-proceeds
returns-in-Err-clause-proceeds g c left mid after failures some fails out failed limit p k =
    c.stop.ensures left mid after failures some fails out failed limit (rw c.in-Err.ensures.err p)
    (read_in_vain (between mid some after fails) limit c.args.message.now c.append.new.self.count k (rw c.in-Err.ensures.err c.requires.few))

pub returns-in_err-flush-clause-proceeds : goal.returns-in_err-flush-clause-proceeds
returns-in_err-flush-clause-proceeds g c left mid after failures some fails out failed limit p k =
    let q = err_from_is_err_and c.from_residual.result c.from_residual.ensures.1 in
    rw (q.1, q.2) (c.in_err-flush.ensures.err left after after failures fails fails [] out failed limit
    (collected c.message_octets_are_kept.ensures c.args.message.now p c.requires.room c.requires.small k c.in-Ok.ensures.ok)
    (Consumes-nil after) (omega arith))

pub returns-in_ok-flush-clause-proceeds : goal.returns-in_ok-flush-clause-proceeds
returns-in_ok-flush-clause-proceeds g c left mid after failures some fails out failed limit p k =
    rw c.in_ok-flush.ensures.ok (flushed (collected c.message_octets_are_kept.ensures c.args.message.now p c.requires.room c.requires.small
    k c.in-Ok.ensures.ok) c.in_ok-flush.ensures.written)

pub returns-else-len-ge-PIECE-clause-proceeds : goal.returns-else-len-ge-PIECE-clause-proceeds
returns-else-len-ge-PIECE-clause-proceeds g c left mid after failures some fails out failed limit p k =
    collected c.message_octets_are_kept.ensures c.args.message.now p c.requires.room c.requires.small k c.in-Ok.ensures.ok
