use Rattle.std.proofs.Common.{[], arith}
use Rattle.std.proofs.lemmas.Result.{err_from_is_err_and}
use Rattle.cms_canon.proofs.Conversions.{still, flushed}
use Rattle.cms_canon.proofs.many.Batch.finish.Goals as goal

pub returns-in_err-flush-clause-proceeds : goal.returns-in_err-flush-clause-proceeds
returns-in_err-flush-clause-proceeds g c left mid after failures some fails out failed limit p t l =
    let q = err_from_is_err_and c.from_residual.result c.from_residual.ensures.1 in
    rw (q.1, q.2) (c.in_err-flush.ensures.err left mid after failures some fails [] out failed limit p t (omega arith))

pub returns-clause-proceeds : goal.returns-clause-proceeds
returns-clause-proceeds g c left mid after failures some fails out failed limit p t l =
    rw c.in_ok-flush.ensures.ok (still (flushed p c.in_ok-flush.ensures.written) t l)
