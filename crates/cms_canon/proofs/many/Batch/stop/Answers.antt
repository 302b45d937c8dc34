use Rattle.std.proofs.Common.{refl}
use Rattle.cms_canon.proofs.Conversions.{flushed, fails_next, next_took}
use Rattle.cms_canon.proofs.many.Batch.stop.Goals as goal

pub returns-in-Ok : goal.returns-in-Ok
returns-in-Ok g c left mid after failures some fails out failed limit p n =
    rw (c.fault.ensures, c.in-Ok.ensures.ok) (fails_next (flushed p c.in-Ok.ensures.written) refl c.args.fault n)

pub returns-in-Err : goal.returns-in-Err
returns-in-Err g c left mid after failures some fails out failed limit p n =
    let took = next_took mid after some fails limit c.args.self.now.count c.args.fault n in
    c.in-Err.ensures.err left mid after failures some fails took.0 out failed limit p took.1 took.2

pub fault-requires : goal.fault-requires
fault-requires g c n e = absurd (c.requires n e)
