use Rattle.std.proofs.Common.{length, ap, ◌∙◌, arith}
use Rattle.cms_canon.specs.internal.ManySteps.{InHand}
use Rattle.cms_canon.proofs.Conversions.{flush_stops}
use Rattle.cms_canon.proofs.many.Batch.flush.Goals as goal

pub fault-requires : goal.fault-requires
fault-requires g c n e =
    let stops = rw e at c.in-Err.ensures.err in
    let octets = c.deref.ensures.value ∙ ap (λ (b : InHand). b.octets) c.self.view_is in
    let count = ap (λ (b : InHand). b.count) c.self.view_is in
    omega (arith, stops.0, ap length octets, c.self.invariant, c.self.ranges, ap (λ n. n.written) count)

pub returns-in-Err-clause-err : goal.returns-in-Err-clause-err
returns-in-Err-clause-err g c left mid after failures some fails more out failed limit p taken short =
    rw c.fault.ensures (flush_stops p more taken short _ (c.deref.ensures.value ∙ ap (λ (b : InHand). b.octets) c.self.view_is)
    c.in-Err.fault c.in-Err.ensures.err c.in-Err.ensures.failures)
