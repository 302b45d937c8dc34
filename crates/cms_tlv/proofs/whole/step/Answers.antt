use Rattle.std.proofs.Common.{◌+◌, slice_index_or, arith}
use Rattle.cms_tlv.proofs.Walks.{short_head, below_short}
use Rattle.cms_tlv.proofs.whole.step.Goals as goal

pub pass-requires-clause-head : goal.pass-requires-clause-head
pass-requires-clause-head c =
    let b = below_short (slice_index_or c.args.octets.now c.args.walk.at 0) (slice_index_or c.args.octets.now (c.args.walk.at + 1) 0)
    (omega (arith, c.short_below.ensures)) in
    short_head _ _ (λ k. omega (arith, c.type_inv.octets k)) (omega arith) b.0 b.1
