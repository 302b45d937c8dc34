use Rattle.std.proofs.Common.{◌≡◌, sym, length, arith}
use Rattle.cms_scalars.proofs.TimeWrites.{time_length}
use Rattle.cms_scalars.proofs.times.GenTime.encoded_len.Goals as goal

pub returns : goal.returns
returns c =
    let v = c.self.inside.octets in
    let n : c.len-n.result ≡ length v.items = omega (arith, v.ok.0, v.ok.1, c.len-n.ensures) in
    rw c.saturating_add.ensures (time_length v.items c.args.self.now c.len-n.result (sym c.self.view_is) c.self.invariant.0 n
    c.len-n.type_inv c.header_len.result c.header_len.ensures.length (c.lengths_are_one.ensures.each c.len-n.result))
