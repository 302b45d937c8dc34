use Rattle.std.proofs.Common.{◌≡◌, ◌<◌, ◌++◌, ◌∷◌, ◌^◌, sym, ap, ◌∙◌, length, arith}
use Rattle.cms_scalars.proofs.TimeWrites.{time_writes}
use Rattle.cms_scalars.proofs.times.GenTime.put.Goals as goal

pub returns-in-Ok-clause-ok : goal.returns-in-Ok-clause-ok
returns-in-Ok-clause-ok c =
    let v = c.self.inside.octets in
    let w = c.extend_from_slice.new.self in
    let h = c.in_ok-put_header.ensures.ok in
    let n : c.len.result ≡ length v.items = omega (arith, v.ok.0, v.ok.1, c.len.ensures) in
    let room : length w.items < 2 ^ 64 = omega (arith, w.ok.0, w.ok.1, w.small) in
    time_writes v.items c.args.self.now c.len.result (sym c.self.view_is) c.self.invariant.0 n c.len.type_inv c.args.out.now.items
    c.put_header.new.out.items w.items (h.0, h.1, h.2 ∙ ap (λ t. t ++ 0x18 ∷ h.0) c.in_ok-reserve.ensures.items)
    (c.in-Ok.ensures.items ∙ ap (λ t. c.put_header.new.out.items ++ t) c.deref.ensures.value) room
