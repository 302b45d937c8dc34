use Rattle.std.proofs.Common.{◌≡◌, length, arith}
use Rattle.cms_c.proofs.Rooms.{put_together}
use Rattle.cms_c.proofs.many.Prefix.reported_after.Goals as goal

pub returns-clause-outcome : goal.returns-clause-outcome
returns-clause-outcome c =
    let fits = rw c.deref.ensures.value at c.put_from-fits.ensures.fits in
    let lacks_room = rw c.deref.ensures.value at c.put_from-fits.ensures.lacks_room in
    let counted : c.len-2.result ≡ length c.args.self.now.octets.items = omega (arith, c.len-2.ensures) in
    let says = rw counted at c.counting_up_to.ensures.fits in
    let says_lack = rw counted at c.counting_up_to.ensures.lacks_room in
    put_together c.args.first.now c.args.output.now _ c.args.self.now.octets.items c.args.self.now.refusal c.saturating_sub-room.result
    c.in_ok-begin.begin c.counting_up_to.result (omega (arith, c.saturating_sub-room.ensures, c.len.ensures)) c.in_ok-begin.ensures.ok
    c.put_from-fits.result _ fits lacks_room says says_lack
