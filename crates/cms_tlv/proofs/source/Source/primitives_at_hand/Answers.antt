use Rattle.std.proofs.Common.{◌≡◌, refl, sym, subst, take, arith}
use Rattle.std.proofs.lemmas.List.{take-take, length-take}
use Rattle.std.specs.Io.KnownBytes.{Consumes}
use Rattle.cms_tlv.specs.Primitives.{PassesPrimitives}
use Rattle.cms_tlv.specs.State.{State}
use Rattle.cms_tlv.proofs.PassLaws.{passed_taken}
use Rattle.cms_tlv.proofs.source.Source.primitives_at_hand.Goals as goal

pub returns-in-Ok-extend_from_slice-clause-ok : goal.returns-in-Ok-extend_from_slice-clause-ok
returns-in-Ok-extend_from_slice-clause-ok g c =
    let i = c.self.inside in
    let s = rw (← c.self.view_is) at c.in_ok-standing.ensures.none in
    let room = rw (← c.self.view_is) at c.room-room.ensures in
    let at = rw (← c.self.view_is) at c.consumed-at.ensures.value in
    let old : State =
    record {
      done = i.kept.items;
      ahead = i.ahead;
      left = g.R.Input.left i.reader;
      failures = g.R.Input.failures i.reader;
      limit = i.limit;
      fault = i.fault;
    } in
    let new : State =
    record {
      done = c.extend_from_slice.new.self.items;
      ahead = i.ahead;
      left = g.R.Input.left c.advance.new.self;
      failures = g.R.Input.failures c.advance.new.self;
      limit = i.limit;
      fault = i.fault;
    } in
    let held = g.R.Input.held i.reader in
    let n = c.in-Ok.taken in
    let m = c.min.result in
    let e = c.at_hand-held.ensures in
    let all : take n (take m held) ≡ take n held = take-take n m held (omega (arith, c.in-Ok.ensures.fits, length-take m c.at_hand-held.result.now)) in
    rw (← c.self.view_is) (passed_taken c.args.ident c.room-room.result n m c.args.bound.now c.args.spans.now
    c.pass_primitives.new.spans held (take n (take m held)) {a = old} {b = new} room (rw (← e) c.min.ensures)
    (rw (← e) c.in-Ok.ensures.fits) refl (subst (λ x. PassesPrimitives c.args.ident x c.args.spans.now
    c.pass_primitives.new.spans (take n (take m held))) at (rw (← e) c.in-Ok.ensures.passes)) (record {
      done = rw (← e) c.in-Ok-extend_from_slice.ensures.items;
      left = subst (λ x. Consumes old.left new.left x) (sym all) c.advance.ensures.octets;
      limit = refl;
      failures = c.advance.ensures.failures;
      sound = s;
    }))
