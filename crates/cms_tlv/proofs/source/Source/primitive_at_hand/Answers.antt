use Rattle.std.proofs.Common.{refl}
use Rattle.cms_tlv.specs.internal.Found.{IsPrimitive, TakesFound}
use Rattle.cms_tlv.proofs.FoundGives.{primitive_gave}
use Rattle.cms_tlv.proofs.source.Source.primitive_at_hand.Goals as goal

pub returns-clause-some : goal.returns-clause-some
returns-clause-some g c =
    let f = c.in-Some.found in
    let t : TakesFound (λ o. IsPrimitive c.room.result c.args.ident o f.len) c.args.self.now c.take_found.new.self =
    rw c.in-Some.is at c.in_ok-found.ensures.some in
    primitive_gave c.args.bound.now c.room.result c.args.ident f.len _ _ t c.requires.sound c.room.ensures c.consumed-end.ensures.value refl
