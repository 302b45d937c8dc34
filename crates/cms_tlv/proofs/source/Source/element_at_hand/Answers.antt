use Rattle.cms_tlv.specs.internal.Found.{IsWhole, TakesFound}
use Rattle.cms_tlv.proofs.FoundGives.{element_gave}
use Rattle.cms_tlv.proofs.source.Source.element_at_hand.Goals as goal

pub returns-in-Some-clause-yes : goal.returns-in-Some-clause-yes
returns-in-Some-clause-yes g c =
    let t : TakesFound (λ o. IsWhole c.room.result o) c.args.self.now c.take_found.new.self = rw c.in-Some.is at c.in_ok-take_found.ensures.some in
    λ _. element_gave c.args.bound.now c.room.result t c.requires.sound c.room.ensures
