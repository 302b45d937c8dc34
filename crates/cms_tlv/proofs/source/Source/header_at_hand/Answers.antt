use Rattle.cms_tlv.specs.internal.Found.{IsFoundHeader, TakesFound}
use Rattle.cms_tlv.proofs.FoundGives.{header_gave}
use Rattle.cms_tlv.proofs.source.Source.header_at_hand.Goals as goal

pub returns-clause-some : goal.returns-clause-some
returns-clause-some g c =
    let f = c.in-Some.found in
    let t : TakesFound (λ o. IsFoundHeader c.room.result o f.ident f.len) c.args.self.now c.take_found.new.self = rw c.in-Some.is at c.in_ok-found.ensures.some in
    rw c.consumed.ensures.value (header_gave c.args.bound.now c.room.result f.ident f.len t c.requires.sound c.room.ensures)
