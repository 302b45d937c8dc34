use Rattle.cms_tlv.proofs.AtHand.{within_room}
use Rattle.cms_tlv.proofs.whole.WholeElementsScanner.accept.Goals as goal

pub returns-clause-accepted : goal.returns-clause-accepted
returns-clause-accepted c = within_room _ _ c.min-room.result _ c.whole.result c.min-room.ensures c.whole.ensures.fits c.whole.ensures.whole
