use Rattle.std.proofs.Common.{arith}
use Rattle.cms_tlv.proofs.AtHand.{header_found}
use Rattle.cms_tlv.proofs.found.HeaderInSeek.find.Goals as goal

pub returns-clause-finds : goal.returns-clause-finds
returns-clause-finds c =
    header_found _ _ _ _ _ c.in_ok-len.ensures (omega arith) c.if-first-eq31.false (omega (arith, c.if-self-behind.false))
    (omega (arith, c.if-self-behind-2.false))
