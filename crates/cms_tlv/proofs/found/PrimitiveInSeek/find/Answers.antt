use Rattle.std.proofs.Common.{arith}
use Rattle.cms_tlv.proofs.AtHand.{primitive_found}
use Rattle.cms_tlv.proofs.found.PrimitiveInSeek.find.Goals as goal

pub returns-clause-finds : goal.returns-clause-finds
returns-clause-finds c =
    rw (← c.if-first-self.false) (primitive_found _ _ _ _ _ c.in_ok-len.ensures (omega arith) c.if-first-eq31.false c.if-rest-len.false
    (λ k. omega (arith, c.type_inv.octets k)) (omega (arith, c.if-behind-self.false)))
