use Rattle.std.proofs.Common.{arith}
use Rattle.std.proofs.lemmas.Grind.{common_steps}
use Rattle.cms_tlv.proofs.AtHand.{length_3}
use Rattle.cms_tlv.proofs.whole.two_octet_length.Goals as goal

pub returns : goal.returns
returns c =
    length_3 _ _ c.in_ok-high.ensures.cases.0 c.in_ok-low.ensures.cases.0 c.if-high-eq0.false (grind (arith, common_steps))
    (grind (arith, common_steps))
