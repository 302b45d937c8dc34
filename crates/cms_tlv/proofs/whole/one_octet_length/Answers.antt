use Rattle.std.proofs.Common.{arith}
use Rattle.std.proofs.lemmas.Grind.{common_steps}
use Rattle.cms_tlv.proofs.AtHand.{length_2}
use Rattle.cms_tlv.proofs.whole.one_octet_length.Goals as goal

pub returns : goal.returns
returns c = length_2 _ c.in_ok-len.ensures.cases.0 (omega arith) (grind (arith, common_steps))
