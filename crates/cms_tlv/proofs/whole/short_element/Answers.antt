use Rattle.std.proofs.Common.{arith}
use Rattle.std.proofs.lemmas.Grind.{common_steps}
use Rattle.cms_tlv.proofs.AtHand.{header_with}
use Rattle.cms_tlv.proofs.whole.short_element.Goals as goal

pub returns : goal.returns
returns c = header_with _ _ c.in_ok-ident.ensures (grind (arith, common_steps)) (grind (arith, common_steps))
