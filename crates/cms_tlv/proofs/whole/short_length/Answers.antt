use Rattle.std.proofs.Common.{arith}
use Rattle.std.proofs.lemmas.Grind.{common_steps}
use Rattle.cms_tlv.proofs.AtHand.{length_1, led_by}
use Rattle.cms_tlv.proofs.whole.short_length.Goals as goal

pub returns-in-0-to-127 : goal.returns-in-0-to-127
returns-in-0-to-127 c = length_1 _ _ _ c.in_ok-first.ensures.cases.0 (grind (arith, common_steps))

pub returns-in-129 : goal.returns-in-129
returns-in-129 c = rw (led_by c.in_ok-first.ensures.cases.0 c.in-129.is) c.one_octet_length.ensures

pub returns-in-130 : goal.returns-in-130
returns-in-130 c = rw (led_by c.in_ok-first.ensures.cases.0 c.in-130.is) c.two_octet_length.ensures
