use Rattle.std.proofs.Common.{refl}
use Rattle.cms_tlv.proofs.SpellingLaws.{element_same}
use Rattle.cms_tlv.proofs.laws.elements_have_one_contents.Goals as goal

pub returns : goal.returns
returns c b d e id other p q = element_same p q refl
