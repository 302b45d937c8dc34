use Rattle.cms_tlv.proofs.FirstElements.{of_element}
use Rattle.cms_tlv.proofs.laws.first_elements_are_elements.Goals as goal

pub returns : goal.returns
returns c t i e d r h = of_element t i e d r h
