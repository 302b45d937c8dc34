use Rattle.cms_tlv.proofs.Paths.{header_no_path}
use Rattle.cms_tlv.proofs.laws.no_path_enters_a_primitive_element.Goals as goal

pub returns : goal.returns
returns c id n i l p k q s h = header_no_path p k q s h
