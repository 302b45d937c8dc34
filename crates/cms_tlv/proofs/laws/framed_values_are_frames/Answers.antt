use Rattle.cms_tlv.proofs.OpaqueReads.{framed_frame}
use Rattle.cms_tlv.proofs.laws.framed_values_are_frames.Goals as goal

pub returns : goal.returns
returns c b depth p = framed_frame p
