use Rattle.cms_tlv.proofs.FrameLaws.{frame_cut}
use Rattle.cms_tlv.proofs.laws.frames_end_themselves.Goals as goal

pub returns : goal.returns
returns c a b x y p q e = frame_cut x y p q e
