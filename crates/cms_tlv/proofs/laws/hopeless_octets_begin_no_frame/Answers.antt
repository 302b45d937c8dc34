use Rattle.std.proofs.Common.{◌++◌, length, ap, arith, length-append}
use Rattle.cms_tlv.proofs.ReadingLaws.{room_less}
use Rattle.cms_tlv.proofs.laws.hopeless_octets_begin_no_frame.Goals as goal

pub returns : goal.returns
returns c strict bound state p x b y hopeless room parts frame =
    hopeless x b y tt (room_less bound.end state.limit (length state.done) (length (p ++ x)) (length b)
    (omega (arith, ap length parts, length-append b y)) room) parts frame
