use Rattle.std.proofs.Common.{length}
use Rattle.cms_tlv.proofs.PassLaws.{Passed}
use Rattle.cms_tlv.proofs.primitives.pass_primitives.Given as goal

abbrev pub invariant-loop-len : goal.invariant-loop-len
invariant-loop-len l = Passed l.ident l.at l.fn.spans l.spans l.octets l.rest l.start

abbrev pub decreases-loop-len : goal.decreases-loop-len
decreases-loop-len l = length l.rest
