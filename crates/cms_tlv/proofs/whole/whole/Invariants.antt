use Rattle.std.proofs.Common.{length}
use Rattle.cms_tlv.proofs.AtHand.{HasRest}
use Rattle.cms_tlv.proofs.whole.whole.Given as goal

abbrev pub invariant-loop-behind : goal.invariant-loop-behind
invariant-loop-behind l = HasRest l.levels l.octets l.rest

abbrev pub decreases-loop-behind : goal.decreases-loop-behind
decreases-loop-behind l = length l.rest
