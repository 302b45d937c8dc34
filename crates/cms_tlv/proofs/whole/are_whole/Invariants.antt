use Rattle.std.proofs.Common.{◌+◌, ◌-◌, ◌*◌, length}
use Rattle.cms_tlv.specs.internal.Whole.{Walks}
use Rattle.cms_tlv.proofs.whole.are_whole.Given as goal

abbrev pub invariant-loop-end : goal.invariant-loop-end
invariant-loop-end l = Walks l.most l.octets l.around l.walk.at l.walk.room l.walk.nested

abbrev pub decreases-loop-end : goal.decreases-loop-end
decreases-loop-end l = l.walk.nested + 2 * (length l.octets - l.walk.at)
