use Rattle.std.proofs.Common.{◌+◌, ◌-◌, ◌*◌, ◌≤◌, length}
use Rattle.cms_tlv.specs.internal.Whole.{Walks}
use Rattle.cms_tlv.proofs.whole.to_end.Given as goal

abbrev pub invariant-loop-walk : goal.invariant-loop-walk
invariant-loop-walk l =
    Walks l.most l.octets l.around l.walk.at l.walk.room l.walk.nested
    × (l.walk.nested + 2 * l.initial.walk.at ≤ l.initial.walk.nested + 2 * l.walk.at)

abbrev pub decreases-loop-walk : goal.decreases-loop-walk
decreases-loop-walk l = l.walk.nested + 2 * (length l.octets - l.walk.at)
