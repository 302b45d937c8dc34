use Rattle.std.proofs.Common.{◌≤◌, ◌-◌, length}
use Rattle.cms_c.specs.Extents.{IsOpenedAt, IsReached}
use Rattle.cms_c.proofs.extent.extended.Given as goal

abbrev pub invariant-loop-alloc : goal.invariant-loop-alloc
invariant-loop-alloc l =
    (l.extent.end ≤ length l.fn.input) × (l.extent.unended ≤ l.extent.end)
    × (IsOpenedAt l.fn.input l.fn.before.end l.fn.before.unended → IsReached l.fn.input l.fn.limit l.extent.end l.extent.unended)

abbrev pub decreases-loop-alloc : goal.decreases-loop-alloc
decreases-loop-alloc l = length l.fn.input - l.extent.end
