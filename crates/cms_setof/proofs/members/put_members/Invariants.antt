use Rattle.std.proofs.Common.{◌≡◌, ◌++◌, ℕ, List, length, map}
use Rattle.cms_fields.specs.Assembly.{join_marked}
use Rattle.cms_setof.specs.internal.Tracing.{stacked, marked_member}
use Rattle.cms_setof.proofs.members.put_members.Given as goal

abbrev pub invariant-loop-member : goal.invariant-loop-member
invariant-loop-member l =
    (k : List ℕ) → join_marked (map (marked_member k) l.left.items) ++ stacked k l.pieces.items
    ≡ join_marked (map (marked_member k) l.fn.members.items) ++ stacked k l.fn.pieces.items

abbrev pub decreases-loop-member : goal.decreases-loop-member
decreases-loop-member l = length l.left.items
