use Rattle.std.proofs.Common.{◌++◌, length}
use Rattle.cms_setof.specs.Copies.{CopiesMore}
use Rattle.cms_setof.specs.Pieces.{marked_pieces}
use Rattle.cms_setof.specs.internal.Tracing.{stacked}
use Rattle.cms_setof.proofs.absorbing.absorbed_before.Given as goal

abbrev pub invariant-loop-piece : goal.invariant-loop-piece
invariant-loop-piece l =
    CopiesMore (marked_pieces l.kept l.fn.pieces.items) (marked_pieces l.kept l.left.items ++ stacked l.kept l.stack.items)

abbrev pub decreases-loop-piece : goal.decreases-loop-piece
decreases-loop-piece l = length l.left.items
