use Rattle.std.proofs.Common.{◌≡◌, ◌+◌, ◌++◌, length}
use Rattle.cms_setof.specs.Pieces.{marked_pieces}
use Rattle.cms_setof.specs.internal.Tracing.{stacked}
use Rattle.cms_setof.proofs.stack.take_first.Given as goal

abbrev pub invariant-loop-left : goal.invariant-loop-left
invariant-loop-left l = record {
  parts : stacked l.kept l.fn.pieces.items ≡ marked_pieces l.kept l.first.items ++ stacked l.kept l.pieces.items;
  counted : length (marked_pieces l.kept l.first.items) + l.left ≡ l.fn.n;
}

abbrev pub decreases-loop-left : goal.decreases-loop-left
decreases-loop-left l = length l.pieces.items
