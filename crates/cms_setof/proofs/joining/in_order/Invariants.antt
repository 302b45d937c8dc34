use Rattle.std.proofs.Common.{◌≡◌, ◌++◌, length}
use Rattle.std.specs.List.{All}
use Rattle.cms_setof.specs.Pieces.{marked_pieces, HasOctets, AreJoined}
use Rattle.cms_setof.specs.internal.Tracing.{stacked}
use Rattle.cms_setof.proofs.joining.in_order.Given as goal

abbrev pub invariant-loop-piece : goal.invariant-loop-piece
invariant-loop-piece l = record {
  octets : marked_pieces l.kept l.ordered.items ++ stacked l.kept l.left.items ≡ stacked l.kept l.fn.pieces.items;
  have : All (HasOctets l.kept) l.ordered.items;
  joined : AreJoined l.ordered.items;
}

abbrev pub decreases-loop-piece : goal.decreases-loop-piece
decreases-loop-piece l = length l.left.items
