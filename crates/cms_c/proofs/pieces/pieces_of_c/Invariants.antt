use Rattle.std.proofs.Common.{◌≡◌, ◌++◌, drop}
use Rattle.cms_c.specs.Pieces.{pieces_of_c}
use Rattle.cms_c.proofs.pieces.pieces_of_c.Given as goal

abbrev pub invariant-loop-piece : goal.invariant-loop-piece
invariant-loop-piece l =
    l.all.items ++ pieces_of_c l.input l.at (drop l.piece-index l.pieces) ≡ pieces_of_c l.input 0 l.pieces
