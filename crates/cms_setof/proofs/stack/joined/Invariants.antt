use Rattle.std.proofs.Common.{◌≡◌, take}
use Rattle.cms_fields.specs.Assembly.{unmarked}
use Rattle.cms_setof.specs.Pieces.{marked_pieces}
use Rattle.cms_setof.proofs.stack.joined.Given as goal

abbrev pub invariant-loop-piece : goal.invariant-loop-piece
invariant-loop-piece l = l.octets.items ≡ unmarked (marked_pieces l.kept (take l.piece-index l.pieces))
