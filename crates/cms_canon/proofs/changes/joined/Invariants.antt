use Rattle.std.proofs.Common.{◌≡◌, ◌++◌, drop}
use Rattle.cms_fields.specs.Assembly.{unmarked}
use Rattle.cms_setof.specs.Pieces.{marked_pieces}
use Rattle.cms_canon.proofs.changes.joined.Given as goal

abbrev pub invariant-loop-piece : goal.invariant-loop-piece
invariant-loop-piece l =
    l.all.items ++ unmarked (marked_pieces l.octets (drop l.piece-index l.pieces)) ≡ unmarked (marked_pieces l.octets l.pieces)
