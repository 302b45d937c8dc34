use Rattle.std.proofs.Common.{◌≡◌}
use Rattle.std.specs.Prelude.{bytes_eq}
use Rattle.cms_tlv.specs.Spelling.{join}
use Rattle.cms_fields.specs.Indexed.{left}
use Rattle.cms_scalars.specs.Borrowed.{borrowed_pieces}
use Rattle.cms_check.proofs.tokens.are_joined.Given as goal

abbrev pub invariant-loop-piece : goal.invariant-loop-piece
invariant-loop-piece l =
    (goal.iterator-loop-piece).can_next l.piece-iterator × (goal.iterator-loop-piece).is_finite l.piece-iterator
    × (bytes_eq (join (left borrowed_pieces l.piece-iterator)) l.rest ≡ bytes_eq (join (borrowed_pieces l.string)) l.octets)
