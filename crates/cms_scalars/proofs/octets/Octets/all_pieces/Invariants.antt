use Rattle.std.proofs.Common.{◌≡◌, ◌++◌, map}
use Rattle.cms_tlv.specs.Spans.{borrowed_spans}
use Rattle.cms_fields.specs.Indexed.{left}
use Rattle.cms_fields.specs.Received.{spanned_in}
use Rattle.cms_scalars.proofs.octets.Octets.all_pieces.Given as goal

abbrev pub invariant-loop-span : goal.invariant-loop-span
invariant-loop-span l =
    (goal.iterator-loop-span).can_next l.span-iterator × (goal.iterator-loop-span).is_finite l.span-iterator
    × (map (λ s. s.now) l.pieces.items ++ spanned_in l.self.kept.now (left borrowed_spans l.span-iterator)
    ≡ spanned_in l.self.kept.now (borrowed_spans l.self.spans))
