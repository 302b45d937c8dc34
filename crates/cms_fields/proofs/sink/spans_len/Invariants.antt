use Rattle.std.proofs.Common.{◌≡◌, ◌+◌, ◌≤◌, length, min}
use Rattle.cms_tlv.specs.Spans.{borrowed_spans}
use Rattle.cms_tlv.specs.Spelling.{join}
use Rattle.cms_fields.specs.Indexed.{left}
use Rattle.cms_fields.specs.Received.{spanned_in}
use Rattle.cms_fields.proofs.sink.spans_len.Given as goal

abbrev pub invariant-loop-span : goal.invariant-loop-span
invariant-loop-span l =
    (goal.iterator-loop-span).can_next l.span-iterator × (goal.iterator-loop-span).is_finite l.span-iterator
    × (min (l.n + length (join (spanned_in l.kept (left borrowed_spans l.span-iterator)))) 0xFFFF_FFFF_FFFF_FFFF
    ≡ min (length (join (spanned_in l.kept (borrowed_spans l.spans)))) 0xFFFF_FFFF_FFFF_FFFF)
    × (l.n ≤ 0xFFFF_FFFF_FFFF_FFFF)
