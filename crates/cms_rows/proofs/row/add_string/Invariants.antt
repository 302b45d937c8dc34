use Rattle.std.proofs.Common.{◌≡◌, ◌++◌, List}
use Rattle.cms_tlv.specs.declared.span.Span.{Span}
use Rattle.cms_tlv.specs.Spans.{borrowed_spans}
use Rattle.cms_fields.specs.Indexed.{left}
use Rattle.cms_rows.proofs.RowLaws.{Segments}
use Rattle.cms_rows.proofs.row.add_string.Given as goal

abbrev pub invariant-loop-span : goal.invariant-loop-span
invariant-loop-span l =
    (goal.iterator-loop-span).can_next l.span-iterator × (goal.iterator-loop-span).is_finite l.span-iterator
    × ((done : List Span) × (done ++ left borrowed_spans l.span-iterator ≡ borrowed_spans l.fn.spans)
    × Segments l.kept l.kind l.level done l.fn.rows.items l.rows.items)
