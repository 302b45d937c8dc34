use Rattle.std.proofs.Common.{◌≡◌, ◌++◌}
use Rattle.cms_tlv.specs.Spans.{borrowed_spans}
use Rattle.cms_fields.specs.Indexed.{left}
use Rattle.cms_setof.proofs.appending.push_all.Given as goal

abbrev pub invariant-loop-span : goal.invariant-loop-span
invariant-loop-span l =
    (goal.iterator-loop-span).can_next l.span-iterator × (goal.iterator-loop-span).is_finite l.span-iterator
    × (l.spans.items ++ left borrowed_spans l.span-iterator ≡ l.fn.spans.items ++ borrowed_spans l.more)
