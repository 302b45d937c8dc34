use Rattle.std.proofs.Common.{◌≡◌, map, take}
use Rattle.cms_tlv.specs.Spans.{span_of}
use Rattle.cms_tlv.proofs.spans.widened.Given as goal

abbrev pub invariant-loop-span : goal.invariant-loop-span
invariant-loop-span l = l.far.items ≡ map span_of (take l.span-index l.near)
