use Rattle.std.proofs.Common.{take}
use Rattle.std.specs.List.{All}
use Rattle.cms_setof.specs.internal.Sorting.{BeginsWith, span_octets}
use Rattle.cms_setof.proofs.sorting.prefix_of_all.Given as goal

abbrev pub invariant-loop-span : goal.invariant-loop-span
invariant-loop-span l = All (λ p. BeginsWith l.prefix (span_octets l.buffer p)) (take l.span-index l.spans)
