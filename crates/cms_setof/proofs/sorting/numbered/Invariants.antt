use Rattle.std.proofs.Common.{◌≡◌, take, map}
use Rattle.std.specs.List.{All}
use Rattle.cms_setof.specs.internal.Sorting.{IsNumbered}
use Rattle.cms_setof.proofs.sorting.numbered.Given as goal

abbrev pub invariant-loop-span : goal.invariant-loop-span
invariant-loop-span l = record {
  spans : map (λ x. x.1) l.numbered.items ≡ take l.span-index l.spans;
  numbers : All (IsNumbered l.buffer l.common) l.numbered.items;
}
