use Rattle.std.proofs.Common.{◌≡◌, ◌<◌, ◌^◌}
use Rattle.cms_setof.specs.internal.Sorting.{leading}
use Rattle.cms_setof.proofs.sorting.leading_octets.Given as goal

abbrev pub invariant-loop-i : goal.invariant-loop-i
invariant-loop-i l = record {
  is : l.number ≡ leading l.i l.octets;
  fits : l.number < 256 ^ l.i;
}
