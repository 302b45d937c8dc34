use Rattle.std.proofs.Common.{◌≡◌, take, map, length}
use Rattle.cms_setof.proofs.sorting.put_in_order.Given as goal

abbrev pub invariant-loop-i : goal.invariant-loop-i
invariant-loop-i l = record {
  same : length l.spans ≡ length l.numbered;
  placed : take l.i l.spans ≡ map (λ x. x.1) (take l.i l.numbered);
}
