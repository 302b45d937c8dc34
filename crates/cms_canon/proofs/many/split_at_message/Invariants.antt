use Rattle.std.proofs.Common.{◌≡◌, ◌+◌, drop}
use Rattle.cms_canon.specs.internal.ManySteps.{split_at_message}
use Rattle.cms_canon.proofs.many.split_at_message.Given as goal

abbrev pub invariant-loop-length : goal.invariant-loop-length
invariant-loop-length l = record {
  count : l.whole ≡ l.length-index;
  rest :
      split_at_message l.lengths l.octets ≡ (
        (split_at_message (drop l.length-index l.lengths) l.left).0 + l.whole,
        (split_at_message (drop l.length-index l.lengths) l.left).1,
      );
}
