use Rattle.std.proofs.Common.{◌≡◌, ◌≤◌, ◌-◌, ◌++◌, ℕ, List, length, map, take, drop}
use Rattle.std.specs.List.{AllByRecursion}
use Rattle.cms_tlv.specs.Frames.{IsDerFrame}
use Rattle.cms_tlv.specs.Spelling.{join}
use Rattle.cms_setof.proofs.PassingLaws.{Passed}
use Rattle.cms_setof.specs.internal.Sorting.{span_octets}
use Rattle.cms_setof.proofs.frames.frame_spans.Given as goal

abbrev pub invariant-loop-start : goal.invariant-loop-start
invariant-loop-start l = record {
  within : l.start ≤ length l.octets;
  before : take l.start l.octets ≡ join (map (span_octets l.octets) l.spans.items);
  passed : (bs : List (List ℕ)) → AllByRecursion IsDerFrame bs → l.octets ≡ join bs → Passed bs l.octets (length l.spans.items) l.start;
  spans : (bs : List (List ℕ)) → AllByRecursion IsDerFrame bs → l.octets ≡ join bs
      → map (span_octets l.octets) l.spans.items ++ drop (length l.spans.items) bs ≡ bs;
}

abbrev pub decreases-loop-start : goal.decreases-loop-start
decreases-loop-start l = length l.octets - l.start
