use Rattle.std.proofs.Common.{◌≡◌, ◌≤◌, ◌-◌, ℕ, List, length}
use Rattle.std.specs.List.{AllByRecursion}
use Rattle.cms_tlv.specs.Frames.{IsDerFrame}
use Rattle.cms_tlv.specs.Spelling.{join}
use Rattle.cms_setof.proofs.PassingLaws.{Passed}
use Rattle.cms_setof.proofs.frames.frame_count.Given as goal

abbrev pub invariant-loop-end : goal.invariant-loop-end
invariant-loop-end l = record {
  within : l.end ≤ length l.octets;
  fewer : l.count ≤ l.end;
  counted : (bs : List (List ℕ)) → AllByRecursion IsDerFrame bs → l.octets ≡ join bs → l.count ≤ length bs;
  passed : (bs : List (List ℕ)) → AllByRecursion IsDerFrame bs → l.octets ≡ join bs → Passed bs l.octets l.count l.end;
}

abbrev pub decreases-loop-end : goal.decreases-loop-end
decreases-loop-end l = length l.octets - l.end
