use Rattle.std.proofs.Common.{◌≡◌, ℕ, List, length}
use Rattle.std.specs.List.{AllByRecursion}
use Rattle.cms_tlv.specs.Frames.{IsDerFrame}
use Rattle.cms_tlv.specs.Spelling.{join}
use Rattle.cms_setof.proofs.CheckingLaws.{Checked}
use Rattle.cms_setof.proofs.ascending.frames_ascend.Given as goal

abbrev pub invariant-loop-last : goal.invariant-loop-last
invariant-loop-last l = (bs : List (List ℕ)) → AllByRecursion IsDerFrame bs → l.row ≡ join bs → Checked bs l.last l.rest

abbrev pub decreases-loop-last : goal.decreases-loop-last
decreases-loop-last l = length l.rest
