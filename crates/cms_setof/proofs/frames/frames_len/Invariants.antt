use Rattle.std.proofs.Common.{◌≡◌, ◌≤◌, ℕ, List, length}
use Rattle.std.specs.List.{AllByRecursion}
use Rattle.cms_tlv.specs.Frames.{IsDerFrame}
use Rattle.cms_tlv.specs.Spelling.{join}
use Rattle.cms_setof.proofs.PassingLaws.{Passed}
use Rattle.cms_setof.proofs.frames.frames_len.Given as goal

abbrev pub invariant-loop : goal.invariant-loop
invariant-loop l = record {
  within : l.end ≤ length l.octets;
  passed : (bs : List (List ℕ)) → AllByRecursion IsDerFrame bs → l.octets ≡ join bs → Passed bs l.octets l.counter l.end;
}
