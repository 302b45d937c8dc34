use Rattle.std.proofs.Common.{◌≡◌, List, map}
use Rattle.std.specs.List.{AllByRecursion}
use Rattle.cms_tlv.specs.Frames.{IsDerFrame}
use Rattle.cms_tlv.specs.Spelling.{join}
use Rattle.cms_fields.specs.Assembly.{Marked, unmarked, join_marked}
use Rattle.cms_setof.specs.Pieces.{marked_pieces}
use Rattle.cms_setof.proofs.PieceLaws.{Cut}
use Rattle.cms_setof.proofs.members.members_of.Given as goal

abbrev pub invariant-loop-span : goal.invariant-loop-span
invariant-loop-span l =
    (frames : List (List Marked)) → AllByRecursion IsDerFrame (map unmarked frames) → marked_pieces l.kept l.fn.pieces.items ≡ join_marked frames
    → l.octets ≡ join (map unmarked frames) → Cut l.kept l.octets frames l.span-index l.left.items l.members.items
