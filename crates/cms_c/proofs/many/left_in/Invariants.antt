use Rattle.std.proofs.Common.{◌≡◌, ◌+◌, length}
use Rattle.cms_tlv.specs.Slices.{rest_of}
use Rattle.cms_c.proofs.many.left_in.Given as goal

abbrev pub invariant-loop-n : goal.invariant-loop-n
invariant-loop-n l = (l.left + length (rest_of l.reader) ≡ length (rest_of l.fn.reader)) × (length l.piece ≡ 4096)

abbrev pub decreases-loop-n : goal.decreases-loop-n
decreases-loop-n l = length (rest_of l.reader)
