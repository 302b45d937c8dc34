use Rattle.std.proofs.Common.{◌≡◌, length, ◌-◌, ◌≤◌, take}
use Rattle.std.specs.Io.KnownBytes.{Appends}
use Rattle.cms_tlv.proofs.output.pour.Given as goal

abbrev pub invariant-loop-written : goal.invariant-loop-written
invariant-loop-written g l =
    (l.written ≤ length l.octets)
    × (g.O.Output.failures l.output ≡ g.O.Output.failures l.fn.output)
    × Appends (g.O.Output.contents l.fn.output) (g.O.Output.contents l.output) (take l.written l.octets)

abbrev pub decreases-loop-written : goal.decreases-loop-written
decreases-loop-written g l = length l.octets - l.written
