use Rattle.std.proofs.Common.{◌-◌, ◌^◌, ◌<◌, length}
use Rattle.cms_canon.specs.internal.ManySteps.{Progress}
use Rattle.cms_canon.specs.Streams.{between, since}
use Rattle.cms_canon.proofs.many.canonicalise_many.Given as goal

abbrev pub invariant-loop-reader : goal.invariant-loop-reader
invariant-loop-reader g l =
    Progress (between (g.R.Input.left l.fn.reader) (g.R.Input.failures l.fn.reader) (g.R.Input.left l.reader)
    (g.R.Input.failures l.reader)) (since (g.W.Output.contents l.fn.writer) (g.W.Output.failures l.fn.writer)
    (g.W.Output.contents l.writer) (g.W.Output.failures l.writer)) l.limit l.batch × (length l.batch.octets < 0x1_0000)

abbrev pub decreases-loop-reader : goal.decreases-loop-reader
decreases-loop-reader g l = 2 ^ 63 - l.batch.count.read
