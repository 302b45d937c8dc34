use Rattle.std.proofs.Common.{◌≡◌, ◌<◌, [], Bool, false, ap, arith}
use Rattle.std.proofs.lemmas.Result.{IfOk-at_ok}
use Rattle.cms_canon.specs.internal.ManySteps.{InHand, IsBeforeEnd}
use Rattle.cms_canon.specs.Streams.{reading, writing, HasEnded}
use Rattle.cms_canon.proofs.Conversions.{begun, goes_on, stops_there, finished}
use Rattle.cms_canon.proofs.many.canonicalise_many.Goals as goal

pub loop-reader-init : goal.loop-reader-init
loop-reader-init g c =
    rw c.new-batch.ensures (
      begun (g.R.Input.left c.args.reader) (g.W.Output.contents c.args.writer.now) (g.R.Input.failures c.args.reader)
          (g.W.Output.failures c.args.writer.now) c.args.limit,
      omega arith,
    )

pub returns-in-Ok-false-clause-ok : goal.returns-in-Ok-false-clause-ok
returns-in-Ok-false-clause-ok g c =
    let r = reading g.R.Input.left g.R.Input.failures c.args.reader c.convert_next-back.result.0 in
    let w = writing g.W.Output.contents g.W.Output.failures c.args.writer.now c.convert_next-back.new.writer in
    let b = c.convert_next-back.new.self in
    let a = c.convert_next-back.result.1 in
    let p =
    c.convert_next-back.ensures.proceeds (g.R.Input.left c.args.reader) (g.R.Input.failures c.args.reader)
    (g.W.Output.contents c.args.writer.now) (g.W.Output.failures c.args.writer.now) c.loop-reader.invariant.0 in
    let end =
    IfOk-at_ok (λ (more : Bool). more ≡ false → HasEnded r × (b.lengths ≡ []) × IsBeforeEnd b.count × (0 < c.args.limit)) c.in-Ok-false.is
    c.convert_next-back.ensures.end c.in-Ok-false.field-0-test in
    rw (ap (λ (b : InHand). b.count) c.batch.view_is) (finished (goes_on r w c.args.limit b a p _ c.in-Ok-false.is) end.0 end.1 end.2 end.3)

pub returns-in-Err-clause-faults : goal.returns-in-Err-clause-faults
returns-in-Err-clause-faults g c =
    let r = reading g.R.Input.left g.R.Input.failures c.args.reader c.convert_next-back.result.0 in
    let w = writing g.W.Output.contents g.W.Output.failures c.args.writer.now c.convert_next-back.new.writer in
    stops_there r w c.args.limit c.convert_next-back.new.self c.convert_next-back.result.1
    (c.convert_next-back.ensures.proceeds (g.R.Input.left c.args.reader) (g.R.Input.failures c.args.reader)
    (g.W.Output.contents c.args.writer.now) (g.W.Output.failures c.args.writer.now) c.loop-reader.invariant.0) c.in-Err.fault c.in-Err.is
