use Rattle.std.proofs.Common.{take, drop, arith, rules}
use Rattle.std.proofs.Math.Seq.{take-add}
use Rattle.std.proofs.lemmas.List.{take_rest, length-drop}
use Rattle.cms_tlv.proofs.StreamLemmas.{appends_more}
use Rattle.cms_tlv.proofs.output.pour.Goals as goal

pub loop-written-preserved : goal.loop-written-preserved
loop-written-preserved g c =
    let octets = c.args.octets.now in
    let w = c.loop-written.written in
    let bound = rw (take_rest octets w, length-drop w octets) at c.in-Ok.ensures.bound in
    let given = rw (take_rest octets w) at c.in-Ok.ensures.octets in (
      omega arith,
      search rules,
      rw (take-add w c.in-Ok.n octets) (appends_more (g.O.Output.contents c.args.output.now) (g.O.Output.contents c.loop-written.output)
          (g.O.Output.contents c.give.new.self) (take w octets) (take c.in-Ok.n (drop w octets)) c.loop-written.invariant.2 given),
    )
