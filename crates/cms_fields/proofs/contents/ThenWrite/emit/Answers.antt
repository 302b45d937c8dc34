use Rattle.std.proofs.lemmas.Result.{on_ok_weaker, on_err_weaker}
use Rattle.cms_fields.proofs.EmitLaws.{then_emits, then_stops, then_stops_later}
use Rattle.cms_fields.proofs.WriteLaws.{on_err_each}
use Rattle.cms_fields.proofs.contents.ThenWrite.emit.Goals as goal

pub returns-in_err-emit-clause-stops : goal.returns-in_err-emit-clause-stops
returns-in_err-emit-clause-stops g c =
    on_err_each c.from_residual.result (then_stops_later c.law.ensures _ _ _ (g.S.Sink.taking.count c.args.sink.now) c.in_err-emit.ensures.stops)

pub returns-clause-ok : goal.returns-clause-ok
returns-clause-ok g c = on_ok_weaker c.emit-2.result (then_emits c.law.ensures c.in_ok-emit.ensures.ok) c.emit-2.ensures.ok

pub returns-clause-stops : goal.returns-clause-stops
returns-clause-stops g c = on_err_weaker c.emit-2.result (then_stops c.law.ensures c.in_ok-emit.ensures.ok) c.emit-2.ensures.stops
