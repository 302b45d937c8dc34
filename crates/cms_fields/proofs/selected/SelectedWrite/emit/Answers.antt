use Rattle.std.proofs.lemmas.Result.{on_ok_weaker, on_err_weaker}
use Rattle.cms_fields.proofs.EmitLaws.{alike_emits, alike_stops, then_emits, then_stops, then_stops_later}
use Rattle.cms_fields.proofs.SelectedLaws.{shown_is_selected, by_value_alike}
use Rattle.cms_fields.proofs.WriteLaws.{on_err_each}
use Rattle.cms_fields.proofs.selected.SelectedWrite.emit.Goals as goal

pub returns-in_err-emit-clause-stops : goal.returns-in_err-emit-clause-stops
returns-in_err-emit-clause-stops g c =
    let due = shown_is_selected (g.S.Selector.test _) _ _ c.args.self.now.1 c.requires.1 in
    on_err_each c.from_residual.result (alike_stops (by_value_alike g.S.Selector.test _ _ _ _ c.args.self.now.1 due)
    g.O.Sink.taking (g.O.Sink.taking.count c.args.sink.now)
    (then_stops_later c.law.ensures _ _ _ (g.O.Sink.taking.count c.args.sink.now) c.in_err-emit.ensures.stops))

pub returns-clause-ok : goal.returns-clause-ok
returns-clause-ok g c =
    let due = shown_is_selected (g.S.Selector.test _) _ _ c.args.self.now.1 c.requires.1 in
    on_ok_weaker c.emit-2.result (λ q. alike_emits (by_value_alike g.S.Selector.test _ _ _ _ c.args.self.now.1 due) (λ m h. h)
    (then_emits c.law.ensures c.in_ok-emit.ensures.ok q)) c.emit-2.ensures.ok

pub returns-clause-stops : goal.returns-clause-stops
returns-clause-stops g c =
    let due = shown_is_selected (g.S.Selector.test _) _ _ c.args.self.now.1 c.requires.1 in
    on_err_weaker c.emit-2.result (λ q. alike_stops (by_value_alike g.S.Selector.test _ _ _ _ c.args.self.now.1 due)
    g.O.Sink.taking (g.O.Sink.taking.count c.args.sink.now)
    (then_stops c.law.ensures c.in_ok-emit.ensures.ok q)) c.emit-2.ensures.stops
