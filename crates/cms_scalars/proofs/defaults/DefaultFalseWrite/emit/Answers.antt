use Rattle.std.proofs.lemmas.Result.{on_ok_weaker, on_err_weaker}
use Rattle.cms_fields.proofs.EmitLaws.{alike_emits, alike_stops}
use Rattle.cms_scalars.specs.Grammar.{boolean_type}
use Rattle.cms_scalars.proofs.Absent.{true_alike, true_assembled, false_emits}
use Rattle.cms_scalars.proofs.defaults.DefaultFalseWrite.emit.Goals as goal

pub returns-then-self-clause-ok : goal.returns-then-self-clause-ok
returns-then-self-clause-ok g c = on_ok_weaker c.emit_true.result (alike_emits (true_alike c.args.self.now.0 c.if-self.true)
    (true_assembled c.args.self.now.0 c.if-self.true)) c.emit_true.ensures.ok

pub returns-then-self-clause-stops : goal.returns-then-self-clause-stops
returns-then-self-clause-stops g c =
    on_err_weaker c.emit_true.result (alike_stops (true_alike c.args.self.now.0 c.if-self.true) g.S.Sink.taking
    (g.S.Sink.taking.count c.args.sink.now)) c.emit_true.ensures.stops

pub returns-else-self-clause-ok : goal.returns-else-self-clause-ok
returns-else-self-clause-ok g c = false_emits boolean_type.assembled c.law.ensures c.args.self.now.0 c.if-self.false _ _
