use Rattle.std.proofs.lemmas.Result.{on_ok_weaker, on_err_weaker}
use Rattle.cms_fields.proofs.EmitLaws.{alike_emits, alike_stops, some_alike, some_assembled, none_emits}
use Rattle.cms_fields.proofs.contents.OptionWrite.emit.Goals as goal

pub returns-in-Some-clause-ok : goal.returns-in-Some-clause-ok
returns-in-Some-clause-ok g c = rw c.in-Some.is (on_ok_weaker c.emit.result (alike_emits some_alike some_assembled) c.emit.ensures.ok)

pub returns-in-Some-clause-stops : goal.returns-in-Some-clause-stops
returns-in-Some-clause-stops g c = rw c.in-Some.is (on_err_weaker c.emit.result (alike_stops some_alike g.S.Sink.taking (g.S.Sink.taking.count c.args.sink.now)) c.emit.ensures.stops)

pub returns-in-None-clause-ok : goal.returns-in-None-clause-ok
returns-in-None-clause-ok g c = rw c.in-None.is (none_emits c.law.ensures _ _ _ _ _)
