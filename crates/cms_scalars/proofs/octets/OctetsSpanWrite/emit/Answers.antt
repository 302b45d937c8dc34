use Rattle.std.proofs.lemmas.Result.{on_ok_weaker, on_err_weaker}
use Rattle.cms_fields.proofs.EmitLaws.{alike_emits, alike_stops}
use Rattle.cms_scalars.proofs.Strings.{string_alike}
use Rattle.cms_scalars.proofs.octets.OctetsSpanWrite.emit.Goals as goal

pub returns-clause-ok : goal.returns-clause-ok
returns-clause-ok g c = on_ok_weaker c.emit.result (alike_emits (string_alike g.row.ID) (λ m h. h)) c.emit.ensures.ok

pub returns-clause-stops : goal.returns-clause-stops
returns-clause-stops g c =
    on_err_weaker c.emit.result (alike_stops (string_alike g.row.ID) g.S.Sink.taking (g.S.Sink.taking.count c.args.sink.now)) c.emit.ensures.stops
