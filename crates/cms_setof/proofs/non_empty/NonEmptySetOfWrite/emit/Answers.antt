use Rattle.std.proofs.Common.{[], ◌≢◌}
use Rattle.std.proofs.lemmas.Result.{on_ok_weaker, on_err_weaker}
use Rattle.cms_fields.proofs.EmitLaws.{alike_emits, alike_stops}
use Rattle.cms_fields.proofs.ReaderLaws.{where_alike}
use Rattle.cms_setof.proofs.NonEmptyLaws.{keeps_member}
use Rattle.cms_setof.proofs.non_empty.NonEmptySetOfWrite.emit.Goals as goal

pub returns-clause-ok : goal.returns-clause-ok
returns-clause-ok g c =
    on_ok_weaker c.emit.result (alike_emits (where_alike (λ vs. vs ≢ []) _
    (keeps_member (c.law.ensures.field c.requires.0.0).by_der.equivalence _ c.requires.1)) (λ m h. h)) c.emit.ensures.ok

pub returns-clause-stops : goal.returns-clause-stops
returns-clause-stops g c =
    on_err_weaker c.emit.result (alike_stops (where_alike (λ vs. vs ≢ []) _
    (keeps_member (c.law.ensures.field c.requires.0.0).by_der.equivalence _ c.requires.1)) g.S.Sink.taking
    (g.S.Sink.taking.count c.args.sink.now)) c.emit.ensures.stops
