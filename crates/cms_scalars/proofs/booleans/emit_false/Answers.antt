use Rattle.std.proofs.Common.{refl}
use Rattle.std.proofs.lemmas.Result.{on_ok_weaker, on_err_weaker}
use Rattle.cms_fields.proofs.EmitLaws.{canonical_emits, canonical_stops}
use Rattle.cms_scalars.proofs.Truth.{boolean_by_der, false_by_der}
use Rattle.cms_scalars.proofs.booleans.emit_false.Goals as goal

pub returns-clause-ok : goal.returns-clause-ok
returns-clause-ok g c = on_ok_weaker c.octets.result (canonical_emits boolean_by_der.canonical boolean_by_der.equivalence false_by_der (_, refl, false_by_der)) c.octets.ensures.ok

pub returns-clause-stops : goal.returns-clause-stops
returns-clause-stops g c =
    on_err_weaker c.octets.result (canonical_stops boolean_by_der.canonical boolean_by_der.equivalence false_by_der g.S.Sink.taking
    (g.S.Sink.taking.count c.args.sink.now)) c.octets.ensures.stops
