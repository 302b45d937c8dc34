use Rattle.std.proofs.lemmas.Result.{on_ok_weaker, on_err_weaker}
use Rattle.cms_tlv.specs.Spelling.{der}
use Rattle.cms_fields.proofs.AlreadyDerLaws.{strict_emits, strict_stops}
use Rattle.cms_fields.proofs.strict.AlreadyDerWrite.emit.Goals as goal

pub returns-clause-ok : goal.returns-clause-ok
returns-clause-ok g c =
    let by_der = (c.law.ensures.field c.requires.0).by_der in
    on_ok_weaker c.span.result (strict_emits (g.T.Write.grammar.spelled der) by_der.canonical by_der.equivalence _ c.requires.1) c.span.ensures.ok

pub returns-clause-stops : goal.returns-clause-stops
returns-clause-stops g c =
    let by_der = (c.law.ensures.field c.requires.0).by_der in
    on_err_weaker c.span.result (strict_stops (g.T.Write.grammar.spelled der) by_der.canonical by_der.equivalence _ c.requires.1
    g.S.Sink.taking (g.S.Sink.taking.count c.args.sink.now))
    c.span.ensures.stops
