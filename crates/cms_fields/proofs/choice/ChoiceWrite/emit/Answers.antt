use Rattle.std.proofs.lemmas.Result.{on_ok_weaker, on_err_weaker}
use Rattle.cms_tlv.specs.Spelling.{der}
use Rattle.cms_fields.proofs.ChoiceLaws.{first_alike, second_alike, first_assembled, second_assembled}
use Rattle.cms_fields.proofs.EmitLaws.{alike_emits, alike_stops}
use Rattle.cms_fields.proofs.choice.ChoiceWrite.emit.Goals as goal

pub returns-in-First-clause-ok : goal.returns-in-First-clause-ok
returns-in-First-clause-ok g c =
    rw c.in-First.is (on_ok_weaker c.emit.result (alike_emits (first_alike (g.A.Write.grammar.spelled der) (g.B.Write.grammar.spelled der)
    g.A.Write.grammar.same g.B.Write.grammar.same _) (λ m. first_assembled)) c.emit.ensures.ok)

pub returns-in-First-clause-stops : goal.returns-in-First-clause-stops
returns-in-First-clause-stops g c =
    rw c.in-First.is (on_err_weaker c.emit.result (alike_stops (first_alike (g.A.Write.grammar.spelled der)
    (g.B.Write.grammar.spelled der) g.A.Write.grammar.same g.B.Write.grammar.same _)
    g.S.Sink.taking (g.S.Sink.taking.count c.args.sink.now)) c.emit.ensures.stops)

pub returns-in-Second-clause-ok : goal.returns-in-Second-clause-ok
returns-in-Second-clause-ok g c =
    rw c.in-Second.is (on_ok_weaker c.emit-in-Second.result (alike_emits (second_alike (g.A.Write.grammar.spelled der)
    (g.B.Write.grammar.spelled der) g.A.Write.grammar.same g.B.Write.grammar.same _) (λ m. second_assembled)) c.emit-in-Second.ensures.ok)

pub returns-in-Second-clause-stops : goal.returns-in-Second-clause-stops
returns-in-Second-clause-stops g c =
    rw c.in-Second.is (on_err_weaker c.emit-in-Second.result (alike_stops (second_alike (g.A.Write.grammar.spelled der)
    (g.B.Write.grammar.spelled der) g.A.Write.grammar.same g.B.Write.grammar.same _)
    g.S.Sink.taking (g.S.Sink.taking.count c.args.sink.now)) c.emit-in-Second.ensures.stops)
