use Rattle.std.proofs.Common.{◌+◌, length, subst}
use Rattle.std.proofs.lemmas.Result.{on_ok_weaker, on_err_weaker}
use Rattle.cms_tlv.specs.Headers.{AreOctets}
use Rattle.cms_tlv.specs.Spelling.{join}
use Rattle.cms_fields.specs.Assembly.{marked, copied}
use Rattle.cms_fields.specs.Received.{spanned_in}
use Rattle.cms_fields.proofs.EmitLaws.{received_emits, received_stops}
use Rattle.cms_scalars.proofs.octets.PartsWrite.emit.Goals as goal

pub returns-clause-ok : goal.returns-clause-ok
returns-clause-ok g c =
    on_ok_weaker c.emit_spans.result (λ p. received_emits AreOctets c.requires
    (subst (λ z. g.S.Sink.taking.puts c.args.kept.now c.args.sink.now (marked copied (join (spanned_in c.args.kept.now z))) c.emit_spans.new.sink)
    c.borrowed.ensures p)) c.emit_spans.ensures.ok

pub returns-clause-stops : goal.returns-clause-stops
returns-clause-stops g c =
    on_err_weaker c.emit_spans.result (λ p. received_stops AreOctets g.S.Sink.taking (g.S.Sink.taking.count c.args.sink.now)
    (subst (λ z. g.S.Sink.taking.stops (g.S.Sink.taking.count c.args.sink.now + length (join (spanned_in c.args.kept.now z)))) c.borrowed.ensures p))
    c.emit_spans.ensures.stops
