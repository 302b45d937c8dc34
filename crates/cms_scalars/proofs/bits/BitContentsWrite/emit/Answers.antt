use Rattle.std.proofs.Common.{refl, ap, sym, ◌∙◌}
use Rattle.std.proofs.lemmas.Result.{on_ok_weaker, on_err_weaker}
use Rattle.cms_scalars.specs.Bits.{bits_of_contents}
use Rattle.cms_scalars.proofs.BitStrings.{bits_emit, bits_stop, no_bits, some_bits}
use Rattle.cms_scalars.proofs.bits.BitContentsWrite.emit.Goals as goal

pub returns-in-Some-clause-ok : goal.returns-in-Some-clause-ok
returns-in-Some-clause-ok g c =
    let k = c.in-Some.ensures in
    let octets = c.in-Some.octets in
    let s = some_bits _ octets.front.now octets.last k.octets k.some.0 (ap bits_of_contents (sym c.octets.ensures) ∙ k.some.1) in
    on_ok_weaker c.emit_contents.result (bits_emit s) c.emit_contents.ensures.ok

pub returns-in-Some-clause-stops : goal.returns-in-Some-clause-stops
returns-in-Some-clause-stops g c =
    let k = c.in-Some.ensures in
    let octets = c.in-Some.octets in
    let s = some_bits _ octets.front.now octets.last k.octets k.some.0 (ap bits_of_contents (sym c.octets.ensures) ∙ k.some.1) in
    on_err_weaker c.emit_contents.result (bits_stop s g.S.Sink.taking (g.S.Sink.taking.count c.args.sink.now)) c.emit_contents.ensures.stops

pub returns-in-None-clause-ok : goal.returns-in-None-clause-ok
returns-in-None-clause-ok g c =
    let s = no_bits _ (ap bits_of_contents (sym c.octets.ensures) ∙ c.in-None.ensures.none refl) in
    on_ok_weaker c.octets-in-None.result (bits_emit s) c.octets-in-None.ensures.ok

pub returns-in-None-clause-stops : goal.returns-in-None-clause-stops
returns-in-None-clause-stops g c =
    let s = no_bits _ (ap bits_of_contents (sym c.octets.ensures) ∙ c.in-None.ensures.none refl) in
    on_err_weaker c.octets-in-None.result (bits_stop s g.S.Sink.taking (g.S.Sink.taking.count c.args.sink.now)) c.octets-in-None.ensures.stops
