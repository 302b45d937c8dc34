use Rattle.std.proofs.Common.{◌≡◌, ◌-◌, length, arith}
use Rattle.std.proofs.lemmas.Result.{on_ok_weaker, on_err_weaker}
use Rattle.cms_fields.proofs.EmitLaws.{element_emits, element_stops, element_stops_inside}
use Rattle.cms_fields.proofs.WriteLaws.{on_err_each}
use Rattle.cms_fields.proofs.write.emit_element.Goals as goal

pub returns-in_err-emit-clause-stops : goal.returns-in_err-emit-clause-stops
returns-in_err-emit-clause-stops g c =
    on_err_each c.from_residual.result (element_stops_inside c.args.ident c.law.ensures (g.S.Sink.taking.count c.args.sink.now) c.in_err-emit.ensures.stops)

pub returns-clause-ok : goal.returns-clause-ok
returns-clause-ok g c =
    let a = c.in_ok-emit.ensures.ok in
    let e = c.law.ensures.counted c.args.kept.now a.octets c.args.sink.now c.emit.new.sink a.put in
    let n : c.count.result - c.count-before.result ≡ length a.octets = omega (arith, e, c.count.ensures, c.count-before.ensures) in
    on_ok_weaker c.emit_header.result (element_emits c.args.ident c.law.ensures a _ n) c.emit_header.ensures.ok

pub returns-clause-stops : goal.returns-clause-stops
returns-clause-stops g c =
    let a = c.in_ok-emit.ensures.ok in
    let e = c.law.ensures.counted c.args.kept.now a.octets c.args.sink.now c.emit.new.sink a.put in
    let n : c.count.result - c.count-before.result ≡ length a.octets = omega (arith, e, c.count.ensures, c.count-before.ensures) in
    on_err_weaker c.emit_header.result (element_stops c.args.ident c.law.ensures a _ n) c.emit_header.ensures.stops
