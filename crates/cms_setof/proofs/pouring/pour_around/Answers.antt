use Rattle.std.proofs.Common.{◌++◌, append_assoc, subst}
use Rattle.std.proofs.lemmas.Result.{IfErr-weaker, err_from_is_err_and}
use Rattle.cms_tlv.specs.Pouring.{StopsAfter}
use Rattle.cms_tlv.specs.Spelling.{join}
use Rattle.cms_fields.specs.Received.{spanned_in}
use Rattle.cms_setof.proofs.PouringLaws.{stops_first, stops_held, stops_later, stops_within, sends_more}
use Rattle.cms_setof.proofs.pouring.pour_around.Goals as goal

pub returns-in_err-send-clause-err : goal.returns-in_err-send-clause-err
returns-in_err-send-clause-err g c =
    let before = c.args.before.now in
    let behind = join (spanned_in c.args.kept.now c.args.spans.now) ++ c.args.after.now in
    let old = g.O.Output.contents c.args.output.now in
    let new = g.O.Output.contents c.send.new.output in
    let fault = c.in_err-send.field-0.0 in
    let p = err_from_is_err_and c.from_residual.result c.from_residual.ensures.1 in
    rw (p.1, p.2) (stops_first (before ++ behind) old new fault (stops_within 0 before behind old new fault c.in_err-send.ensures.err))

pub returns-in_err-send_spans-clause-err : goal.returns-in_err-send_spans-clause-err
returns-in_err-send_spans-clause-err g c =
    let before = c.args.before.now in
    let shown = join (spanned_in c.args.kept.now c.args.spans.now) in
    let after = c.args.after.now in
    let old = g.O.Output.contents c.args.output.now in
    let new = g.O.Output.contents c.send_spans.new.output in
    let fault = c.in_err-send_spans.field-0.0 in
    let amid = stops_later shown new fault c.in_ok-send.ensures.ok c.in_err-send_spans.ensures.err in
    let p = err_from_is_err_and c.from_residual-in_err-send_spans.result c.from_residual-in_err-send_spans.ensures.1 in
    rw (p.1, p.2) (subst (λ z. StopsAfter z old new fault) (append_assoc before shown after)
    (stops_first ((before ++ shown) ++ after) old new fault (stops_within 0 (before ++ shown) after old new fault amid)))

pub returns-in_err-send-2-clause-err : goal.returns-in_err-send-2-clause-err
returns-in_err-send-2-clause-err g c =
    let before = c.args.before.now in
    let shown = join (spanned_in c.args.kept.now c.args.spans.now) in
    let after = c.args.after.now in
    let old = g.O.Output.contents c.args.output.now in
    let new = g.O.Output.contents c.send-2.new.output in
    let fault = c.in_err-send-2.field-0.0 in
    let sends = sends_more c.in_ok-send.ensures.ok c.in_ok-send_spans.ensures.ok in
    let amid = stops_later after new fault sends c.in_err-send-2.ensures.err in
    let p = err_from_is_err_and c.from_residual-in_err-send-2.result c.from_residual-in_err-send-2.ensures.1 in
    rw (p.1, p.2) (subst (λ z. StopsAfter z old new fault) (append_assoc before shown after) (stops_first ((before ++ shown) ++ after) old new fault amid))

pub returns-clause-err : goal.returns-clause-err
returns-clause-err g c =
    let before = c.args.before.now in
    let shown = join (spanned_in c.args.kept.now c.args.spans.now) in
    let after = c.args.after.now in
    let old = g.O.Output.contents c.args.output.now in
    let new = g.O.Output.contents c.flush.new.output in
    let sends = sends_more c.in_ok-send.ensures.ok (sends_more c.in_ok-send_spans.ensures.ok c.in_ok-send-2.ensures.ok) in
    IfErr-weaker c.flush.result _ _ (λ fault h. stops_first (before ++ (shown ++ after)) old new fault (stops_held new fault sends h)) c.flush.ensures.err
