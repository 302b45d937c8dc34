use Rattle.std.proofs.Common.{◌≡◌, ◌+◌, ◌++◌, length, take, drop, arith, rules, sym, ap, ◌∙◌, subst, append_assoc}
use Rattle.std.proofs.lemmas.List.{length-append}
use Rattle.cms_tlv.specs.Spelling.{join}
use Rattle.cms_setof.specs.internal.Pouring.{Sends, StopsAmid}
use Rattle.cms_fields.specs.Received.{spanned_in}
use Rattle.cms_fields.proofs.SpannedLaws.{spanned_more, spanned_parts}
use Rattle.cms_setof.proofs.PouringLaws.{stops_later, stops_within, sends_more, sends_count}
use Rattle.cms_setof.proofs.pouring.send_spans.Goals as goal

pub send-requires-clause-count : goal.send-requires-clause-count
send-requires-clause-count g c =
    let i = c.loop-span.span-index in
    let kept = c.args.kept.now in
    let spans = c.args.spans.now in
    let more = spanned_more kept spans i (record { start = 0; end = 0 }) c.loop-span-test.true in
    let parts = spanned_parts kept spans (i + 1) in
    let before = join (spanned_in kept (take i spans)) in
    let count = sends_count c.loop-span.invariant.sends c.requires.room c.loop-span.invariant.room in
    let octets = ap length c.octets.ensures in
    let all = ap length parts ∙ length-append (join (spanned_in kept (take (i + 1) spans))) (join (spanned_in kept (drop (i + 1) spans))) in
    let next = ap length more ∙ length-append before _ in
    omega arith

pub loop-span-preserved : goal.loop-span-preserved
loop-span-preserved g c =
    let i = c.loop-span.span-index in
    let kept = c.args.kept.now in
    let spans = c.args.spans.now in
    let before = join (spanned_in kept (take i spans)) in
    let more = spanned_more kept spans i (record { start = 0; end = 0 }) c.loop-span-test.true in
    let now : before ++ c.octets.result.now ≡ join (spanned_in kept (take (i + 1) spans)) = ap (λ z. before ++ z) c.octets.ensures ∙ sym more in
    record {
      room = search rules;
      same = search rules;
      sends =
          subst (λ z. Sends z c.args.progress.now c.send.new.progress c.args.buffer.now c.send.new.buffer
          (g.O.Output.contents c.args.output.now) (g.O.Output.contents c.send.new.output)) now
          (sends_more c.loop-span.invariant.sends c.in_ok-send.ensures.ok);
    }

pub returns-in_err-send-clause-err : goal.returns-in_err-send-clause-err
returns-in_err-send-clause-err g c =
    let i = c.loop-span.span-index in
    let kept = c.args.kept.now in
    let spans = c.args.spans.now in
    let p = c.args.progress.now in
    let held = take p.held c.args.buffer.now in
    let before = join (spanned_in kept (take i spans)) in
    let rest = join (spanned_in kept (drop (i + 1) spans)) in
    let octets = c.octets.result.now in
    let fault = c.in_err-send.field-0.0 in
    let old = g.O.Output.contents c.args.output.now in
    let new = g.O.Output.contents c.send.new.output in
    let more = spanned_more kept spans i (record { start = 0; end = 0 }) c.loop-span-test.true in
    let whole : (before ++ octets) ++ rest ≡ join (spanned_in kept spans) =
    ap (λ z. z ++ rest) (ap (λ z. before ++ z) c.octets.ensures ∙ sym more) ∙ sym (spanned_parts kept spans (i + 1)) in
    let amid_more = stops_later octets new fault c.loop-span.invariant.sends c.in_err-send.ensures.err in
    let amid : StopsAmid p.sent (held ++ join (spanned_in kept spans)) old new fault =
    subst (λ z. StopsAmid p.sent z old new fault) (append_assoc held (before ++ octets) rest ∙ ap (λ z. held ++ z) whole)
    (stops_within p.sent (held ++ (before ++ octets)) rest old new fault amid_more) in
    search rules
