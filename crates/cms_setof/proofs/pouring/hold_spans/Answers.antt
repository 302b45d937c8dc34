use Rattle.std.proofs.Common.{◌≡◌, ◌+◌, ◌++◌, length, take, drop, arith, sym, ap, ◌∙◌, subst}
use Rattle.std.proofs.lemmas.List.{length-append}
use Rattle.cms_tlv.specs.Spelling.{join}
use Rattle.cms_setof.specs.internal.Pouring.{PutAfter}
use Rattle.cms_fields.specs.Received.{spanned_in}
use Rattle.cms_fields.proofs.SpannedLaws.{spanned_more, spanned_parts}
use Rattle.cms_setof.proofs.PouringLaws.{put_more}
use Rattle.cms_setof.proofs.pouring.hold_spans.Goals as goal

pub hold-requires : goal.hold-requires
hold-requires c =
    let i = c.loop-span.span-index in
    let kept = c.args.kept.now in
    let spans = c.args.spans.now in
    let more = spanned_more kept spans i (record { start = 0; end = 0 }) c.loop-span-test.true in
    let before = join (spanned_in kept (take i spans)) in
    let octets = ap length c.octets.ensures in
    let all =
    ap length (spanned_parts kept spans (i + 1)) ∙ length-append (join (spanned_in kept (take (i + 1) spans)))
    (join (spanned_in kept (drop (i + 1) spans))) in
    let next = ap length more ∙ length-append before _ in
    let counted = c.loop-span.invariant.counted in
    omega arith

pub loop-span-preserved : goal.loop-span-preserved
loop-span-preserved c =
    let kept = c.args.kept.now in
    let spans = c.args.spans.now in
    let before = join (spanned_in kept (take c.loop-span.span-index spans)) in
    let more = spanned_more kept spans c.loop-span.span-index (record { start = 0; end = 0 }) c.loop-span-test.true in
    let now : before ++ c.octets.result.now ≡ join (spanned_in kept (take (c.loop-span.span-index + 1) spans)) =
    ap (λ z. before ++ z) c.octets.ensures ∙ sym more in
    subst (λ z. PutAfter z c.args.held.now c.hold.new.held c.args.buffer.now c.hold.new.buffer) now (put_more c.loop-span.invariant c.hold.ensures)
