use Rattle.std.proofs.Common.{◌≡◌, ◌+◌, length, map, get_or, refl, sym, ◌∙◌, ap, subst}
use Rattle.cms_tlv.specs.declared.span.Span.{Span}
use Rattle.cms_fields.specs.Assembly.{unmarked}
use Rattle.cms_setof.specs.declared.members.Member.{Member}
use Rattle.cms_setof.specs.internal.Sorting.{span_octets}
use Rattle.cms_setof.specs.internal.Tracing.{TakesOff}
use Rattle.cms_setof.proofs.PieceLaws.{Cut, cut_more}
use Rattle.cms_setof.proofs.members.members_of.Goals as goal

pub loop-span-preserved : goal.loop-span-preserved
loop-span-preserved c frames d e f =
    let k = c.args.kept.now in
    let octets = c.args.octets.now in
    let spans = c.deref-span-items.result.now in
    let i = c.loop-span.span-index in
    let none : Span = record { start = 0; end = 0 } in
    let m : Member = record { span = get_or spans i none; pieces = c.in_ok-pieces.pieces } in
    let same : map (span_octets octets) spans ≡ map unmarked frames =
    ap (map (span_octets octets)) c.deref-span-items.ensures.value ∙ c.in_ok-spans.ensures.frames (map unmarked frames) d f in
    let taken = subst (λ n. TakesOff k n c.loop-span.left.items c.in_ok-pieces.pieces.items c.take_first.new.pieces.items)
    (ap length c.octets.ensures) c.in_ok-pieces.ensures in
    let more = cut_more k octets frames spans same i none c.loop-span-test.true (c.loop-span.invariant frames d e f) m refl taken in
    subst (Cut k octets frames (i + 1) c.take_first.new.pieces.items) (sym c.in_ok-push.ensures.items) more
