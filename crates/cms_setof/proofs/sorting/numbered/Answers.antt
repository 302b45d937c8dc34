use Rattle.std.proofs.Common.{◌≡◌, ◌≤◌, length, get_or, map, drop, subst, sym, ap, ◌∙◌}
use Rattle.std.proofs.lemmas.List.{take_all}
use Rattle.std.specs.List.{All}
use Rattle.std.proofs.lemmas.List.Elements.{All-push}
use Rattle.cms_tlv.specs.declared.span.Span.{Span}
use Rattle.cms_setof.specs.internal.Sorting.{leading, span_octets, IsNumbered}
use Rattle.cms_setof.proofs.KeyLaws.{map_push, all_numbered, prefix_within}
use Rattle.cms_setof.proofs.FirstFrameLaws.{from_on}
use Rattle.cms_setof.proofs.sorting.numbered.Goals as goal

pub slice_bounds-behind-count : goal.slice_bounds-behind-count
slice_bounds-behind-count c =
    subst (λ z. length c.prefix_of_all-common.result.now ≤ length z) (sym c.octets.ensures)
    (prefix_within _ _ (c.prefix_of_all-common.ensures c.loop-span.span-index _ c.loop-span-test.true))

pub slice_bounds-behind-start : goal.slice_bounds-behind-start
slice_bounds-behind-start c =
    subst (λ z. length c.prefix_of_all-common.result.now ≤ length z) (sym c.octets.ensures)
    (prefix_within _ _ (c.prefix_of_all-common.ensures c.loop-span.span-index _ c.loop-span-test.true))

pub loop-span-preserved : goal.loop-span-preserved
loop-span-preserved c =
    let i = c.loop-span.span-index in
    let xs = c.loop-span.numbered.items in
    let n = c.leading_octets.result in
    let d : Span = record { start = 0; end = 0 } in
    let e = c.in_ok-push.ensures.items in
    let prefix = c.prefix_of_all-common.result.now in
    let octets = c.octets.result.now in
    let m : n ≡ leading 8 (drop (length prefix) (span_octets c.args.buffer.now (get_or c.args.spans.now i d))) = c.leading_octets.ensures
    ∙ ap (λ z. leading 8 z) (from_on octets (length prefix) ∙ ap (λ z. drop (length prefix) z) c.octets.ensures) in
    record {
      spans = ap (λ z. map (λ x. x.1) z) e ∙ map_push xs c.args.spans.now i n d c.loop-span-test.true c.loop-span.invariant.spans;
      numbers =
          subst (All (IsNumbered c.args.buffer.now (length prefix))) (sym e)
          (All-push (IsNumbered c.args.buffer.now (length prefix)) xs (n, get_or c.args.spans.now i d) c.loop-span.invariant.numbers m);
    }

pub returns : goal.returns
returns c =
    let e : map (λ x. x.1) c.loop-span.numbered.items ≡ c.args.spans.now = c.loop-span.invariant.spans
    ∙ take_all c.loop-span.span-index c.args.spans.now c.loop-span-test.false in (
      e,
      all_numbered c.args.buffer.now c.prefix_of_all-common.result.now c.loop-span.numbered.items c.args.spans.now e
          c.prefix_of_all-common.ensures c.loop-span.invariant.numbers,
    )
