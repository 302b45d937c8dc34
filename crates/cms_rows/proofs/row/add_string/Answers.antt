use Rattle.std.proofs.Common.{◌≡◌, ◌≢◌, ◌∷◌, ◌++◌, [], true, false, sym, subst, ap, ◌∙◌, append_assoc, append-nil}
use Rattle.cms_tlv.specs.Spans.{borrowed_spans}
use Rattle.cms_fields.specs.Indexed.{left}
use Rattle.cms_rows.proofs.RowLaws.{Segments, segments_none, segments_more, adds_segments}
use Rattle.cms_rows.proofs.row.add_string.Goals as goal

pub loop-span-init : goal.loop-span-init
loop-span-init c = (
  tt,
  tt,
  (
    [],
    ap (left borrowed_spans) c.into_iter-span-iterator.ensures.into_iter_gives ∙ c.new-span-items.ensures,
    segments_none c.args.kept.now c.args.kind c.args.level c.args.rows.now.items,
  ),
)

pub loop-span-preserved : goal.loop-span-preserved
loop-span-preserved c =
    let done = c.loop-span.invariant.2.0 in
    let span = c.in-Some.span in (
      tt,
      tt,
      (
        done ++ span ∷ [],
        append_assoc done (span ∷ []) (left borrowed_spans c.next.new.self) ∙ ap (λ s. done ++ s) (sym c.in-Some.ensures.steps)
            ∙ c.loop-span.invariant.2.1,
        segments_more c.args.kept.now c.args.kind c.args.level done span c.new.result c.args.rows.now.items c.loop-span.rows.items
            c.push.new.self.items c.loop-span.invariant.2.2 c.new.ensures.is c.new.ensures.names c.in_ok-push.ensures.items,
      ),
    )

pub returns : goal.returns
returns c =
    let k = c.args.kept.now in
    let done = c.loop-span.invariant.2.0 in
    let all = sym (append-nil done) ∙ ap (λ s. done ++ s) (sym c.in-None.ensures.steps.0) ∙ c.loop-span.invariant.2.1 in
    let some : borrowed_spans c.args.spans ≢ [] =
    λ none. (let e : false ≡ true = sym c.if-is_empty.false ∙ c.is_empty.ensures.1 none in cc) in
    adds_segments c.requires some (subst (λ s. Segments k c.args.kind c.args.level s c.args.rows.now.items c.loop-span.rows.items) all
    c.loop-span.invariant.2.2)
