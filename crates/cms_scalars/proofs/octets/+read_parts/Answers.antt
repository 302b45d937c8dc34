use Rattle.std.proofs.Common.{◌≡◌, ◌<◌, ◌∷◌, ◌++◌, [], length, false, sym, ap, ◌∙◌, arith}
use Rattle.std.proofs.lemmas.Result.{err_from_is_err_and, on_ok_weaker}
use Rattle.cms_tlv.proofs.SourceLaws.{grows, passes_behind}
use Rattle.cms_tlv.specs.State.{State}
use Rattle.cms_fields.proofs.ReaderLaws.{same_place, some_seen, none_seen}
use Rattle.std.proofs.lemmas.List.{append-nil}
use Rattle.cms_tlv.proofs.Loops.{none_read, element_fails, more_moved, row_gave, row_failed, saw, smaller}
use Rattle.cms_scalars.specs.Borrowed.{added_spans}
use Rattle.cms_scalars.proofs.StringGives.{view, end_gives, told, peek_fails, part_gives, header_fails, contents_fail, too_deep, segments_fail, of_added, adds_behind, added_nothing, adds_all, more_added}
use Rattle.cms_tlv.specs.Primitives.{contents_from}
use Rattle.cms_scalars.proofs.SegmentRuns.{alone, these_read, sees_none, adds_alone, taken_on}
use Rattle.cms_scalars.proofs.octets.+read_parts.Goals as goal

pub returns-in_err-peek-clause-ok : goal.returns-in_err-peek-clause-ok
returns-in_err-peek-clause-ok g t c = added_nothing _ (err_from_is_err_and c.from_residual.result c.from_residual.ensures.1).1

pub returns-in_err-peek-clause-refines : goal.returns-in_err-peek-clause-refines
returns-in_err-peek-clause-refines g t c =
    let p = err_from_is_err_and c.from_residual.result c.from_residual.ensures.1 in
    rw (p.1, p.2) (peek_fails _ _ _ (c.in_err-peek.ensures.refines c.requires.no_fault))

pub returns-then-eq-clause-ok : goal.returns-then-eq-clause-ok
returns-then-eq-clause-ok g t c = on_ok_weaker _ (adds_behind c.in_ok-peek.ensures.ok) c.read_part.ensures.ok

pub returns-then-eq-clause-refines : goal.returns-then-eq-clause-refines
returns-then-eq-clause-refines g t c =
    let next = c.in_ok-peek.ensures.refines c.requires.no_fault in
    part_gives _ _ _ next _ _ _ (told c.in_ok-peek.field-0 c.args.ident c.eq.ensures c.if-eq.true) c.read_part.ensures.refines

pub returns-in_err-inner-clause-ok : goal.returns-in_err-inner-clause-ok
returns-in_err-inner-clause-ok g t c = added_nothing _ (err_from_is_err_and c.from_residual-in_err-inner.result c.from_residual-in_err-inner.ensures.1).1

pub returns-in_err-inner-clause-refines : goal.returns-in_err-inner-clause-refines
returns-in_err-inner-clause-refines g t c =
    let p = err_from_is_err_and c.from_residual-in_err-inner.result c.from_residual-in_err-inner.ensures.1 in
    let next = c.in_ok-peek.ensures.refines c.requires.no_fault in
    rw (p.1, p.2) (header_fails _ _ _ next (told c.in_ok-peek.field-0 c.args.ident c.eq.ensures c.if-eq.false) (c.in_err-inner.ensures.refines next.sound))

pub returns-then-levels-eq0-clause-ok : goal.returns-then-levels-eq0-clause-ok
returns-then-levels-eq0-clause-ok g t c = tt

pub returns-then-levels-eq0-clause-refines : goal.returns-then-levels-eq0-clause-refines
returns-then-levels-eq0-clause-refines g t c =
    let next = c.in_ok-peek.ensures.refines c.requires.no_fault in
    let header = c.in_ok-inner.ensures.refines next.sound in
    contents_fail _ _ _ next (told c.in_ok-peek.field-0 c.args.ident c.eq.ensures c.if-eq.false) header
    (too_deep c.args.levels c.if-levels-eq0.true c.in_ok-inner.inner c.enter.new.self header.sound (c.refuse.ensures.refused header.sound)
    (c.refuse.ensures.state header.sound))

pub loop-source-init : goal.loop-source-init
loop-source-init g t c =
    let next = c.in_ok-peek.ensures.refines c.requires.no_fault in
    let header = c.in_ok-inner.ensures.refines next.sound in (
      c.in_ok-inner.ensures.clear,
      (passes_behind c.in_ok-peek.ensures.ok c.in_ok-inner.ensures.ok).some,
      ([], sym (append-nil _), none_read view _ _ _ _ header.sound),
    )

pub returns-in_err-has_more_segments-clause-ok : goal.returns-in_err-has_more_segments-clause-ok
returns-in_err-has_more_segments-clause-ok g t c =
    added_nothing _ (err_from_is_err_and c.from_residual-in_err-has_more_segments.result c.from_residual-in_err-has_more_segments.ensures.1).1

pub returns-in_err-has_more_segments-clause-refines : goal.returns-in_err-has_more_segments-clause-refines
returns-in_err-has_more_segments-clause-refines g t c =
    let p = err_from_is_err_and c.from_residual-in_err-has_more_segments.result c.from_residual-in_err-has_more_segments.ensures.1 in
    let next = c.in_ok-peek.ensures.refines c.requires.no_fault in
    let header = c.in_ok-inner.ensures.refines next.sound in
    rw (p.1, p.2) (contents_fail _ _ _ next (told c.in_ok-peek.field-0 c.args.ident c.eq.ensures c.if-eq.false) header
    (segments_fail c.args.levels c.if-levels-eq0.false c.in_ok-inner.inner
    (sees_none _ c.in_ok-inner.inner c.loop-source.invariant.2.2 c.loop-source.invariant.0 c.in_err-has_more_segments.ensures.err)))

pub returns-in_err-read_parts-clause-ok : goal.returns-in_err-read_parts-clause-ok
returns-in_err-read_parts-clause-ok g t c =
    added_nothing _ (err_from_is_err_and c.from_residual-in_err-read_parts.result c.from_residual-in_err-read_parts.ensures.1).1

pub returns-in_err-read_parts-clause-refines : goal.returns-in_err-read_parts-clause-refines
returns-in_err-read_parts-clause-refines g t c =
    let p = err_from_is_err_and c.from_residual-in_err-read_parts.result c.from_residual-in_err-read_parts.ensures.1 in
    let next = c.in_ok-peek.ensures.refines c.requires.no_fault in
    let header = c.in_ok-inner.ensures.refines next.sound in
    let sees = c.in_ok-has_more_segments.ensures.ok in
    let has = these_read _ c.in_ok-inner.inner c.loop-source.invariant.2.2 c.loop-source.invariant.0 sees.clear sees.takes in
    let peek = some_seen c.in_ok-inner.inner sees.next (sym sees.told ∙ c.if-branch.true) sees.peeked in
    rw (p.1, p.2) (contents_fail _ _ _ next (told c.in_ok-peek.field-0 c.args.ident c.eq.ensures c.if-eq.false) header
    (segments_fail c.args.levels c.if-levels-eq0.false c.in_ok-inner.inner
    (element_fails view _ _ _ _ _ _ _ _ _ _ _ has peek.1 (row_failed _ _ c.in_err-read_parts.ensures.refines))))

pub loop-source-preserved : goal.loop-source-preserved
loop-source-preserved g t c =
    let sees = c.in_ok-has_more_segments.ensures.ok in
    let has = these_read _ c.in_ok-inner.inner c.loop-source.invariant.2.2 c.loop-source.invariant.0 sees.clear sees.takes in
    let peek = some_seen c.in_ok-inner.inner sees.next (sym sees.told ∙ c.if-branch.true) sees.peeked in
    let more = added_spans c.has_more_segments.new.spans c.read_parts.new.spans in
    let at_hand = alone (contents_from (length c.loop-source.source.done) sees.takes.passes.contents) in
    let pieces = c.loop-source.invariant.2.0 ++ at_hand in (
      c.in_ok-read_parts.ensures.ok.clear,
      (let e = same_place c.in_ok-inner.inner peek.1 in let l = c.in_ok-read_parts.ensures.ok.moved in let k = c.loop-source.invariant.1 in
          omega (arith, e, l, k, taken_on sees.takes)),
      (
        pieces ++ more ∷ [],
        more_added c.args.spans.now c.has_more_segments.new.spans _ more pieces
            (adds_alone c.args.spans.now c.loop-source.spans c.has_more_segments.new.spans _ c.loop-source.invariant.2.0
            c.loop-source.invariant.2.1 sees.takes.passes.spans) c.in_ok-read_parts.ensures.ok.added,
        more_moved view _ _ _ _ _ _ _ _ _ _ _ more c.in_ok-read_parts.ensures.ok.moved has peek.1
            (row_gave view _ _ (of_added more c.in_ok-read_parts.ensures.refines)),
      ),
    )

pub returns-clause-ok : goal.returns-clause-ok
returns-clause-ok g t c =
    let sees = c.in_ok-has_more_segments.ensures.ok in
    let none = none_seen sees.next (sym sees.told ∙ c.if-branch.false) in
    let ahead = λ (i : c.in_ok-inner.inner.indefinite ≡ false). ap (λ (s : State). s.ahead) (sees.at_end none i) ∙ sees.clear in
    let far : length c.args.source.now.done < length c.has_more_segments.new.source.done =
    (let h = grows sees.goes in let k = c.loop-source.invariant.1 in omega (arith, h, k, taken_on sees.takes)) in
    adds_all _ _ _ _ _ _ _ c.close.result (adds_alone _ _ _ _ c.loop-source.invariant.2.0 c.loop-source.invariant.2.1
    sees.takes.passes.spans) far ahead c.close.ensures.ok c.close.ensures.clear

pub returns-clause-refines : goal.returns-clause-refines
returns-clause-refines g t c =
    let next = c.in_ok-peek.ensures.refines c.requires.no_fault in
    let header = c.in_ok-inner.ensures.refines next.sound in
    let sees = c.in_ok-has_more_segments.ensures.ok in
    let has = these_read _ c.in_ok-inner.inner c.loop-source.invariant.2.2 c.loop-source.invariant.0 sees.clear sees.takes in
    let none = saw _ (none_seen sees.next (sym sees.told ∙ c.if-branch.false)) sees.peeked in
    end_gives c.args.ident c.args.levels c.if-levels-eq0.false c.args.bound.now c.in_ok-inner.inner next
    (told c.in_ok-peek.field-0 c.args.ident c.eq.ensures c.if-eq.false) header c.args.spans.now
    c.has_more_segments.new.spans _ (adds_alone _ _ _ _ c.loop-source.invariant.2.0 c.loop-source.invariant.2.1
    sees.takes.passes.spans) has none _ c.close.result (c.close.ensures.refines none.sound)

pub loop-source-smaller : goal.loop-source-smaller
loop-source-smaller g t c =
    let sees = c.in_ok-has_more_segments.ensures.ok in
    let peek = some_seen c.in_ok-inner.inner sees.next (sym sees.told ∙ c.if-branch.true) sees.peeked in
    let less =
    smaller c.in_ok-inner.inner sees.mid c.has_more_segments.new.source c.read_parts.new.source peek.0 peek.1
    c.in_ok-read_parts.ensures.ok.moved c.in_ok-read_parts.ensures.refines.reaches.took.limit in
    omega (arith, less, taken_on sees.takes, sees.takes.adds.limit)
