use Rattle.std.proofs.Common.{◌≡◌, ◌-◌, ◌<◌, ◌∷◌, suc, map, drop, length, sym, ◌∙◌, ap, subst, arith}
use Rattle.std.proofs.lemmas.List.{drop_all}
use Rattle.std.proofs.lemmas.Result.{on_ok_weaker, on_err_weaker}
use Rattle.std.proofs.Math.Seq.{drop-cons}
use Rattle.cms_tlv.specs.Spelling.{der}
use Rattle.cms_fields.proofs.WriteLaws.{on_err_each}
use Rattle.cms_setof.proofs.RowLaws.{Row, RowStops, row_none, row_more, row_emits, row_frames, member_stops, all_stop, set_stops, sort_stops}
use Rattle.cms_setof.proofs.set.emit_row.Goals as goal

pub loop-left-init : goal.loop-left-init
loop-left-init g c = (
  omega arith,
  rw (drop_all (length c.args.row.now) c.args.row.now (omega arith)) (row_none (g.T.Write.grammar.spelled der) g.T.Write.grammar.same
      (c.law.ensures.field c.requires.is_field).by_der.equivalence c.law-2.ensures g.T.Write.grammar.assembled),
)

pub loop-left-preserved : goal.loop-left-preserved
loop-left-preserved g c =
    let xs = c.args.row.now in
    let i = c.loop-left.left - 1 in
    let x = c.index-row-left.result in
    let s : suc i ≡ c.loop-left.left = omega (arith, c.loop-left-test.true) in
    let l : i < length xs = omega (arith, c.loop-left-test.true, c.loop-left.invariant.0) in
    let e = drop-cons xs i x l ∙ ap (λ z. z ∷ drop (suc i) xs) (sym c.index-row-left.is) ∙ ap (λ n. x ∷ drop n xs) s in (
      omega arith,
      rw e (row_more (g.T.Write.grammar.spelled der) g.T.Write.grammar.same (c.law.ensures.field c.requires.is_field).by_der.equivalence
          c.law-2.ensures g.T.Write.grammar.assembled c.loop-left.invariant.1 c.in_ok-emit.ensures.ok),
    )

pub returns-in_err-emit-clause-stops : goal.returns-in_err-emit-clause-stops
returns-in_err-emit-clause-stops g c =
    let xs = c.args.row.now in
    let i = c.loop-left.left - 1 in
    let x = c.index-row-left.result in
    let s : suc i ≡ c.loop-left.left = omega (arith, c.loop-left-test.true) in
    let l : i < length xs = omega (arith, c.loop-left-test.true, c.loop-left.invariant.0) in
    let e = drop-cons xs i x l ∙ ap (λ z. z ∷ drop (suc i) xs) (sym c.index-row-left.is) ∙ ap (λ n. x ∷ drop n xs) s in
    let f = g.T.Write.value c.args.kept.now in
    let R = g.T.Write.grammar.spelled der in
    let q = (c.law.ensures.field c.requires.is_field).by_der.equivalence in
    let n = g.S.Sink.taking.count c.args.sink.now in
    let here = member_stops R g.T.Write.grammar.same q c.law-2.ensures g.T.Write.grammar.assembled c.loop-left.invariant.1 c.in_err-emit.ensures.stops in
    let there = subst (λ z. RowStops g.S.Sink.taking R g.T.Write.grammar.same n (map f z)) (sym e) here in
    on_err_each c.from_residual.result (set_stops R g.T.Write.grammar.same q c.law-2.ensures n (map f xs)
    (all_stop R g.T.Write.grammar.same q c.law-2.ensures n f i xs there))

pub returns-clause-ok : goal.returns-clause-ok
returns-clause-ok g c =
    let law = c.law.ensures.field c.requires.is_field in
    let zero : c.loop-left.left ≡ 0 = omega (arith, c.loop-left-test.false) in
    let r = subst (λ n. Row g.S.Sink.taking (g.T.Write.grammar.spelled der) g.T.Write.grammar.assembled g.T.Write.grammar.same
    (map (g.T.Write.value c.args.kept.now) (drop n c.args.row.now)) c.args.kept.now c.args.sink.now c.loop-left.sink) zero c.loop-left.invariant.1 in
    on_ok_weaker c.sort.result (λ h. row_emits r law.by_der.equivalence (law.is_field der) law.by_der.canonical
    (h c.args.sink.now r.encodings (sym c.count-from.ensures) (row_frames r law.framed) r.put)) c.sort.ensures.ok

pub returns-clause-stops : goal.returns-clause-stops
returns-clause-stops g c =
    let law = c.law.ensures.field c.requires.is_field in
    let zero : c.loop-left.left ≡ 0 = omega (arith, c.loop-left-test.false) in
    let r = subst (λ n. Row g.S.Sink.taking (g.T.Write.grammar.spelled der) g.T.Write.grammar.assembled g.T.Write.grammar.same
    (map (g.T.Write.value c.args.kept.now) (drop n c.args.row.now)) c.args.kept.now c.args.sink.now c.loop-left.sink) zero c.loop-left.invariant.1 in
    on_err_weaker c.sort.result (sort_stops r law.by_der.equivalence c.law-2.ensures) c.sort.ensures.stops
