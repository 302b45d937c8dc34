use Rattle.std.proofs.Common.{◌≡◌, ◌+◌, ◌-◌, ◌∷◌, suc, length, drop, slice_get, Some, sym, ◌∙◌, ap, arith}
use Rattle.std.proofs.lemmas.Option.{slice_get_within, get_or_from_slice_get}
use Rattle.std.proofs.Math.Seq.{drop-cons}
use Rattle.cms_tlv.specs.Spans.{borrowed_spans, octets_in}
use Rattle.cms_tlv.specs.Spelling.{join}
use Rattle.cms_fields.specs.Assembly.{marked, copied}
use Rattle.cms_fields.specs.Received.{spanned_in}
use Rattle.cms_fields.proofs.AssemblyLaws.{marked_both, length_marked}
use Rattle.cms_fields.proofs.SpannedLaws.{shorter_rest}
use Rattle.cms_fields.proofs.WriteLaws.{on_err_each}
use Rattle.cms_fields.proofs.sink.emit_each.Goals as goal

pub loop-left-preserved : goal.loop-left-preserved
loop-left-preserved g c =
    let xs = borrowed_spans c.args.spans in
    let i = c.loop-left.left - 1 in
    let x = c.in-Some.span in
    let k = c.args.kept.now in
    let s : suc i ≡ c.loop-left.left = omega (arith, c.loop-left-test.true) in
    let at : slice_get xs i ≡ Some x = sym c.get.ensures ∙ c.in-Some.is in
    let e = drop-cons xs i x (slice_get_within xs i x at) ∙ ap (λ z. z ∷ drop (suc i) xs) (get_or_from_slice_get xs i x x at)
    ∙ ap (λ n. x ∷ drop n xs) s in
    let first = octets_in k x.start x.end in
    let rest = join (spanned_in k (drop c.loop-left.left xs)) in (
      omega (arith, c.loop-left.invariant.0),
      rw (e, marked_both copied first rest) (c.law.ensures.both k (marked copied first) (marked copied rest) c.args.sink.now
          c.loop-left.sink c.span.new.self c.loop-left.invariant.1 c.in_ok-span.ensures.ok),
    )

pub returns-in_err-span-clause-stops : goal.returns-in_err-span-clause-stops
returns-in_err-span-clause-stops g c =
    let xs = borrowed_spans c.args.spans in
    let i = c.loop-left.left - 1 in
    let x = c.in-Some.span in
    let k = c.args.kept.now in
    let rest = join (spanned_in k (drop c.loop-left.left xs)) in
    let s : suc i ≡ c.loop-left.left = omega (arith, c.loop-left-test.true) in
    let at : slice_get xs i ≡ Some x = sym c.get.ensures ∙ c.in-Some.is in
    let e = drop-cons xs i x (slice_get_within xs i x at) ∙ ap (λ z. z ∷ drop (suc i) xs) (get_or_from_slice_get xs i x x at)
    ∙ ap (λ n. x ∷ drop n xs) s in
    let l = shorter_rest k i x (drop c.loop-left.left xs) xs e in
    let n = c.law.ensures.counted k (marked copied rest) c.args.sink.now c.loop-left.sink c.loop-left.invariant.1 in
    let m = length_marked copied rest in
    on_err_each c.from_residual.result (c.law.ensures.longer (g.S.Sink.taking.count c.loop-left.sink + length (octets_in k x.start x.end))
    (g.S.Sink.taking.count c.args.sink.now + length (join (spanned_in k xs))) c.in_err-span.ensures.stops (omega (arith, l, n, m)))
