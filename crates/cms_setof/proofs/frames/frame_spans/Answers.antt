use Rattle.std.proofs.Common.{◌≡◌, ◌≤◌, ◌+◌, ◌∷◌, ◌++◌, [], ℕ, List, length, map, drop, sym, ◌∙◌, ap, subst, arith}
use Rattle.std.proofs.lemmas.List.{length-drop, length-append, append-nil}
use Rattle.cms_tlv.specs.declared.span.Span.{Span}
use Rattle.cms_tlv.specs.Frames.{IsDerFrame}
use Rattle.cms_tlv.specs.Spelling.{join}
use Rattle.cms_setof.specs.internal.Sorting.{span_octets}
use Rattle.cms_setof.proofs.FirstFrameLaws.{from_on}
use Rattle.cms_setof.proofs.PassingLaws.{Passed, one_passed, span_passed, octets_passed, none_left}
use Rattle.cms_setof.proofs.frames.frame_spans.Goals as goal

pub loop-start-preserved : goal.loop-start-preserved
loop-start-preserved c =
    let v = c.loop-start.invariant in
    let xs = c.args.octets.now in
    let start = c.loop-start.start in
    let len = c.frame_len.result in
    let spans = c.loop-start.spans.items in
    let next : Span = record { start = start; end = start + len } in
    let new : c.push.new.self.items ≡ spans ++ next ∷ [] = c.in_ok-push.ensures.items in
    let count : length c.push.new.self.items ≡ length spans + 1 = omega (arith, ap length new, length-append spans (next ∷ [])) in
    let within : start + len ≤ length xs =
    omega (arith, ap length (from_on xs start) ∙ length-drop start xs, v.within, c.frame_len.ensures.within) in
    let is : (f rest : List ℕ) → IsDerFrame f → drop start xs ≡ f ++ rest → len ≡ length f
    = λ f rest q h. c.frame_len.ensures.frame f rest q (from_on xs start ∙ h) in
    record {
      within = within;
      before = octets_passed xs start len within is spans v.before ∙ ap (λ z. join (map (span_octets xs) z)) (sym new);
      passed = λ bs p e. subst (λ k. Passed bs xs k (start + len)) (sym count) (one_passed xs start len within is bs (length spans) (v.passed bs p e));
      spans = λ bs p e.
          ap (λ k. map (span_octets xs) c.push.new.self.items ++ drop k bs) count
          ∙ (ap (λ z. map (span_octets xs) z ++ drop (length spans + 1) bs) new
          ∙ span_passed xs start len within is bs spans (v.passed bs p e) c.loop-start-test.true (v.spans bs p e));
    }

pub returns-clause-frames : goal.returns-clause-frames
returns-clause-frames c bs p e =
    let v = c.loop-start.invariant in
    let spans = c.loop-start.spans.items in
    let none = none_left bs c.args.octets.now (length spans) c.loop-start.start (v.passed bs p e) c.loop-start-test.false in
    sym (append-nil (map (span_octets c.args.octets.now) spans))
    ∙ (ap (λ z. map (span_octets c.args.octets.now) spans ++ z) (sym none) ∙ v.spans bs p e)
