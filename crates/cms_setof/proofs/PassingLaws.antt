-- Frames one after another, passed one by one.
use Rattle.std.proofs.Common.{◌≡◌, ℕ, ◌+◌, ◌-◌, ◌<◌, ◌≤◌, List, [], ◌∷◌, ◌++◌, length, map, take, drop, sym, ◌∙◌, ap, subst, arith, append_assoc}
use Rattle.std.specs.List.{AllByRecursion}
use Rattle.std.proofs.lemmas.List.{length-append, length-drop, drop-drop, take-append-drop, map-append}
use Rattle.std.proofs.lemmas.Grind.{flat_map-append}
use Rattle.std.proofs.Math.Seq.{take-append_seam}
use Rattle.cms_tlv.specs.declared.span.Span.{Span}
use Rattle.cms_tlv.specs.Frames.{IsDerFrame}
use Rattle.cms_tlv.specs.Spelling.{join}
use Rattle.cms_tlv.specs.Spans.{octets_in}
use Rattle.cms_tlv.proofs.SpanLaws.{span_within, kept_up_to}
use Rattle.cms_setof.specs.internal.Sorting.{span_octets}
use Rattle.cms_setof.proofs.MergeLaws.{no_frames, drop_prefix, join_one}

-- what is left after n octets are the frames after the first k
pub record Passed (bs : List (List ℕ)) (octets : List ℕ) (k n : ℕ) : Type 0 where
  pub left : drop n octets ≡ join (drop k bs)
  pub der : AllByRecursion IsDerFrame (drop k bs)

module _ (octets : List ℕ) (n len : ℕ) (within : n + len ≤ length octets)
    (is : (f rest : List ℕ) → IsDerFrame f → drop n octets ≡ f ++ rest → len ≡ length f) where
  behind_first : (gs : List (List ℕ)) → AllByRecursion IsDerFrame gs → drop n octets ≡ join gs → drop (n + len) octets ≡ join (drop 1 gs)
  behind_first [] p e = let none : n + len ≡ n = omega (arith, ap length e, length-drop n octets) in ap (λ k. drop k octets) none ∙ e
  behind_first (f ∷ fs) p e = drop_prefix octets f (join fs) n (n + len) e (omega (arith, is f (join fs) p.0 e))

  der_behind : (gs : List (List ℕ)) → AllByRecursion IsDerFrame gs → AllByRecursion IsDerFrame (drop 1 gs)
  der_behind [] p = tt
  der_behind (f ∷ fs) p = p.1

  pub one_passed : (bs : List (List ℕ)) (k : ℕ) → Passed bs octets k n → Passed bs octets (k + 1) (n + len)
  one_passed bs k h =
      let e : drop (k + 1) bs ≡ drop 1 (drop k bs) = sym (drop-drop 1 k bs) in
      record {
        left = behind_first (drop k bs) h.der h.left ∙ ap join (sym e);
        der = subst (AllByRecursion IsDerFrame) (sym e) (der_behind (drop k bs) h.der);
      }

  begins : (xs gs : List (List ℕ)) → AllByRecursion IsDerFrame gs → drop n octets ≡ join gs → n < length octets
      → (xs ++ octets_in octets n (n + len) ∷ []) ++ drop 1 gs ≡ xs ++ gs
  begins xs [] p e l = absurd (omega (arith, ap length e, length-drop n octets))
  begins xs (f ∷ fs) p e l =
      let w : n + len - n ≡ length f = omega (arith, is f (join fs) p.0 e) in
      let here : octets_in octets n (n + len) ≡ f = span_within octets n (n + len) (omega arith) within
      ∙ (ap (λ k. take k (drop n octets)) w ∙ (ap (λ z. take (length f) z) e ∙ take-append_seam f (join fs))) in
      append_assoc xs (octets_in octets n (n + len) ∷ []) fs ∙ ap (λ z. xs ++ z ∷ fs) here

  -- the span of the next frame is added to those of the frames that were passed
  pub span_passed : (bs : List (List ℕ)) (spans : List Span) → Passed bs octets (length spans) n → n < length octets
      → map (span_octets octets) spans ++ drop (length spans) bs ≡ bs
      → map (span_octets octets) (spans ++ record { start = n; end = n + len } ∷ []) ++ drop (length spans + 1) bs ≡ bs
  span_passed bs spans h l e =
      ap (λ z. z ++ drop (length spans + 1) bs) (map-append (span_octets octets) spans (record { start = n; end = n + len } ∷ []))
      ∙ (ap (λ z. (map (span_octets octets) spans ++ octets_in octets n (n + len) ∷ []) ++ z) (sym (drop-drop 1 (length spans) bs))
      ∙ (begins (map (span_octets octets) spans) (drop (length spans) bs) h.der h.left l ∙ e))

  pub octets_passed : (spans : List Span) → take n octets ≡ join (map (span_octets octets) spans)
      → take (n + len) octets ≡ join (map (span_octets octets) (spans ++ record { start = n; end = n + len } ∷ []))
  octets_passed spans e =
      kept_up_to octets n (n + len) (omega arith) within ∙ (ap (λ z. z ++ octets_in octets n (n + len)) e
      ∙ (sym (join_one (map (span_octets octets) spans) (octets_in octets n (n + len)))
      ∙ ap join (sym (map-append (span_octets octets) spans (record { start = n; end = n + len } ∷ [])))))

-- where octets are left, a frame is left
pub some_left : (bs : List (List ℕ)) (octets : List ℕ) (k n : ℕ) → Passed bs octets k n → n < length octets → k < length bs
some_left bs octets k n h l = go (drop k bs) h.left (length-drop k bs)
  where
    go : (gs : List (List ℕ)) → drop n octets ≡ join gs → length gs ≡ length bs - k → k < length bs
    go [] e m = absurd (omega (arith, ap length e, length-drop n octets))
    go (g ∷ gs) e m = omega arith

-- where none are left, none is
pub none_left : (bs : List (List ℕ)) (octets : List ℕ) (k n : ℕ) → Passed bs octets k n → length octets ≤ n → drop k bs ≡ []
none_left bs octets k n h l = no_frames (drop k bs) h.der (omega (arith, ap length h.left, length-drop n octets))

pub all_counted : (bs : List (List ℕ)) (octets : List ℕ) (k n : ℕ) → Passed bs octets k n → length octets ≤ n → k ≤ length bs → k ≡ length bs
all_counted bs octets k n h l m = omega (arith, ap length (none_left bs octets k n h l), length-drop k bs)

-- the octets of the frames that were passed
pub passed_len : (bs : List (List ℕ)) (octets : List ℕ) (k n : ℕ) → Passed bs octets k n → n ≤ length octets → octets ≡ join bs
    → n ≡ length (join (take k bs))
passed_len bs octets k n h l e =
    let whole : octets ≡ join (take k bs) ++ join (drop k bs) = e ∙ (ap join (sym (take-append-drop k bs))
    ∙ flat_map-append (λ b. b) (take k bs) (drop k bs)) in
    omega (arith, ap length whole, length-append (join (take k bs)) (join (drop k bs)), ap length h.left, length-drop n octets)
