-- Frames one after another that were sorted at once, or by halves.
use Rattle.std.proofs.Common.{◌≡◌, ℕ, suc, ◌+◌, ◌-◌, List, [], ◌∷◌, ◌++◌, length, map, take, drop, refl, sym, ◌∙◌, ap, subst, arith, true, false, IsPermutation}
use borrow.Rule.Slice.PartMut.{put_mid}
use Rattle.std.specs.List.{AllByRecursion, flat_map}
use Rattle.std.specs.List.Sorted.{IsSortedBy}
use Rattle.std.specs.Cmp.Lexicographic.{slice_cmp, nat_list_cmp_total}
use Rattle.std.specs.Ordering.{nat_cmp, is_lt, ordering_reverse}
use Rattle.std.proofs.lemmas.List.{length-drop, append-nil, take-append-drop, drop_all}
use Rattle.std.proofs.lemmas.List.Concat.{length-flat_map}
use Rattle.std.proofs.lemmas.List.Elements.{All-from_recursion, recursion_from_All}
use Rattle.std.proofs.lemmas.List.Sorted.{IsPermutation-map, IsPermutation-append, IsPermutation-trans, sum_by-IsPermutation, All-permutation}
use Rattle.std.proofs.lemmas.Grind.{flat_map-append}
use Rattle.std.proofs.Math.Seq.{drop-append_seam}
use Rattle.cms_tlv.specs.declared.span.Span.{Span}
use Rattle.cms_tlv.specs.Frames.{Frame, IsDerFrame}
use Rattle.cms_tlv.specs.Order.{ComesAfter, Ascends}
use Rattle.cms_tlv.specs.Spelling.{join}
use Rattle.cms_setof.specs.internal.Merging.{IsRow, AreSorted}
use Rattle.cms_setof.specs.internal.Sorting.{span_octets, JoinsSorted}
use Rattle.cms_setof.proofs.FirstFrameLaws.{from_on}
use Rattle.cms_setof.proofs.MergeLaws.{der_frame, never_after, begins_with}

pub der_still : (bs cs : List (List ℕ)) → IsPermutation bs cs → AllByRecursion IsDerFrame bs → AllByRecursion IsDerFrame cs
der_still bs cs m p = recursion_from_All IsDerFrame cs (All-permutation IsDerFrame bs cs m (All-from_recursion IsDerFrame bs p))

-- what is sorted has as many octets
pub same_length : {A : Type 0} (bs cs : List (List A)) → IsPermutation bs cs → length (flat_map (λ b. b) cs) ≡ length (flat_map (λ b. b) bs)
same_length bs cs m = length-flat_map (λ b. b) cs ∙ (sum_by-IsPermutation (λ b. length b) bs cs m ∙ sym (length-flat_map (λ b. b) bs))

not_after : (b c : List ℕ) → Frame b → Frame c → is_lt (slice_cmp nat_cmp c b) ≡ false → ComesAfter b c → ⊥
not_after b c f g e = never_after b c f g (λ h.
    let t : true ≡ false = sym (ap is_lt (nat_list_cmp_total.antisymm c b ∙ ap ordering_reverse h)) ∙ e in
    cc)

module _ {X : Type 0} (octets : X → List ℕ) where
  next_sorted : (x y : X) (xs : List X) → IsSortedBy (λ a b. is_lt (slice_cmp nat_cmp (octets a) (octets b))) (x ∷ y ∷ xs)
      → IsSortedBy (λ a b. is_lt (slice_cmp nat_cmp (octets a) (octets b))) (y ∷ xs)
  next_sorted x y xs h i d l m = let e : suc i + 1 ≡ suc (i + 1) = omega arith in let g = h (suc i) d (omega arith) (omega arith) in (rw e at g)

  -- frames that are sorted by std's order ascend
  pub sorted_ascend : (xs : List X) → AllByRecursion IsDerFrame (map octets xs)
      → IsSortedBy (λ a b. is_lt (slice_cmp nat_cmp (octets a) (octets b))) xs → Ascends (map octets xs)
  sorted_ascend [] p h = tt
  sorted_ascend (x ∷ []) p h = tt
  sorted_ascend (x ∷ y ∷ xs) p h = (
    not_after (octets x) (octets y) (der_frame p.0) (der_frame p.1.0) (h 0 x (omega arith) (omega arith)),
    sorted_ascend (y ∷ xs) p.1 (next_sorted x y xs h),
  )

module _ (buffer : List ℕ) (spans : List Span) (new : List ℕ) (j : JoinsSorted buffer spans [] new) where
  permuted : IsPermutation (map (span_octets buffer) spans) (map (span_octets buffer) j.sorted)
  permuted = IsPermutation-map (span_octets buffer) spans j.sorted j.permutation

  pub spans_len : buffer ≡ join (map (span_octets buffer) spans) → length buffer ≡ length new
  spans_len e =
      ap length e ∙ (sym (same_length (map (span_octets buffer) spans) (map (span_octets buffer) j.sorted) permuted)
      ∙ sym (ap length j.appended))

  pub spans_sorted : (bs : List (List ℕ)) → AllByRecursion IsDerFrame bs → map (span_octets buffer) spans ≡ bs → AreSorted bs new
  spans_sorted bs p e =
      let der : AllByRecursion IsDerFrame (map (span_octets buffer) j.sorted) =
      der_still (map (span_octets buffer) spans) (map (span_octets buffer) j.sorted) permuted (subst (AllByRecursion IsDerFrame) (sym e) p) in
      record {
        frames = map (span_octets buffer) j.sorted;
        joined = j.appended;
        permutation = subst (λ z. IsPermutation z (map (span_octets buffer) j.sorted)) e permuted;
        ascends = sorted_ascend (span_octets buffer) j.sorted der j.ascending;
      }

parts_der : (bs cs : List (List ℕ)) → AllByRecursion IsDerFrame (bs ++ cs) → AllByRecursion IsDerFrame bs × AllByRecursion IsDerFrame cs
parts_der [] cs p = (tt, p)
parts_der (b ∷ bs) cs p = let h = parts_der bs cs p.1 in ((p.0, h.0), h.1)

sorted_row : {bs : List (List ℕ)} {octets : List ℕ} → AllByRecursion IsDerFrame bs → (s : AreSorted bs octets) → IsRow s.frames
sorted_row {bs = bs} p s = record { der = der_still bs s.frames s.permutation p; ascends = s.ascends }

sorted_len : {bs : List (List ℕ)} {octets : List ℕ} → (s : AreSorted bs octets) → length octets ≡ length (join bs)
sorted_len {bs = bs} s = ap length s.joined ∙ same_length bs s.frames s.permutation

-- each half is sorted where it lies, and then they are merged
module _ (row left right new : List ℕ) (half seam : ℕ) where
  abbrev pub FirstHalf : List ℕ
  FirstHalf = left ++ drop seam row

  pub halves_sorted : (bs : List (List ℕ)) → AllByRecursion IsDerFrame bs → row ≡ join bs → seam ≡ length (join (take half bs))
      → ((cs : List (List ℕ)) → AllByRecursion IsDerFrame cs → take seam row ≡ join cs → AreSorted cs left)
      → ((cs : List (List ℕ)) → AllByRecursion IsDerFrame cs → take (length FirstHalf - seam) (drop seam FirstHalf) ≡ join cs → AreSorted cs right)
      → ((ls rs : List (List ℕ)) → IsRow ls → IsRow rs → put_mid seam (length FirstHalf - seam) FirstHalf right ≡ join ls ++ join rs
      → seam ≡ length (join ls) → AreSorted (ls ++ rs) new) → AreSorted bs new
  halves_sorted bs p e n s t m =
      let fs = take half bs in
      let gs = drop half bs in
      let both : fs ++ gs ≡ bs = take-append-drop half bs in
      let der = parts_der fs gs (subst (AllByRecursion IsDerFrame) (sym both) p) in
      let whole : row ≡ join fs ++ join gs = e ∙ (ap join (sym both) ∙ flat_map-append (λ b. b) fs gs) in
      let a = s fs der.0 (begins_with row (join fs) (join gs) seam whole n) in
      let rest : drop seam row ≡ join gs = ap (λ k. drop k row) n ∙ (ap (λ z. drop (length (join fs)) z) whole ∙ drop-append_seam (join fs) (join gs)) in
      let here : seam ≡ length left = n ∙ sym (sorted_len a) in
      let after : drop seam FirstHalf ≡ drop seam row = ap (λ k. drop k FirstHalf) here ∙ drop-append_seam left (drop seam row) in
      let before : take seam FirstHalf ≡ left = begins_with FirstHalf left (drop seam row) seam refl here in
      let d = t gs der.1 (from_on FirstHalf seam ∙ (after ∙ rest)) in
      let end = length FirstHalf - seam in
      let none : drop end (drop seam FirstHalf) ≡ [] = drop_all end (drop seam FirstHalf) (omega (arith, length-drop seam FirstHalf)) in
      let put : put_mid seam end FirstHalf right ≡ join a.frames ++ join d.frames
      = ap (λ z. take seam FirstHalf ++ (right ++ z)) none ∙ (ap (λ z. take seam FirstHalf ++ z) (append-nil right)
      ∙ (ap (λ z. z ++ right) (before ∙ a.joined) ∙ ap (λ z. join a.frames ++ z) d.joined)) in
      let r = m a.frames d.frames (sorted_row der.0 a) (sorted_row der.1 d) put (here ∙ ap length a.joined) in
      record {
        frames = r.frames;
        joined = r.joined;
        permutation = IsPermutation-trans bs (a.frames ++ d.frames) r.frames
            (subst (λ z. IsPermutation z (a.frames ++ d.frames)) both (IsPermutation-append fs a.frames gs d.frames a.permutation d.permutation)) r.permutation;
        ascends = r.ascends;
      }
