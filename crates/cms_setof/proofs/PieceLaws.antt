-- Pieces of an encoding, put before others and taken off.
use Rattle.std.proofs.Common.{◌≡◌, ℕ, suc, ◌+◌, ◌-◌, ◌<◌, ◌≤◌, Bool, true, false, nat_le, if◌then◌else◌, List, [], ◌∷◌, ◌++◌, length, map, take, drop, get_or, refl, sym, ◌∙◌, ap, subst, arith, append_assoc, add-one, IsPermutation}
use mathlib.Core.Bool.{◌&&◌}
use Rattle.std.specs.List.{All, AllByRecursion}
use Rattle.std.specs.List.Sorted.{IsSortedBy}
use Rattle.std.specs.Ordering.{nat_cmp, is_lt}
use Rattle.std.specs.Cmp.Lexicographic.{slice_cmp}
use Rattle.std.proofs.lemmas.Grind.{flat_map-append}
use Rattle.std.proofs.lemmas.List.{append-nil, length-append, length-map, map-append, get_or-map, take_more, length-take-le}
use Rattle.std.proofs.lemmas.Bool.Decides.{nat_tests}
use Rattle.std.proofs.lemmas.List.Sorted.{IsPermutation-map}
use Rattle.std.proofs.Math.ListN.{get_or-append}
use Rattle.std.proofs.Math.Seq.{drop-cons, get_or-append_seam}
use Rattle.cms_tlv.specs.declared.span.Span.{Span}
use Rattle.cms_tlv.specs.Frames.{IsDerFrame}
use Rattle.cms_tlv.specs.Order.{Ascends}
use Rattle.cms_tlv.specs.Spans.{octets_in}
use Rattle.cms_tlv.proofs.SpanLaws.{kept_up_to}
use Rattle.cms_fields.specs.Assembly.{Marked, marked, copied, unmarked, join_marked}
use Rattle.cms_fields.proofs.AssemblyLaws.{marked_both, length_octets}
use Rattle.cms_setof.specs.declared.piece.Piece.{Piece}
use Rattle.cms_setof.specs.declared.members.Member.{Member}
use Rattle.cms_setof.specs.Pieces.{marked_piece, marked_pieces, HasOctets, GoesOn, AreJoined}
use Rattle.cms_setof.specs.internal.Sorting.{span_octets}
use Rattle.cms_setof.specs.internal.Tracing.{stacked, TakesOff, marked_member, member_octets, AreMembers}
use Rattle.cms_setof.proofs.PermutationLaws.{equal_images}
use Rattle.cms_setof.proofs.SortedRows.{der_still, sorted_ascend}

-- one more at the end comes first
pub stacked_more : (k : List ℕ) (ps : List Piece) (p : Piece) → stacked k (ps ++ p ∷ []) ≡ marked_piece k p ++ stacked k ps
stacked_more k [] p = sym (append-nil (marked_piece k p))
stacked_more k (q ∷ ps) p =
    ap (λ z. z ++ marked_piece k q) (stacked_more k ps p) ∙ append_assoc (marked_piece k p) (stacked k ps) (marked_piece k q)

-- and of pieces in their order, last
pub marked_more : (k : List ℕ) (ps : List Piece) (p : Piece) → marked_pieces k (ps ++ p ∷ []) ≡ marked_pieces k ps ++ marked_piece k p
marked_more k ps p = flat_map-append (marked_piece k) ps (p ∷ []) ∙ ap (λ z. marked_pieces k ps ++ z) (append-nil (marked_piece k p))

-- lists that begin with equally many items begin alike
pub same_parts : {A : Type 0} (a b c d : List A) → a ++ b ≡ c ++ d → length a ≡ length c → (a ≡ c) × (b ≡ d)
same_parts [] b [] d e n = (refl, e)
same_parts [] b (y ∷ c) d e n = absurd (omega arith)
same_parts (x ∷ a) b [] d e n = absurd (omega arith)
same_parts (x ∷ a) b (y ∷ c) d e n =
    let h : x ≡ y = cc in
    let t : a ++ b ≡ c ++ d = cc in
    let i = same_parts a b c d t (omega arith) in
    (ap (λ z. z ∷ a) h ∙ ap (λ z. y ∷ z) i.0, i.1)

-- what is taken off frames that come first
pub frames_taken : {k : List ℕ} {n : ℕ} {old first new : List Piece} → TakesOff k n old first new → (frames : List (List Marked)) (rest : List Marked)
    → n ≡ length (join_marked frames) → stacked k old ≡ join_marked frames ++ rest → (marked_pieces k first ≡ join_marked frames) × (stacked k new ≡ rest)
frames_taken {k = k} {first = first} {new = new} t frames rest n e =
    same_parts (marked_pieces k first) (stacked k new) (join_marked frames) rest (sym t.parts ∙ e) (t.counted ∙ n)

images_twice : {A B C : Type 0} (f : A → B) (g : B → C) (xs : List A) → map g (map f xs) ≡ map (λ x. g (f x)) xs
images_twice f g [] = refl
images_twice f g (x ∷ xs) = ap (λ z. g (f x) ∷ z) (images_twice f g xs)

module _ (k buffer : List ℕ) (frames : List (List Marked)) where
  --- `Cut`: the members have the pieces of the first i frames, and those of the others are left
  pub record Cut (i : ℕ) (left : List Piece) (members : List Member) : Type 0 where
    pub pieces : map (marked_member k) members ≡ take i frames
    pub octets : map (member_octets buffer) members ≡ take i (map unmarked frames)
    pub rest : stacked k left ≡ join_marked (drop i frames)

  pub cut_more : (spans : List Span) → map (span_octets buffer) spans ≡ map unmarked frames → (i : ℕ) (d : Span) → i < length spans
      → {left new : List Piece} {members : List Member} → Cut i left members → (m : Member) → m.span ≡ get_or spans i d
      → TakesOff k (length (span_octets buffer (get_or spans i d))) left m.pieces.items new → Cut (i + 1) new (members ++ m ∷ [])
  cut_more spans same i d l {left = left} {new = new} {members = members} cut m at t =
      let long : length spans ≡ length frames = sym (length-map spans (span_octets buffer)) ∙ (ap length same ∙ length-map frames unmarked) in
      let within : i < length frames = omega arith in
      let frame = get_or frames i [] in
      let octets : span_octets buffer (get_or spans i d) ≡ unmarked frame =
      sym (get_or-map (span_octets buffer) spans i d [] l) ∙ (ap (λ z. get_or z i []) same ∙ get_or-map unmarked frames i [] [] within) in
      let whole : stacked k left ≡ frame ++ join_marked (drop (suc i) frames) = cut.rest ∙ ap join_marked (drop-cons frames i [] within) in
      let n : length (marked_member k m) ≡ length frame = t.counted ∙ (ap length octets ∙ length_octets frame) in
      let parts = same_parts (marked_member k m) (stacked k new) frame (join_marked (drop (suc i) frames)) (sym t.parts ∙ whole) n in
      record {
        pieces = map-append (marked_member k) members (m ∷ [])
            ∙ (ap (λ z. z ++ marked_member k m ∷ []) cut.pieces ∙ (ap (λ z. take i frames ++ z ∷ []) parts.0 ∙ sym (take_more frames i [] within)));
        octets = map-append (member_octets buffer) members (m ∷ [])
            ∙ (ap (λ z. z ++ member_octets buffer m ∷ []) cut.octets
            ∙ (ap (λ z. take i (map unmarked frames) ++ z ∷ []) (ap (span_octets buffer) at ∙ (octets ∙ sym (get_or-map unmarked frames i [] [] within)))
            ∙ sym (take_more (map unmarked frames) i [] (omega (arith, length-map frames unmarked)))));
        rest = parts.1 ∙ ap (λ j. join_marked (drop j frames)) (sym (add-one i));
      }

  -- members that are sorted by their octets
  pub members_sorted : (members sorted : List Member) → AllByRecursion IsDerFrame (map unmarked frames) → AreMembers k buffer frames members
      → IsPermutation members sorted
      → IsSortedBy (λ a b. is_lt (slice_cmp nat_cmp (member_octets buffer a) (member_octets buffer b))) sorted
      → IsPermutation frames (map (marked_member k) sorted) × Ascends (map unmarked (map (marked_member k) sorted))
  members_sorted members sorted d are m up =
      let f = member_octets buffer in
      let g = λ (x : Member). unmarked (marked_member k x) in
      let same : map f sorted ≡ map g sorted =
      equal_images f g members sorted m (are.octets ∙ (sym (ap (map unmarked) are.pieces) ∙ images_twice (marked_member k) unmarked members)) in
      let der : AllByRecursion IsDerFrame (map f sorted) =
      der_still (map unmarked frames) (map f sorted) (subst (λ z. IsPermutation z (map f sorted)) are.octets (IsPermutation-map f members sorted m)) d in (
        subst (λ z. IsPermutation z (map (marked_member k) sorted)) are.pieces (IsPermutation-map (marked_member k) members sorted m),
        subst Ascends (same ∙ sym (images_twice (marked_member k) unmarked sorted)) (sorted_ascend f sorted der up),
      )

-- a span that names octets lies in what is kept
pub span_lies : (k : List ℕ) (i j : ℕ) → 0 < length (octets_in k i j) → (i ≤ j) × (j ≤ length k)
span_lies k i j l = go (nat_le i j && nat_le j (length k)) refl
  where
    go : (b : Bool) → (nat_le i j && nat_le j (length k)) ≡ b → (i ≤ j) × (j ≤ length k)
    go true e = (grind (arith, nat_tests), grind (arith, nat_tests))
    go false e = absurd (let n : length (octets_in k i j) ≡ 0 = ap (λ t. length (if t then take (j - i) (drop i k) else [])) e in omega arith)

pub span_length : (k : List ℕ) (i j : ℕ) → i ≤ j → j ≤ length k → length (octets_in k i j) + i ≡ j
span_length k i j p q =
    let e = ap length (kept_up_to k i j p q) in
    omega (arith, e, length-append (take i k) (octets_in k i j), length-take-le j k q, length-take-le i k (omega arith))

-- cut after the first n
pub span_cut : (k : List ℕ) (i j n : ℕ) → n < length (octets_in k i j) → octets_in k i j ≡ octets_in k i (i + n) ++ octets_in k (i + n) j
span_cut k i j n l =
    let h = span_lies k i j (omega arith) in
    let a = octets_in k i (i + n) in
    let b = octets_in k (i + n) j in
    let m : i + n ≤ j = omega (arith, span_length k i j h.0 h.1) in
    let whole = kept_up_to k (i + n) j m h.1 ∙ (ap (λ z. z ++ b) (kept_up_to k i (i + n) (omega arith) (omega (arith, h.1))) ∙ append_assoc (take i k) a b) in
    (same_parts (take i k) (octets_in k i j) (take i k) (a ++ b) (sym (kept_up_to k i j h.0 h.1) ∙ whole) refl).1

-- a piece is taken from those that are left to the end of those that were taken off
module _ (k : List ℕ) {whole : List Marked} (first left rest : List Piece) (p : Piece) (e : whole ≡ marked_pieces k first ++ stacked k left) (f : left ≡ rest ++ p ∷ []) where
  next_first : whole ≡ (marked_pieces k first ++ marked_piece k p) ++ stacked k rest
  next_first =
      e ∙ (ap (λ z. marked_pieces k first ++ z) (ap (stacked k) f ∙ stacked_more k rest p)
      ∙ sym (append_assoc (marked_pieces k first) (marked_piece k p) (stacked k rest)))

  pub piece_taken : (new : List Piece) → new ≡ first ++ p ∷ [] → whole ≡ marked_pieces k new ++ stacked k rest
  piece_taken new g = next_first ∙ ap (λ z. z ++ stacked k rest) (sym (marked_more k first p) ∙ sym (ap (marked_pieces k) g))

  -- or the first part of it
  pub part_taken : (a b : Piece) (new others : List Piece) → marked_piece k p ≡ marked_piece k a ++ marked_piece k b → new ≡ first ++ a ∷ []
      → others ≡ rest ++ b ∷ [] → whole ≡ marked_pieces k new ++ stacked k others
  part_taken a b new others cut g h =
      let x = marked_pieces k first in
      let y = marked_piece k a in
      let z = marked_piece k b in
      let w = stacked k rest in
      let new_is : marked_pieces k new ≡ x ++ y = ap (marked_pieces k) g ∙ marked_more k first a in
      let others_are : stacked k others ≡ z ++ w = ap (stacked k) h ∙ stacked_more k rest b in
      next_first ∙ (ap (λ v. (x ++ v) ++ w) cut ∙ (append_assoc x (y ++ z) w ∙ (ap (λ v. x ++ v) (append_assoc y z w)
      ∙ (sym (append_assoc x y (z ++ w)) ∙ (ap (λ v. v ++ (z ++ w)) (sym new_is) ∙ ap (λ v. marked_pieces k new ++ v) (sym others_are))))))

pub count_more : (k : List ℕ) (first new : List Piece) (p : Piece) → new ≡ first ++ p ∷ []
    → length (marked_pieces k new) ≡ length (marked_pieces k first) + length (marked_piece k p)
count_more k first new p g = ap length (ap (marked_pieces k) g ∙ marked_more k first p) ∙ length-append (marked_pieces k first) (marked_piece k p)

-- one more at the end, that does not go on where the last one ends
pub joined_more : (ps : List Piece) (p q : Piece) → AreJoined (ps ++ p ∷ []) → (GoesOn p q → ⊥) → AreJoined ((ps ++ p ∷ []) ++ q ∷ [])
joined_more [] p q a n = (n, tt)
joined_more (r ∷ []) p q a n = (a.0, (n, tt))
joined_more (r ∷ s ∷ ps) p q a n = (a.0, joined_more (s ∷ ps) p q a.1 n)

-- another one at the end, that goes on where the last one does
pub joined_changed : (ps : List Piece) (p q : Piece) → AreJoined (ps ++ p ∷ []) → ((r : Piece) → GoesOn r q → GoesOn r p) → AreJoined (ps ++ q ∷ [])
joined_changed [] p q a f = tt
joined_changed (r ∷ []) p q a f = (λ g. a.0 (f r g), tt)
joined_changed (r ∷ s ∷ ps) p q a f = (a.0, joined_changed (s ∷ ps) p q a.1 f)

-- two spans of which one goes on where the other ends
pub spans_joined : (k : List ℕ) (a b c d : ℕ) → (a < b) × (b ≤ length k) → (c < d) × (d ≤ length k) → b ≡ c
    → marked copied (octets_in k a d) ≡ marked copied (octets_in k a b) ++ marked copied (octets_in k c d)
spans_joined k a b c d p q e =
    let first = octets_in k a b in
    let all = kept_up_to k a d (omega (arith, p.0, q.0)) q.1 in
    let parts = kept_up_to k b d (omega (arith, q.0)) q.1 ∙ (ap (λ z. z ++ octets_in k b d) (kept_up_to k a b (omega (arith, p.0)) p.1)
    ∙ append_assoc (take a k) first (octets_in k b d)) in
    let whole = (same_parts (take a k) (octets_in k a d) (take a k) (first ++ octets_in k b d) (sym all ∙ parts) refl).1 in
    ap (marked copied) whole ∙ (marked_both copied first (octets_in k b d) ∙ ap (λ i. marked copied first ++ marked copied (octets_in k i d)) e)

-- all but the last, and the last
module _ (k : List ℕ) (ps : List Piece) (p : Piece) (h : All (HasOctets k) (ps ++ p ∷ [])) where
  pub all_but_last : All (HasOctets k) ps
  all_but_last i d l = subst (HasOctets k) (get_or-append ps (p ∷ []) d i l) (h i d (omega (arith, length-append ps (p ∷ []))))

  pub last_of_all : HasOctets k p
  last_of_all = subst (HasOctets k) (get_or-append_seam ps p [] p) (h (length ps) p (omega (arith, length-append ps (p ∷ []))))
