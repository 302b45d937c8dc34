-- A walk over elements and those inside them.
use Rattle.std.proofs.Common.{◌≡◌, ◌≢◌, ℕ, zero, suc, ◌+◌, ◌-◌, ◌*◌, ◌^◌, ◌<◌, ◌≤◌, List, [], ◌∷◌, ◌++◌, length, take, drop, sum, slice_index_or, set, get_or-set_other, get_or-set_same, length-append, length-drop, Bool, true, false, if◌then◌else◌, refl, sym, ap, subst, ◌∙◌, arith, append_assoc, drop-cons}
use Rattle.std.proofs.lemmas.List.{length-take-le, take-append-drop, drop-drop, take_all}
use Rattle.std.proofs.lemmas.List.Sums.{sum_by-cons}
use Rattle.std.proofs.Math.Seq.{take-append-add, drop-append-add}
use Rattle.cms_tlv.specs.Headers.{AreOctets, IsConstructed, IsShortLength, BeginsWithLength}
use Rattle.cms_tlv.specs.Opaque.{IsFramed, primitive, constructed, AreFramed, none, more}
use Rattle.cms_tlv.specs.internal.Whole.{AreWhole, HasHead, Walks, AreLeft, left_in, around_by, begins_value, short_below}
use Rattle.cms_tlv.proofs.AtHand.{octets_first, by_fits, value_begins, header_of_one, length_1, length_2, length_3}
use Rattle.cms_tlv.proofs.ContentsGives.{octets_back}

-- an element, and then what is left
left_after : (d room k : ℕ) (rs el after xs : List ℕ) → xs ≡ el ++ after → k ≡ length el → k ≤ room → IsFramed el d
    → AreLeft d after ((room - k) ∷ rs) → AreLeft d xs (room ∷ rs)
left_after d room k rs el after xs p n l f a =
    let m : room ≡ length el + (room - k) = omega arith in
    let t : take room xs ≡ el ++ take (room - k) after = ap (take room) p ∙ ap (λ i. take i (el ++ after)) m
    ∙ take-append-add el after (room - k) in
    let r : drop room xs ≡ drop (room - k) after = ap (drop room) p ∙ ap (λ i. drop i (el ++ after)) m
    ∙ drop-append-add el after (room - k) in
    (subst (λ b. AreFramed b d) (sym t) (more f a.0), subst (λ b. AreLeft (d - 1) b rs) (sym r) a.1)

-- What is around.
same_around : (around : List ℕ) (n m v : ℕ) → n < m → around_by (set around m v) n ≡ around_by around n
same_around around zero m v l = refl
same_around around (suc n) m v l =
    let ne : suc n ≢ m = omega arith in
    let first : slice_index_or (set around m v) (suc n) 0 ≡ slice_index_or around (suc n) 0 = get_or-set_other around m (suc n) v 0 ne in
    ap (λ x. x ∷ around_by (set around m v) n) first
    ∙ ap (λ xs. slice_index_or around (suc n) 0 ∷ xs) (same_around around n m v (omega arith))

one_more : (around : List ℕ) (n v : ℕ) → suc n < length around → around_by (set around (suc n) v) (suc n) ≡ v ∷ around_by around n
one_more around n v l =
    let first : slice_index_or (set around (suc n) v) (suc n) 0 ≡ v = get_or-set_same around (suc n) v 0 l in
    ap (λ x. x ∷ around_by (set around (suc n) v) n) first
    ∙ ap (λ xs. v ∷ xs) (same_around around n (suc n) v (omega arith))

-- The walk.
walks_by : (most : ℕ) (octets around : List ℕ) (at room nested : ℕ) → at + sum (left_in around room nested) ≡ length octets
    → nested ≤ most → slice_index_or around 0 0 ≡ 1 → (nested ≡ 0 → room ≡ 1)
    → ((d : ℕ) → d + most ≤ 65 → AreLeft (d + nested - 1) (drop at octets) (left_in around room nested) → AreFramed octets d)
    → Walks most octets around at room nested
walks_by most octets around at room nested e f s o h =
    record { ends = e; few = f; there = fits nested e o; stop = s; out = o; leads = h }
  where
    fits : (n : ℕ) → at + sum (left_in around room n) ≡ length octets → (n ≡ 0 → room ≡ 1) → 2 ≤ room → at + room ≤ length octets
    fits zero e o l = let one : room ≡ 1 = o refl in absurd (omega arith)
    fits (suc n) e o l = omega (arith, e, sum_by-cons (λ x. x) room (around_by around n))

pub begun : (most : ℕ) (octets around : List ℕ) → 1 ≤ most → slice_index_or around 0 0 ≡ 1 → Walks most octets around 0 (length octets) 1
begun most octets around some s =
    walks_by most octets around 0 (length octets) 1 (omega (arith, sum_by-cons (λ x. x) (length octets) [])) some s (λ e. absurd (omega (arith, e)))
    (λ d l a.
    let e : d + 1 - 1 ≡ d = omega arith in
    subst (AreFramed octets) e (subst (λ b. AreFramed b (d + 1 - 1)) (take_all (length octets) octets (omega arith)) a.0))

pub ended : (most levels : ℕ) (octets around : List ℕ) (at room nested : ℕ) → Walks most octets around at room nested → nested ≡ 0
    → most ≤ levels → AreWhole levels octets
ended most levels octets around at room nested w n l d e =
    let start : Walks most octets around at room 0 = subst (λ k. Walks most octets around at room k) n w in
    start.leads d (omega arith) tt

out_by : (most : ℕ) (octets around : List ℕ) (at n : ℕ) → Walks most octets around at 0 (suc n)
    → Walks most octets around at (slice_index_or around n 0) n
out_by most octets around at zero w =
    walks_by most octets around at (slice_index_or around 0 0) 0 (omega (arith, w.ends, sum_by-cons (λ x. x) 0 [])) (omega arith)
    w.stop (λ e. w.stop) (λ d l a. w.leads d l (none (d + 1 - 1), tt))
out_by most octets around at (suc m) w =
    let r : ℕ = slice_index_or around (suc m) 0 in
    walks_by most octets around at r (suc m)
    (omega (arith, w.ends, sum_by-cons (λ x. x) 0 (r ∷ around_by around m))) (omega (arith, w.few))
    w.stop (λ e. absurd (omega (arith, e))) (λ d l a.
    let e : d + suc m - 1 ≡ d + suc (suc m) - 1 - 1 = omega arith in
    w.leads d l (none (d + suc (suc m) - 1), subst (λ j. AreLeft j (drop at octets) (r ∷ around_by around m)) e a))

pub out_of : (most : ℕ) (octets around : List ℕ) (at room nested : ℕ) → Walks most octets around at room nested → room ≡ 0
    → Walks most octets around at (slice_index_or around (nested - 1) 0) (nested - 1)
out_of most octets around at room nested w r =
    let some : nested ≢ 0 = λ z. absurd (omega (arith, w.out z)) in
    let e : nested ≡ suc (nested - 1) = omega arith in
    out_by most octets around at (nested - 1) (subst (λ k. Walks most octets around at 0 k) e
    (subst (λ k. Walks most octets around at k nested) r w))

-- a header, with the contents after it
module _ (i size len at : ℕ) (octets : List ℕ) (h : HasHead octets at i size len) (l : at + (size + len) ≤ length octets) where
  abbrev rest : List ℕ
  rest = drop (at + size) octets

  abbrev element : List ℕ
  element = i ∷ (h.header.sizes ++ take len rest)

  all_there : length (take len rest) ≡ len
  all_there = length-take-le len rest (omega (arith, length-drop (at + size) octets))

  size_of : size ≡ suc (length h.header.sizes)
  size_of = omega (arith, ap length h.header.parts, length-drop at octets, length-drop (at + size) octets, length-append h.header.sizes rest)

  element_size : size + len ≡ length element
  element_size = omega (arith, size_of, all_there, length-append h.header.sizes (take len rest))

  element_parts : drop at octets ≡ element ++ drop len rest
  element_parts = h.header.parts ∙ ap (λ t. i ∷ (h.header.sizes ++ t)) (sym (take-append-drop len rest))
      ∙ ap (λ t. i ∷ t) (sym (append_assoc h.header.sizes (take len rest) (drop len rest)))

  after_element : drop len rest ≡ drop (at + (size + len)) octets
  after_element = let e : at + size + len ≡ at + (size + len) = omega arith in drop-drop len (at + size) octets ∙ ap (λ j. drop j octets) e

  has_length : IsShortLength h.header.sizes (length (take len rest))
  has_length = subst (IsShortLength h.header.sizes) (sym all_there) h.header.is_length

  contents_fit : ((k : ℕ) → slice_index_or octets k 0 < 256) → AreOctets (take len rest)
  contents_fit f =
      let o : AreOctets (take (at + size) octets ++ rest) = subst AreOctets (sym (take-append-drop (at + size) octets)) (by_fits octets f) in
      let p : AreOctets (take len rest ++ drop len rest) = subst AreOctets (sym (take-append-drop len rest)) (octets_back (take (at + size) octets) rest o) in
      octets_first (take len rest) (drop len rest) p

pub past : (most i size len at room nested : ℕ) (octets around : List ℕ) → HasHead octets at i size len
    → Walks most octets around at room nested → 2 ≤ room → size + len ≤ room → (IsConstructed i → ⊥)
    → ((k : ℕ) → slice_index_or octets k 0 < 256) → Walks most octets around (at + (size + len)) (room - (size + len)) nested
past most i size len at room zero octets around h w two fits k f = let one : room ≡ 1 = w.out refl in absurd (omega arith)
past most i size len at room (suc n) octets around h w two fits k f =
    let l : at + (size + len) ≤ length octets = let t = w.there two in omega arith in
    let s : at + (room + sum (around_by around n)) ≡ length octets =
    omega (arith, w.ends, sum_by-cons (λ x. x) room (around_by around n)) in
    walks_by most octets around (at + (size + len)) (room - (size + len)) (suc n)
    (omega (arith, s, sum_by-cons (λ x. x) (room - (size + len)) (around_by around n))) w.few w.stop
    (λ e. absurd (omega (arith, e))) (λ d few a.
    let framed : IsFramed (element i size len at octets h l) (d + suc n - 1) =
    primitive (take len (drop (at + size) octets)) (d + suc n - 1) (omega (arith, w.few)) h.header.is_identifier h.header.not_0 k
    h.header.form (has_length i size len at octets h l) (contents_fit i size len at octets h l f) in
    w.leads d few (left_after (d + suc n - 1) room (size + len) (around_by around n) (element i size len at octets h l)
    (drop (at + (size + len)) octets) (drop at octets)
    (element_parts i size len at octets h l ∙ ap (λ t. element i size len at octets h l ++ t) (after_element i size len at octets h l))
    (element_size i size len at octets h l) fits framed a))

pub into : (most i size len at room nested : ℕ) (octets around : List ℕ) → HasHead octets at i size len
    → Walks most octets around at room nested → 2 ≤ room → size + len ≤ room → IsConstructed i → nested < most
    → nested < length around → Walks most octets (set around nested (room - (size + len))) (at + size) len (nested + 1)
into most i size len at room zero octets around h w two fits k few there = let one : room ≡ 1 = w.out refl in absurd (omega arith)
into most i size len at room (suc n) octets around h w two fits k few there =
    let l : at + (size + len) ≤ length octets = let t = w.there two in omega arith in
    let s : at + (room + sum (around_by around n)) ≡ length octets =
    omega (arith, w.ends, sum_by-cons (λ x. x) room (around_by around n)) in
    let v : ℕ = room - (size + len) in
    let now : List ℕ = set around (suc n) v in
    let next : suc (suc n) ≡ suc n + 1 = omega arith in
    let p : around_by now (suc n) ≡ v ∷ around_by around n = one_more around n v there in
    let total : sum (len ∷ around_by now (suc n)) ≡ len + (v + sum (around_by around n)) =
    sum_by-cons (λ x. x) len (around_by now (suc n)) ∙ ap (λ xs. len + sum xs) p
    ∙ ap (λ x. len + x) (sum_by-cons (λ x. x) v (around_by around n)) in
    let ne : 0 ≢ suc n = omega arith in
    let stop : slice_index_or now 0 0 ≡ 1 = get_or-set_other around (suc n) 0 v 0 ne ∙ w.stop in
    subst (λ j. Walks most octets now (at + size) len j) next (walks_by most octets now (at + size) len (suc (suc n))
    (omega (arith, s, total)) (omega arith) stop (λ e. absurd (omega (arith, e))) (λ d m a.
    let e : d + suc (suc n) - 1 ≡ suc (d + suc n - 1) = omega arith in
    let back : suc (d + suc n - 1) - 1 ≡ d + suc n - 1 = omega arith in
    let b : AreLeft (suc (d + suc n - 1)) (drop (at + size) octets) (len ∷ v ∷ around_by around n) =
    subst (λ j. AreLeft j (drop (at + size) octets) (len ∷ v ∷ around_by around n)) e
    (subst (λ ns. AreLeft (d + suc (suc n) - 1) (drop (at + size) octets) (len ∷ ns)) p a) in
    let framed : IsFramed (element i size len at octets h l) (d + suc n - 1) =
    constructed (omega (arith, w.few)) h.header.is_identifier k h.header.form (has_length i size len at octets h l) b.0 in
    w.leads d m (left_after (d + suc n - 1) room (size + len) (around_by around n) (element i size len at octets h l)
    (drop len (drop (at + size) octets)) (drop at octets) (element_parts i size len at octets h l)
    (element_size i size len at octets h l) fits framed
    (subst (λ j. AreLeft j (drop len (drop (at + size) octets)) (v ∷ around_by around n)) back b.1))))

-- The header.
module _ (octets : List ℕ) (at : ℕ) (f : (k : ℕ) → slice_index_or octets k 0 < 256) where
  cons_at : (i next : ℕ) → next ≡ i + 1 → i < length octets → drop i octets ≡ slice_index_or octets i 0 ∷ drop next octets
  cons_at i next e l = let n : suc i ≡ next = omega arith in drop-cons octets i 0 l ∙ ap (λ j. slice_index_or octets i 0 ∷ drop j octets) n

  head_by : (size len : ℕ) → at < length octets → begins_value (slice_index_or octets at 0) ≡ true
      → BeginsWithLength (drop (at + 1) octets) len (drop (at + size) octets) → size + len < 2 ^ 17
      → HasHead octets at (slice_index_or octets at 0) size len
  head_by size len l b h s =
      let v = value_begins (slice_index_or octets at 0) b in
      record {
        header = header_of_one (slice_index_or octets at 0) len (drop at octets) (drop (at + 1) octets) (drop (at + size) octets)
            (cons_at at (at + 1) refl l) h (f at) v.0 v.1 v.2;
        small = s;
      }

  pub short_head : at + 1 < length octets → begins_value (slice_index_or octets at 0) ≡ true → slice_index_or octets (at + 1) 0 < 0x80
      → HasHead octets at (slice_index_or octets at 0) 2 (slice_index_or octets (at + 1) 0)
  short_head l b s =
      let n : ℕ = slice_index_or octets (at + 1) 0 in
      head_by 2 n (omega arith) b (length_1 n (drop (at + 1) octets) (drop (at + 2) octets) (cons_at (at + 1) (at + 2) (omega arith) l) s)
      (omega arith)

  pub head_of_3 : at + 2 < length octets → begins_value (slice_index_or octets at 0) ≡ true → slice_index_or octets (at + 1) 0 ≡ 0x81
      → 0x80 ≤ slice_index_or octets (at + 2) 0 → HasHead octets at (slice_index_or octets at 0) 3 (slice_index_or octets (at + 2) 0)
  head_of_3 l b e m =
      let n : ℕ = slice_index_or octets (at + 2) 0 in
      let first : drop (at + 1) octets ≡ 0x81 ∷ drop (at + 2) octets =
      cons_at (at + 1) (at + 2) (omega arith) (omega arith) ∙ ap (λ x. x ∷ drop (at + 2) octets) e in
      head_by 3 n (omega arith) b (subst (λ xs. BeginsWithLength xs n (drop (at + 3) octets)) (sym first)
      (length_2 n (cons_at (at + 2) (at + 3) (omega arith) l) m (f (at + 2)))) (omega (arith, f (at + 2)))

  pub head_of_4 : at + 3 < length octets → begins_value (slice_index_or octets at 0) ≡ true → slice_index_or octets (at + 1) 0 ≡ 0x82
      → slice_index_or octets (at + 2) 0 ≢ 0
      → HasHead octets at (slice_index_or octets at 0) 4 (256 * slice_index_or octets (at + 2) 0 + slice_index_or octets (at + 3) 0)
  head_of_4 l b e z =
      let m : ℕ = slice_index_or octets (at + 2) 0 in
      let n : ℕ = slice_index_or octets (at + 3) 0 in
      let first : drop (at + 1) octets ≡ 0x82 ∷ drop (at + 2) octets =
      cons_at (at + 1) (at + 2) (omega arith) (omega arith) ∙ ap (λ x. x ∷ drop (at + 2) octets) e in
      head_by 4 (256 * m + n) (omega arith) b (subst (λ xs. BeginsWithLength xs (256 * m + n) (drop (at + 4) octets)) (sym first)
      (length_3 m n (cons_at (at + 2) (at + 3) (omega arith) (omega arith)) (cons_at (at + 3) (at + 4) (omega arith) l) z (f (at + 2)) (f (at + 3))))
      (omega (arith, f (at + 2), f (at + 3)))

-- what is below it
pub below_short : (t x : ℕ) → x < short_below t → (begins_value t ≡ true) × (x < 0x80)
below_short t x l = go (begins_value t) l
  where
    go : (b : Bool) → x < (if b then 0x80 else 0) → (b ≡ true) × (x < 0x80)
    go true l = (refl, l)
    go false l = absurd (omega arith)
