-- The first octets after a common prefix, as a number, do not contradict the order of octets.
use Rattle.std.proofs.Common.{◌≡◌, ℕ, zero, suc, ◌+◌, ◌<◌, ◌≤◌, List, [], ◌∷◌, ◌++◌, length, take, drop, get_or, map, refl, sym, ◌∙◌, ap, subst, arith, append_assoc, ◌⊎◌, ◌-◌, Bool, true, false, cond}
use mathlib.Core.Logic.{inl, inr}
use Rattle.std.specs.Prelude.{slice_index_or}
use Rattle.std.specs.List.{All}
use Rattle.std.specs.List.Sorted.{IsPermutation, IsSortedBy}
use Rattle.std.proofs.lemmas.List.Sorted.{All-permutation}
use Rattle.std.specs.Ordering.{nat_cmp, ordering_then, is_lt}
use Rattle.std.specs.declared.cmp.Ordering.{Ordering}
use Rattle.std.specs.declared.cmp.Ordering.TheVariants.{Less, Equal, Greater}
use Rattle.std.specs.Cmp.{nat_cmp_is}
use Rattle.std.specs.Cmp.Lexicographic.{slice_cmp}
use Rattle.std.proofs.lemmas.Bool.{cases_lt}
use Rattle.std.proofs.lemmas.List.{take-append-drop, length-append, take_more, map-append, length-take, length-map, get_or-take, get_or-map}
use Rattle.std.proofs.lemmas.Grind.{same_number_lists}
use Rattle.std.proofs.Math.Seq.{drop-append_seam}
use Rattle.cms_tlv.specs.declared.span.Span.{Span}
use Rattle.cms_tlv.specs.Order.{octet_at}
use Rattle.cms_setof.specs.internal.Sorting.{BeginsWith, leading, IsNumbered, AreNumbered, is_before, span_octets, is_below}

-- what both begin with decides nothing
pub behind_prefix : (p a b : List ℕ) → slice_cmp nat_cmp (p ++ a) (p ++ b) ≡ slice_cmp nat_cmp a b
behind_prefix [] a b = refl
behind_prefix (x ∷ p) a b = ap (λ r. ordering_then r (slice_cmp nat_cmp (p ++ a) (p ++ b))) (sym (nat_cmp_is x x Equal refl)) ∙ behind_prefix p a b

-- the first octet that may differ is not above the other's
next_octet : (a b : List ℕ) (n : ℕ) → slice_cmp nat_cmp a b ≡ Less → ((k : ℕ) → k < n → octet_at a k ≡ octet_at b k) → octet_at a n ≤ octet_at b n
next_octet [] b n e f = omega arith
next_octet (x ∷ a) [] n e f = absurd (cc)
next_octet (x ∷ a) (y ∷ b) n e f = go (λ m. next_octet a b m) (cases_lt x y) (cases_lt y x) n f
  where
    go : ((m : ℕ) → slice_cmp nat_cmp a b ≡ Less → ((k : ℕ) → k < m → octet_at a k ≡ octet_at b k) → octet_at a m ≤ octet_at b m)
        → (x < y) ⊎ (y ≤ x) → (y < x) ⊎ (x ≤ y) → (n : ℕ) → ((k : ℕ) → k < n → octet_at (x ∷ a) k ≡ octet_at (y ∷ b) k)
        → octet_at (x ∷ a) n ≤ octet_at (y ∷ b) n
    go h (inl l) _ zero f = omega arith
    go h (inl l) _ (suc n) f = let s = f 0 (omega arith) in absurd (omega arith)
    go h (inr l) (inl m) n f = let t : Less ≡ Greater = sym e
        ∙ ap (λ r. ordering_then r (slice_cmp nat_cmp a b)) (sym (nat_cmp_is x y Greater m)) in absurd (cc)
    go h (inr l) (inr m) zero f = m
    go h (inr l) (inr m) (suc n) f =
        let s : x ≡ y = omega arith in
        h n (ap (λ r. ordering_then r (slice_cmp nat_cmp a b)) (nat_cmp_is x y Equal s) ∙ e) (λ k o. f (suc k) (omega arith))

-- the first n octets of both are equal, or make a smaller number
abbrev Leads : List ℕ → List ℕ → ℕ → Type 0
Leads a b n = (leading n a < leading n b) ⊎ ((leading n a ≡ leading n b) × ((k : ℕ) → k < n → octet_at a k ≡ octet_at b k))

abbrev AllFit : List ℕ → Type 0
AllFit xs = (k : ℕ) → octet_at xs k < 256

up_to : (a b : List ℕ) (n : ℕ) → ((k : ℕ) → k < n → octet_at a k ≡ octet_at b k) → octet_at a n ≡ octet_at b n → (k : ℕ) → k < suc n
    → octet_at a k ≡ octet_at b k
up_to a b n f e k l = go (cases_lt k n)
  where
    go : (k < n) ⊎ (n ≤ k) → octet_at a k ≡ octet_at b k
    go (inl m) = f k m
    go (inr m) = let s : k ≡ n = omega arith in rw s e

leads : (a b : List ℕ) → AllFit a → slice_cmp nat_cmp a b ≡ Less → (n : ℕ) → Leads a b n
leads a b o e zero = inr (refl, (λ k l. absurd (omega arith)))
leads a b o e (suc n) = go (leads a b o e n) (cases_lt (octet_at a n) (octet_at b n))
  where
    go : Leads a b n → (octet_at a n < octet_at b n) ⊎ (octet_at b n ≤ octet_at a n) → Leads a b (suc n)
    go (inl l) _ = let h = o n in inl (omega arith)
    go (inr (s, f)) (inl m) = inl (omega arith)
    go (inr (s, f)) (inr m) =
        let h = next_octet a b n e f in
        let t : octet_at a n ≡ octet_at b n = omega arith in
        inr (omega arith, up_to a b n f t)

-- what is below has no greater number
leading_keeps : (a b : List ℕ) → AllFit a → slice_cmp nat_cmp a b ≡ Less → (n : ℕ) → leading n a ≤ leading n b
leading_keeps a b o e n = go (leads a b o e n)
  where
    go : Leads a b n → leading n a ≤ leading n b
    go (inl l) = omega arith
    go (inr (s, f)) = omega arith

fit_taken : (xs : List ℕ) (n : ℕ) → AllFit xs → AllFit (take n xs)
fit_taken xs zero f k = omega arith
fit_taken [] (suc n) f k = omega arith
fit_taken (x ∷ xs) (suc n) f zero = f 0
fit_taken (x ∷ xs) (suc n) f (suc k) = fit_taken xs n (λ j. f (suc j)) k

fit_dropped : (xs : List ℕ) (n : ℕ) → AllFit xs → AllFit (drop n xs)
fit_dropped xs zero f = f
fit_dropped [] (suc n) f = λ k. omega arith
fit_dropped (x ∷ xs) (suc n) f = fit_dropped xs n (λ j. f (suc j))

fit_where : (b : Bool) (xs : List ℕ) → AllFit xs → AllFit (cond b xs [])
fit_where true xs f = f
fit_where false xs f = λ k. omega arith

-- by a number that is that of eight octets after what both begin with, and then by all octets, is by all octets
not_below : (p a b : List ℕ) (m n : ℕ) → AllFit a → BeginsWith p a → BeginsWith p b → m ≡ leading 8 (drop (length p) a)
    → n ≡ leading 8 (drop (length p) b) → is_lt (ordering_then (nat_cmp m n) (slice_cmp nat_cmp a b)) ≡ false
    → is_lt (slice_cmp nat_cmp a b) ≡ false
not_below p a b m n o (x, f) (y, g) i j h = go (slice_cmp nat_cmp a b) refl
  where
    keeps : slice_cmp nat_cmp a b ≡ Less → m ≤ n
    keeps e =
        let u : drop (length p) a ≡ x = ap (λ z. drop (length p) z) f ∙ drop-append_seam p x in
        let v : drop (length p) b ≡ y = ap (λ z. drop (length p) z) g ∙ drop-append_seam p y in
        let w : slice_cmp nat_cmp a b ≡ slice_cmp nat_cmp x y = ap (λ z. slice_cmp nat_cmp z b) f
        ∙ (ap (λ z. slice_cmp nat_cmp (p ++ x) z) g ∙ behind_prefix p x y) in
        let t : slice_cmp nat_cmp (drop (length p) a) (drop (length p) b) ≡ Less = ap (λ z. slice_cmp nat_cmp z (drop (length p) b)) u
        ∙ (ap (λ z. slice_cmp nat_cmp x z) v ∙ (sym w ∙ e)) in
        rw (i, j) (leading_keeps (drop (length p) a) (drop (length p) b) (fit_dropped a (length p) o) t 8)

    smaller : slice_cmp nat_cmp a b ≡ Less → (m < n) ⊎ (n ≤ m) → is_lt (ordering_then (nat_cmp m n) (slice_cmp nat_cmp a b)) ≡ true
    smaller e (inl l) = ap is_lt (ap (λ r. ordering_then r (slice_cmp nat_cmp a b)) (sym (nat_cmp_is m n Less l)))
    smaller e (inr l) =
        let k = keeps e in
        let s : m ≡ n = omega arith in
        ap is_lt (ap (λ r. ordering_then r (slice_cmp nat_cmp a b)) (sym (nat_cmp_is m n Equal s)) ∙ e)

    go : (r : Ordering) → slice_cmp nat_cmp a b ≡ r → is_lt r ≡ false
    go Less e = let t : true ≡ false = sym (smaller e (cases_lt m n)) ∙ h in cc
    go Equal e = refl
    go Greater e = refl

pub sorted_by_octets : (buffer : List ℕ) (xs : List (ℕ × Span)) → AllFit buffer → AreNumbered buffer xs → IsSortedBy (is_before buffer) xs
    → IsSortedBy (is_below buffer) (map (λ x. x.1) xs)
sorted_by_octets buffer xs o (p, f) h k d l m =
    let n : k + 1 < length xs = omega (arith, length-map xs (λ (x : ℕ × Span). x.1)) in
    let x : ℕ × Span = slice_index_or xs (k + 1) (0, d) in
    let y : ℕ × Span = slice_index_or xs k (0, d) in
    let (b, i) = f (k + 1) (0, d) n in
    let (c, j) = f k (0, d) (omega arith) in
    let e : slice_index_or (map (λ x. x.1) xs) (k + 1) d ≡ x.1 = get_or-map (λ (x : ℕ × Span). x.1) xs (k + 1) (0, d) d n in
    let g : slice_index_or (map (λ x. x.1) xs) k d ≡ y.1 = get_or-map (λ (x : ℕ × Span). x.1) xs k (0, d) d (omega arith) in
    rw (e, g) (not_below p (span_octets buffer x.1) (span_octets buffer y.1) x.0 y.0
    (fit_where _ (take (x.1.end - x.1.start) (drop x.1.start buffer))
    (fit_taken (drop x.1.start buffer) (x.1.end - x.1.start) (fit_dropped buffer x.1.start o))) b c i j (h k (0, d) l n))

-- the octets up to n, and those that follow
pub begins_itself : (xs : List ℕ) (n : ℕ) → BeginsWith (take n xs) xs
begins_itself xs n = (drop n xs, sym (take-append-drop n xs))

pub begins_like : (xs ys : List ℕ) (n : ℕ) → n ≤ length xs → n ≤ length ys → ((k : ℕ) → k < n → octet_at xs k ≡ octet_at ys k) → BeginsWith (take n xs) ys
begins_like xs ys n l m f =
    let e : take n xs ≡ take n ys =
    same_number_lists (take n xs) (take n ys) (omega (arith, length-take n xs, length-take n ys))
    (λ k o. get_or-take n xs k 0 (omega (arith, length-take n xs))
    ∙ (f k (omega (arith, length-take n xs)) ∙ sym (get_or-take n ys k 0 (omega (arith, length-take n xs))))) in
    subst (λ z. BeginsWith z ys) (sym e) (begins_itself ys n)

-- what begins with more octets begins with fewer
pub begins_fewer : (p q xs : List ℕ) → BeginsWith p q → BeginsWith q xs → BeginsWith p xs
begins_fewer p q xs (r, e) (s, f) = (r ++ s, f ∙ (ap (λ z. z ++ s) e ∙ append_assoc p r s))

-- one more, with its number
pub map_push : (xs : List (ℕ × Span)) (spans : List Span) (i n : ℕ) (d : Span) → i < length spans → map (λ x. x.1) xs ≡ take i spans
    → map (λ x. x.1) (xs ++ (n, get_or spans i d) ∷ []) ≡ take (i + 1) spans
map_push xs spans i n d l e = map-append (λ x. x.1) xs ((n, get_or spans i d) ∷ []) ∙ (ap (λ z. z ++ get_or spans i d ∷ []) e ∙ sym (take_more spans i d l))

pub all_numbered : (buffer p : List ℕ) (xs : List (ℕ × Span)) (spans : List Span) → map (λ x. x.1) xs ≡ spans
    → All (λ s. BeginsWith p (span_octets buffer s)) spans → All (IsNumbered buffer (length p)) xs → AreNumbered buffer xs
all_numbered buffer p xs spans e b h = (
  p,
  (λ k d l.
      let s : slice_index_or spans k d.1 ≡ (slice_index_or xs k d).1 = ap (λ z. slice_index_or z k d.1) (sym e)
      ∙ get_or-map (λ (x : ℕ × Span). x.1) xs k d d.1 l in
      (subst (λ z. BeginsWith p (span_octets buffer z)) s (b k d.1 (omega (arith, ap length e, length-map xs (λ (x : ℕ × Span). x.1)))), h k d l)),
)

pub prefix_within : (p xs : List ℕ) → BeginsWith p xs → length p ≤ length xs
prefix_within p xs (r, e) = omega (arith, ap length e, length-append p r)

pub numbered_still : (buffer : List ℕ) (xs ys : List (ℕ × Span)) → IsPermutation xs ys → AreNumbered buffer xs → AreNumbered buffer ys
numbered_still buffer xs ys s (p, h) = (p, All-permutation (λ x. BeginsWith p (span_octets buffer x.1) × IsNumbered buffer (length p) x) xs ys s h)
