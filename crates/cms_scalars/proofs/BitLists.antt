-- Lists of bits, and the bits of octets.
use Rattle.std.proofs.Common.{◌≡◌, ℕ, zero, suc, ◌+◌, ◌-◌, ◌*◌, ◌/◌, ◌%◌, ◌^◌, ◌<◌, ◌≤◌, Bool, true, false, ◌&&◌, ◌||◌, ◌==◌, List, [], ◌∷◌, ◌++◌, length, take, get_or, replicate, nat_lt, w8, refl, sym, ap, subst, ◌∙◌, append_assoc, arith, inl, inr, ◌⊎◌}
use Rattle.std.specs.Prelude.{bytes_eq}
use Rattle.std.specs.Cmp.{first_so, second_so}
use Rattle.std.specs.Int.{trailing_zeros}
use Rattle.std.specs.Int.Count.{count_trailing_zeros}
use Rattle.std.proofs.lemmas.Bool.{cases_lt, ltb-true}
use Rattle.std.proofs.lemmas.List.{append-nil, length-append}
use Rattle.std.proofs.lemmas.Grind.{flat_map-append}
use Rattle.std.proofs.lemmas.Slice.Eq.{bytes_eq-Decides}
use Rattle.std.proofs.Math.Seq.{take-append-add, take-append_seam}
use Rattle.std.proofs.Math.Nat.{div-mul-le_self}
use Rattle.cms_tlv.specs.Headers.{AreOctets}
use Rattle.cms_tlv.proofs.Inverse.{eqb_no}
use Rattle.cms_scalars.specs.Scalars.{bits_of, bits}
use Rattle.cms_scalars.specs.Bits.{AreZeros, HasNoTrailingZero, followed_by, without_trailing_zeros, used_bits}

-- Zeros at the end.
trimmed_zeros : (zs : List ℕ) → AreZeros zs → without_trailing_zeros zs ≡ []
trimmed_zeros [] z = refl
trimmed_zeros (b ∷ bs) z = let e = z.0 in let i = trimmed_zeros bs z.1 in rw (e, i) refl

pub trimmed_append : (a zs : List ℕ) → AreZeros zs → without_trailing_zeros (a ++ zs) ≡ without_trailing_zeros a
trimmed_append [] zs z = trimmed_zeros zs z
trimmed_append (x ∷ a) zs z = ap (followed_by x) (trimmed_append a zs z)

kept : (b : ℕ) (bs : List ℕ) → (b ≡ 0 → bs ≡ [] → ⊥) → followed_by b bs ≡ b ∷ bs
kept zero [] n = absurd (n refl refl)
kept zero (c ∷ bs) n = refl
kept (suc b) bs n = refl

pub trimmed_same : (v : List ℕ) → HasNoTrailingZero v → without_trailing_zeros v ≡ v
trimmed_same [] h = refl
trimmed_same (b ∷ bs) h = ap (followed_by b) (trimmed_same bs (λ p e. h (b ∷ p) (ap (λ t. b ∷ t) e))) ∙ kept b bs (λ e f. h [] (cc (e, f)))

none_ends : (p : List ℕ) → [] ≡ p ++ 0 ∷ [] → ⊥
none_ends [] e = cc
none_ends (x ∷ p) e = cc

followed_ends : (b : ℕ) (w : List ℕ) → HasNoTrailingZero w → HasNoTrailingZero (followed_by b w)
followed_ends zero [] h p e = none_ends p e
followed_ends zero (c ∷ w) h [] e = cc
followed_ends zero (c ∷ w) h (x ∷ p) e = h p (let f : 0 ∷ (c ∷ w) ≡ x ∷ (p ++ 0 ∷ []) = e in cc)
followed_ends (suc b) w h [] e = cc
followed_ends (suc b) w h (x ∷ p) e = h p (let f : suc b ∷ w ≡ x ∷ (p ++ 0 ∷ []) = e in cc)

pub trimmed_ends : (v : List ℕ) → HasNoTrailingZero (without_trailing_zeros v)
trimmed_ends [] = none_ends
trimmed_ends (b ∷ bs) = followed_ends b (without_trailing_zeros bs) (trimmed_ends bs)

followed_splits : (b : ℕ) (bs w zs : List ℕ) → AreZeros zs → bs ≡ w ++ zs → (ys : List ℕ) × AreZeros ys × (b ∷ bs ≡ followed_by b w ++ ys)
followed_splits zero bs [] zs z e = (0 ∷ zs, (refl, z), ap (λ t. 0 ∷ t) e)
followed_splits zero bs (c ∷ w) zs z e = (zs, z, ap (λ t. 0 ∷ t) e)
followed_splits (suc b) bs w zs z e = (zs, z, ap (λ t. suc b ∷ t) e)

pub trimmed_splits : (bs : List ℕ) → (zs : List ℕ) × AreZeros zs × (bs ≡ without_trailing_zeros bs ++ zs)
trimmed_splits [] = ([], tt, refl)
trimmed_splits (b ∷ bs) = let k = trimmed_splits bs in followed_splits b bs (without_trailing_zeros bs) k.0 k.1 k.2

zero_at : (zs : List ℕ) (n : ℕ) → AreZeros zs → get_or zs n 0 ≡ 0
zero_at [] n z = refl
zero_at (b ∷ bs) zero z = z.0
zero_at (b ∷ bs) (suc n) z = zero_at bs n z.1

at_append : (a zs : List ℕ) (n : ℕ) → AreZeros zs → get_or (a ++ zs) n 0 ≡ get_or a n 0
at_append [] zs n z = zero_at zs n z
at_append (x ∷ a) zs zero z = refl
at_append (x ∷ a) zs (suc n) z = at_append a zs n z

trimmed_at : (bs : List ℕ) (n : ℕ) → get_or (without_trailing_zeros bs) n 0 ≡ get_or bs n 0
trimmed_at bs n = let k = trimmed_splits bs in sym (ap (λ t. get_or t n 0) k.2 ∙ at_append (without_trailing_zeros bs) k.0 n k.1)

pub replicate_zeros : (k : ℕ) → AreZeros (replicate k 0)
replicate_zeros zero = tt
replicate_zeros (suc k) = (refl, replicate_zeros k)

pub ends_in_one : (w : List ℕ) → HasNoTrailingZero (w ++ 1 ∷ [])
ends_in_one [] [] e = cc
ends_in_one [] (x ∷ p) e = none_ends p (let f : 1 ∷ [] ≡ x ∷ (p ++ 0 ∷ []) = e in cc)
ends_in_one (y ∷ w) [] e = some w (let f : y ∷ (w ++ 1 ∷ []) ≡ 0 ∷ [] = e in cc)
  where
    some : (w : List ℕ) → w ++ 1 ∷ [] ≡ [] → ⊥
    some [] e = cc
    some (x ∷ w) e = cc
ends_in_one (y ∷ w) (x ∷ p) e = ends_in_one w p (let f : y ∷ (w ++ 1 ∷ []) ≡ x ∷ (p ++ 0 ∷ []) = e in cc)

-- The bits of an octet.
every : ℕ → (ℕ → Bool) → Bool
every zero p = true
every (suc n) p = p n && every n p

every_at : (n : ℕ) (p : ℕ → Bool) → every n p ≡ true → (x : ℕ) → x < n → p x ≡ true
unfolding every
every_at zero p e x l = absurd (omega arith)
every_at (suc n) p e x l = go (every_at n p (second_so (p n) (every n p) e) x) (cases_lt x n)
  where
    go : (x < n → p x ≡ true) → (x < n) ⊎ (n ≤ x) → p x ≡ true
    go f (inl k) = f k
    go f (inr k) = let d : n ≡ x = omega arith in subst (λ t. p t ≡ true) d (first_so (p n) (every n p) e)

-- a shift down and up again clears the last bits
is_cleared : ℕ → ℕ → Bool
is_cleared u x = bytes_eq (bits_of (x / 2 ^ u * 2 ^ u)) (take (8 - u) (bits_of x) ++ replicate u 0)

all_cleared : every 8 (λ u. every 256 (is_cleared u)) ≡ true
unfolding every is_cleared
all_cleared = refl

cleared : (u x : ℕ) → u < 8 → x < 256 → bits_of (x / 2 ^ u * 2 ^ u) ≡ take (8 - u) (bits_of x) ++ replicate u 0
unfolding is_cleared
cleared u x l h = (bytes_eq-Decides _ _).0 (every_at 256 (is_cleared u) (every_at 8 (λ u. every 256 (is_cleared u)) all_cleared u l) x h)

-- after the last bit that is set there are as many zeros as std counts
is_last_set : ℕ → Bool
is_last_set x =
    (x == 0) || nat_lt (trailing_zeros w8 x) 8 && bytes_eq (bits_of x)
    ((take (7 - trailing_zeros w8 x) (bits_of x) ++ 1 ∷ []) ++ replicate (trailing_zeros w8 x) 0)

all_last_set : every 256 is_last_set ≡ true
unfolding every is_last_set count_trailing_zeros
all_last_set = refl

else_so : (b c : Bool) → (b || c) ≡ true → b ≡ false → c ≡ true
else_so true c e f = absurd cc
else_so false c e f = e

pub last_set : (x : ℕ) → 0 < x → x < 256 → (trailing_zeros w8 x < 8)
    × (bits_of x ≡ (take (7 - trailing_zeros w8 x) (bits_of x) ++ 1 ∷ []) ++ replicate (trailing_zeros w8 x) 0)
unfolding is_last_set
last_set x l h =
    let r = bytes_eq (bits_of x) ((take (7 - trailing_zeros w8 x) (bits_of x) ++ 1 ∷ []) ++ replicate (trailing_zeros w8 x) 0) in
    let e = else_so (x == 0) (nat_lt (trailing_zeros w8 x) 8 && r) (every_at 256 is_last_set all_last_set x h) (eqb_no x 0 (λ z. omega arith)) in (
      ltb-true (trailing_zeros w8 x) 8 (first_so (nat_lt (trailing_zeros w8 x) 8) r e),
      (bytes_eq-Decides _ _).0 (second_so (nat_lt (trailing_zeros w8 x) 8) r e),
    )

pub bit_at : (x n : ℕ) → n < 8 → get_or (bits_of x) n 0 ≡ x / 2 ^ (7 - n) % 2
bit_at x zero l = refl
bit_at x (suc zero) l = refl
bit_at x (suc (suc zero)) l = refl
bit_at x (suc (suc (suc zero))) l = refl
bit_at x (suc (suc (suc (suc zero)))) l = refl
bit_at x (suc (suc (suc (suc (suc zero))))) l = refl
bit_at x (suc (suc (suc (suc (suc (suc zero)))))) l = refl
bit_at x (suc (suc (suc (suc (suc (suc (suc zero))))))) l = let e : x / 1 ≡ x = omega arith in ap (λ t. t % 2) (sym e)
bit_at x (suc (suc (suc (suc (suc (suc (suc (suc n)))))))) l = absurd (omega arith)

-- the number that eight bits stand for
number_of : ℕ → ℕ
number_of x =
    ((((((((x / 128) % 2) * 2 + (x / 64) % 2) * 2 + (x / 32) % 2) * 2 + (x / 16) % 2) * 2 + (x / 8) % 2) * 2 + (x / 4) % 2) * 2
    + (x / 2) % 2) * 2 + x % 2

number_is : (x : ℕ) → x < 256 → number_of x ≡ x
unfolding number_of
number_is x h =
    let n7 : (x / 128) % 2 ≡ x / 128 = omega arith in
    let n6 : (x / 128) * 2 + (x / 64) % 2 ≡ x / 64 = omega arith in
    let n5 : (x / 64) * 2 + (x / 32) % 2 ≡ x / 32 = omega arith in
    let n4 : (x / 32) * 2 + (x / 16) % 2 ≡ x / 16 = omega arith in
    let n3 : (x / 16) * 2 + (x / 8) % 2 ≡ x / 8 = omega arith in
    let n2 : (x / 8) * 2 + (x / 4) % 2 ≡ x / 4 = omega arith in
    let n1 : (x / 4) * 2 + (x / 2) % 2 ≡ x / 2 = omega arith in
    let n0 : (x / 2) * 2 + x % 2 ≡ x = omega arith in
    rw (n7, n6, n5, n4, n3, n2, n1, n0) refl

same_octet : (x y : ℕ) (xs ys : List ℕ) → x < 256 → y < 256 → bits_of x ++ xs ≡ bits_of y ++ ys → (x ≡ y) × (xs ≡ ys)
unfolding number_of
same_octet x y xs ys h k e =
    let d : number_of x ≡ number_of y = cc in
    (sym (number_is x h) ∙ d ∙ number_is y k, cc)

pub bits_same : (xs ys : List ℕ) → AreOctets xs → AreOctets ys → bits xs ≡ bits ys → xs ≡ ys
bits_same [] [] a b e = refl
bits_same [] (y ∷ ys) a b e = cc
bits_same (x ∷ xs) [] a b e = cc
bits_same (x ∷ xs) (y ∷ ys) a b e =
    let k = same_octet x y (bits xs) (bits ys) a.0 b.0 e in
    let i = bits_same xs ys a.1 b.1 k.1 in
    cc (k.0, i)

pub length_bits : (xs : List ℕ) → length (bits xs) ≡ 8 * length xs
length_bits [] = refl
length_bits (x ∷ xs) = let i = length_bits xs in omega arith

pub bits_append : (xs : List ℕ) (x : ℕ) → bits (xs ++ x ∷ []) ≡ bits xs ++ bits_of x
bits_append xs x = flat_map-append bits_of xs (x ∷ [])

bits_at : (xs : List ℕ) (n : ℕ) → get_or (bits xs) n 0 ≡ get_or (bits_of (get_or xs (n / 8) 0)) (n % 8) 0
bits_at [] n = sym (zero_at (bits_of 0) (n % 8) (replicate_zeros 8))
bits_at (x ∷ xs) zero = refl
bits_at (x ∷ xs) (suc zero) = refl
bits_at (x ∷ xs) (suc (suc zero)) = refl
bits_at (x ∷ xs) (suc (suc (suc zero))) = refl
bits_at (x ∷ xs) (suc (suc (suc (suc zero)))) = refl
bits_at (x ∷ xs) (suc (suc (suc (suc (suc zero))))) = refl
bits_at (x ∷ xs) (suc (suc (suc (suc (suc (suc zero)))))) = refl
bits_at (x ∷ xs) (suc (suc (suc (suc (suc (suc (suc zero))))))) = refl
bits_at (x ∷ xs) (suc (suc (suc (suc (suc (suc (suc (suc n)))))))) =
    let d : suc (suc (suc (suc (suc (suc (suc (suc n))))))) / 8 ≡ suc (n / 8) = omega arith in
    let m : suc (suc (suc (suc (suc (suc (suc (suc n))))))) % 8 ≡ n % 8 = omega arith in
    rw (d, m) (bits_at xs n)

pub shown_at : (xs : List ℕ) (n : ℕ) → get_or (without_trailing_zeros (bits xs)) n 0 ≡ get_or (bits_of (get_or xs (n / 8) 0)) (n % 8) 0
shown_at xs n = trimmed_at (bits xs) n ∙ bits_at xs n

-- The last octet of those of which some bits are unused.
take_all : (xs : List ℕ) → take (length xs - 0) xs ≡ xs
take_all xs = let e : length xs - 0 ≡ length xs = omega arith in rw e (ap (take (length xs)) (sym (append-nil xs)) ∙ take-append_seam xs [])

pub cleared_last : (u x : ℕ) (front : List ℕ) → u < 8 → x < 256
    → used_bits u (front ++ x ∷ []) ≡ without_trailing_zeros (bits front ++ bits_of (x / 2 ^ u * 2 ^ u))
cleared_last u x front l h =
    let e : length (bits front ++ bits_of x) - u ≡ length (bits front) + (8 - u) = (let k = length-append (bits front) (bits_of x) in omega arith) in
    let t : take (length (bits front ++ bits_of x) - u) (bits front ++ bits_of x) ≡ bits front ++ take (8 - u) (bits_of x) =
    rw e (take-append-add (bits front) (bits_of x) (8 - u)) in
    let z = sym (trimmed_append (bits front ++ take (8 - u) (bits_of x)) (replicate u 0) (replicate_zeros u)) in
    rw (bits_append front x) (ap without_trailing_zeros t ∙ (z
    ∙ ap without_trailing_zeros (append_assoc (bits front) (take (8 - u) (bits_of x)) (replicate u 0)
    ∙ ap (λ t. bits front ++ t) (sym (cleared u x l h)))))

-- what the shifts leave of it, in an octet
shifted : (u x : ℕ) → x < 256 → x / 2 ^ u * 2 ^ u % 256 ≡ x / 2 ^ u * 2 ^ u
shifted u x h = let l = div-mul-le_self x (2 ^ u) in omega arith

-- octets, and the last of them
parted : (xs : List ℕ) → 1 ≤ length xs → xs ≡ take (length xs - 1) xs ++ get_or xs (length xs - 1) 0 ∷ []
parted [] l = absurd (omega arith)
parted (x ∷ []) l = refl
parted (x ∷ y ∷ xs) l =
    let i = parted (y ∷ xs) (omega arith) in
    let e : length (x ∷ y ∷ xs) - 1 ≡ suc (length (y ∷ xs) - 1) = omega arith in
    rw e (ap (λ t. x ∷ t) i)

empty_taken : (n : ℕ) → take {A = ℕ} n [] ≡ []
empty_taken zero = refl
empty_taken (suc n) = refl

pub with_last : (front : List ℕ) (x : ℕ) → AreOctets front → AreOctets (front ++ (x % 256) ∷ [])
with_last [] x o = (omega arith, tt)
with_last (y ∷ ys) x o = (o.0, with_last ys x o.1)

pub front_octets : (n : ℕ) (xs : List ℕ) → AreOctets xs → AreOctets (take n xs)
front_octets zero xs o = tt
front_octets (suc n) [] o = tt
front_octets (suc n) (x ∷ xs) o = (o.0, front_octets n xs o.1)

octet_at : (xs : List ℕ) (n : ℕ) → AreOctets xs → get_or xs n 0 < 256
octet_at [] n o = omega arith
octet_at (x ∷ xs) zero o = o.0
octet_at (x ∷ xs) (suc n) o = octet_at xs n o.1

module _ (u : ℕ) (xs : List ℕ) (l : u < 8) (h : 1 ≤ length xs) (o : AreOctets xs) where
  k : get_or xs (length xs - 1) 0 < 256
  k = octet_at xs (length xs - 1) o

  pub last_dropped : get_or xs (length xs - 1) 0 / 2 ^ u * 2 ^ u % 256 ≡ 0 → used_bits u xs ≡ used_bits 0 (take (length xs - 1) xs)
  last_dropped e =
      let x = get_or xs (length xs - 1) 0 in
      let front = take (length xs - 1) xs in
      let z : x / 2 ^ u * 2 ^ u ≡ 0 = sym (shifted u x k) ∙ e in
      ap (used_bits u) (parted xs h) ∙ (cleared_last u x front l k
      ∙ (rw z (trimmed_append (bits front) (bits_of 0) (replicate_zeros 8) ∙ ap without_trailing_zeros (sym (take_all (bits front))))))

  pub last_kept : used_bits u xs ≡ without_trailing_zeros (bits (take (length xs - 1) xs ++ (get_or xs (length xs - 1) 0 / 2 ^ u * 2 ^ u % 256) ∷ []))
  last_kept =
      let x = get_or xs (length xs - 1) 0 in
      let front = take (length xs - 1) xs in
      let z = shifted u x k in
      ap (used_bits u) (parted xs h) ∙ (cleared_last u x front l k ∙ (rw z (ap without_trailing_zeros (sym (bits_append front (x / 2 ^ u * 2 ^ u))))))

pub none_used : (u : ℕ) (xs : List ℕ) → length xs < 1 → used_bits u xs ≡ []
none_used u [] h = ap without_trailing_zeros (empty_taken (0 - u))
none_used u (x ∷ xs) h = absurd (omega arith)
