-- The value of an INTEGER, octet after octet.
use Rattle.std.proofs.Common.{◌≡◌, ℕ, ◌+◌, ◌*◌, ◌/◌, ◌^◌, ◌<◌, ◌≤◌, List, [], ◌∷◌, length, drop, get_or, Option, Some, None, ◌↔◌, pos, refl, ap, ◌∙◌, arith}
use Rattle.std.proofs.Math.Nat.{pow-suc}
use Rattle.std.proofs.lemmas.List.{drop_all, length-drop}
use Rattle.cms_tlv.specs.Headers.{AreOctets, big_endian}
use Rattle.cms_tlv.proofs.HeaderLaws.{big_endian_below}
use Rattle.cms_scalars.specs.Values.{first_bit, IsTwosComplement}

-- the number that octets go on to, from one that was read
abbrev pub onward : ℕ → List ℕ → ℕ
onward v [] = v
onward v (x ∷ xs) = onward (v * 256 + x) xs

shift : (v x p b : ℕ) → (v * 256 + x) * p + b ≡ v * (p * 256) + (x * p + b)
shift v x p b = grind arith

onward_is : (v : ℕ) (xs : List ℕ) → onward v xs ≡ v * 256 ^ length xs + big_endian xs
onward_is v [] = omega arith
onward_is v (x ∷ xs) = rw pow-suc (onward_is (v * 256 + x) xs ∙ shift v x (256 ^ length xs) (big_endian xs))

-- what was read is no more than what it goes on to
grows : (v : ℕ) (xs : List ℕ) → v ≤ onward v xs
grows v [] = omega arith
grows v (x ∷ xs) = let t = grows (v * 256 + x) xs in omega arith

-- a number of which an octet more would not fit
passes : (v : ℕ) (xs : List ℕ) → 0 < length xs → 2 ^ 56 ≤ v → 2 ^ 64 ≤ onward v xs
passes v [] l h = absurd (omega arith)
passes v (x ∷ xs) l h = let t = grows (v * 256 + x) xs in omega arith

whole : (xs : List ℕ) → onward 0 xs ≡ big_endian xs
whole xs = let t = onward_is 0 xs in omega arith

pub too_large : (xs : List ℕ) (i v : ℕ) → i < length xs → 2 ^ 56 ≤ v → onward 0 xs ≡ onward v (drop i xs) → (n : ℕ)
    → ◌≡◌ {A = Option ℕ} None (Some n) ↔ ((n ≡ big_endian xs) × (n < 2 ^ 64))
too_large xs i v l h e n =
    let w = whole xs in
    let p = passes v (drop i xs) (omega (arith, length-drop i xs)) h in
    (λ z. absurd cc, λ k. absurd (let a = k.0 in let b = k.1 in omega arith))

pub all_read : (xs : List ℕ) (i v : ℕ) → length xs ≤ i → v < 2 ^ 64 → onward 0 xs ≡ onward v (drop i xs) → (n : ℕ)
    → (Some v ≡ Some n) ↔ ((n ≡ big_endian xs) × (n < 2 ^ 64))
all_read xs i v l f e n =
    let w = whole xs in
    let none : drop i xs ≡ [] = drop_all i xs l in
    let k : onward v (drop i xs) ≡ v = rw none refl in
    let s : v ≡ big_endian xs = cc in
    (λ z. (let t : v ≡ n = cc in omega arith, let t : v ≡ n = cc in omega arith), λ q. let a = q.0 in let t : v ≡ n = omega arith in ap Some t)

-- a number that is not negative, by its octets
pub stands : (c : List ℕ) (n : ℕ) → IsTwosComplement c (pos n) → n + first_bit c * 256 ^ length c ≡ big_endian c
stands c n e = cc

pub negative_is_none : (c : List ℕ) → AreOctets c → 1 ≤ length c → 128 ≤ get_or c 0 0 → (n : ℕ)
    → ◌≡◌ {A = Option ℕ} None (Some n) ↔ (IsTwosComplement c (pos n) × (n < 2 ^ 64))
negative_is_none [] o l h n = absurd (omega arith)
negative_is_none (x ∷ xs) o l h n = (
  λ e. absurd cc,
  λ k. absurd (
      let s = stands (x ∷ xs) n k.0 in
      let b = big_endian_below (x ∷ xs) o in
      let one : x / 128 ≡ 1 = (let t = o.0 in omega arith) in
      let t : n + 1 * 256 ^ length (x ∷ xs) ≡ big_endian (x ∷ xs) = rw one at s in
      omega arith),
)

pub not_negative_below : (c : List ℕ) → get_or c 0 0 < 128 → first_bit c ≡ 0
not_negative_below [] l = refl
not_negative_below (x ∷ xs) l = omega arith

-- one that is not negative is the number of its octets
pub value_is : (c : List ℕ) → first_bit c ≡ 0 → (r : Option ℕ) → ((n : ℕ) → (r ≡ Some n) ↔ ((n ≡ big_endian c) × (n < 2 ^ 64))) → (n : ℕ)
    → (r ≡ Some n) ↔ (IsTwosComplement c (pos n) × (n < 2 ^ 64))
value_is c z r h n =
    let zeros : first_bit c * 256 ^ length c ≡ 0 = rw z (omega arith) in (
      λ e. let k = (h n).0 e in let a = k.0 in (let s : n + first_bit c * 256 ^ length c ≡ big_endian c = omega arith in ap pos s, k.1),
      λ k. let s = stands c n k.0 in (h n).1 (omega arith, k.1),
    )
