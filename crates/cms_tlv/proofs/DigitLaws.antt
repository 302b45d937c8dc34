-- Digits, and the shortest length octets that are made of them.
use Rattle.std.proofs.Common.{◌≡◌, ℕ, zero, suc, ◌+◌, ◌-◌, ◌*◌, ◌/◌, ◌%◌, ◌^◌, ◌<◌, ◌≤◌, List, [], ◌∷◌, length, drop, slice_set, refl, sym, ◌∙◌, ap, subst, arith, ◌⊎◌}
use Rattle.std.proofs.lemmas.List.{drop-set, length-set, set_comm}
use mathlib.Core.Logic.{inl, inr}
use Rattle.std.proofs.Math.Nat.{pow-suc, pow-le-pow_right, mod-add-div', mul_assoc, mul_comm, add-mul}
use Rattle.std.proofs.lemmas.Nat.{mod_below}
use Rattle.std.proofs.lemmas.Bool.{cases_lt}
use Rattle.cms_tlv.specs.Headers.{AreOctets, IsLength, short, long, IsShortLength, big_endian}
use Rattle.cms_tlv.proofs.HeaderLaws.{big_endian_below}
use Rattle.cms_tlv.specs.internal.Digits.{AreDigits}

-- ds are the last digits of n, and rest is what stands before them
pub record EndsIn (ds : List ℕ) (rest n : ℕ) : Type 0 where
  pub octets : AreOctets ds
  pub value : big_endian ds + rest * 256 ^ length ds ≡ n
  pub fewest : (ds ≡ []) ⊎ (256 ^ length ds ≤ n * 256)

one_row : (w d r b n rest : ℕ) → d + r * 256 ≡ rest → b + rest * w ≡ n → (d * w + b) + r * (w * 256) ≡ n
one_row w d r b n rest e f =
    let g : rest * w ≡ d * w + r * 256 * w = ap (λ x. x * w) (sym e) ∙ add-mul d (r * 256) w in
    let h : r * (w * 256) ≡ r * 256 * w = ap (λ x. r * x) (mul_comm w 256) ∙ sym (mul_assoc r 256 w) in
    omega arith

one_more : (w b rest n : ℕ) → 0 < rest → b + rest * w ≡ n → w ≤ n
one_more w b zero n l e = absurd (omega arith)
one_more w b (suc r) n l e = omega arith

pub more_digits : (ds : List ℕ) (rest n : ℕ) → 0 < rest → EndsIn ds rest n → EndsIn ((rest % 256) ∷ ds) (rest / 256) n
more_digits ds rest n l h = record {
  octets = (mod_below rest 256 (omega arith), h.octets);
  value =
      subst (λ w. ((rest % 256) * 256 ^ length ds + big_endian ds) + (rest / 256) * w ≡ n) (sym (pow-suc 256 (length ds)))
      (one_row (256 ^ length ds) (rest % 256) (rest / 256) (big_endian ds) n rest (mod-add-div' rest 256) h.value);
  fewest = inr (subst (λ w. w ≤ n * 256) (sym (pow-suc 256 (length ds))) (let i = one_more (256 ^ length ds) (big_endian ds) rest n l h.value in omega arith));
}

pub no_digits : (n : ℕ) → EndsIn [] n n
no_digits n = record { octets = tt; value = omega arith; fewest = inl refl }

pub all_digits : (ds : List ℕ) (rest n : ℕ) → rest ≡ 0 → EndsIn ds rest n → AreDigits ds n
all_digits ds rest n e h =
    record {
      octets = h.octets;
      value = (let i : big_endian ds + 0 * 256 ^ length ds
          ≡ n = subst (λ r. big_endian ds + r * 256 ^ length ds ≡ n) e h.value in omega arith);
      fewest = h.fewest;
    }

longer : (i j n : ℕ) → 256 ^ i ≤ n → n < 256 ^ suc j → i ≤ j
longer i j n p q = go (cases_lt j i)
  where
    go : (j < i) ⊎ (i ≤ j) → i ≤ j
    go (inl l) = let h : 256 ^ suc j ≤ 256 ^ i = pow-le-pow_right (omega arith) (omega arith) in absurd (omega arith)
    go (inr l) = l

fewer : (d : ℕ) (ds other : List ℕ) (n : ℕ) → 0x80 ≤ n → 256 ^ length ds ≤ n → IsLength other n → suc (suc (length ds)) ≤ length other
fewer d ds other n l f (short p) = absurd (omega arith)
fewer d ds other n l f (long {d = e} {ds = es} p q) = let h = longer (length ds) (length es) n f (big_endian_below (e ∷ es) q) in omega arith

pub long_length : (d : ℕ) (ds : List ℕ) (n : ℕ) → AreDigits (d ∷ ds) n → 0x80 ≤ n → length ds < 8 → IsShortLength ((0x81 + length ds) ∷ d ∷ ds) n
long_length d ds n h l m =
    record {
      is = subst (IsLength ((0x81 + length ds) ∷ d ∷ ds)) h.value (long m h.octets);
      least = λ other p. fewer d ds other n l (go h.fewest) p;
    }
  where
    go : (d ∷ ds ≡ []) ⊎ (256 ^ length (d ∷ ds) ≤ n * 256) → 256 ^ length ds ≤ n
    go (inl e) = absurd (cc)
    go (inr f) = let i : 256 ^ length ds * 256 ≤ n * 256 = subst (λ w. w ≤ n * 256) (pow-suc 256 (length ds)) f in omega arith

pub short_length : (n : ℕ) → n < 0x80 → IsShortLength (n ∷ []) n
short_length n l = record { is = short l; least = λ other p. some other n p }
  where
    some : (other : List ℕ) (n : ℕ) → IsLength other n → 1 ≤ length other
    some other n (short p) = omega arith
    some other n (long p q) = omega arith

pub same_length : (l m : List ℕ) (n : ℕ) → IsShortLength l n → IsShortLength m n → length l ≡ length m
same_length l m n p q = let h = p.least m q.is in let k = q.least l p.is in omega arith

pub room_left : (k rest : ℕ) → 0 < rest → rest < 256 ^ k → (j : ℕ) × (k ≡ suc j) × (rest / 256 < 256 ^ j)
room_left zero rest l m = absurd (omega arith)
room_left (suc j) rest l m = (j, refl, (let h : rest < 256 ^ j * 256 = subst (λ w. rest < w) (pow-suc 256 j) m in omega arith))

pub long_digits : (ds : List ℕ) (n : ℕ) → AreDigits ds n → 0x80 ≤ n → length ds ≤ 8 → IsShortLength ((0x80 + length ds) ∷ ds) n
long_digits [] n h l m = let e : 0 ≡ n = h.value in absurd (omega arith)
long_digits (d ∷ ds) n h l m = subst (λ x. IsShortLength (x ∷ d ∷ ds) n) (omega arith) (long_length d ds n h l (omega arith))

pub drop_before : (xs : List ℕ) (s a : ℕ) → 0 < s → s ≤ length xs → drop (s - 1) (slice_set xs (s - 1) a) ≡ a ∷ drop s xs
drop_before xs s a l m = let e : s - 1 + 1 ≡ s = omega arith in drop-set xs (s - 1) a (omega arith) ∙ ap (λ k. a ∷ drop k xs) e

pub header_octets : (xs : List ℕ) (s a b : ℕ) → 2 ≤ s → s ≤ length xs → drop (s - 2) (slice_set (slice_set xs (s - 2) a) (s - 1) b) ≡ a ∷ b ∷ drop s xs
header_octets xs s a b l m =
    let ys = slice_set xs (s - 2) a in
    let e : s - 2 + 1 ≡ s - 1 = omega arith in
    let n : length ys ≡ length xs = length-set xs (s - 2) a in
    let c : slice_set ys (s - 1) b ≡ slice_set (slice_set xs (s - 1) b) (s - 2) a = set_comm xs (s - 2) (s - 1) a b (λ q. omega arith) in
    let zs = slice_set xs (s - 1) b in
    ap (drop (s - 2)) c ∙ (drop-set zs (s - 2) a (omega (arith, length-set xs (s - 1) b)) ∙ ap (λ k. a ∷ drop k zs) e
    ∙ ap (λ z. a ∷ z) (drop_before xs s b (omega arith) m))

-- every number below 256 ^ k has at most k digits
digits_there : (k : ℕ) (ds : List ℕ) (rest n : ℕ) → rest < 256 ^ k → EndsIn ds rest n → (es : List ℕ) × AreDigits es n × (length es ≤ length ds + k)
digits_there zero ds rest n l h = (ds, all_digits ds rest n (omega (arith, l)) h, omega arith)
digits_there (suc k) ds zero n l h = (ds, all_digits ds zero n refl h, omega arith)
digits_there (suc k) ds (suc r) n l h =
    let s = room_left (suc k) (suc r) (omega arith) l in
    let e : s.0 ≡ k = omega (arith, s.1) in
    let z = digits_there k ((suc r % 256) ∷ ds) (suc r / 256) n (subst (λ j. suc r / 256 < 256 ^ j) e s.2) (more_digits ds (suc r) n (omega arith) h) in
    (z.0, z.1, omega (arith, z.2))

pub short_length_there : (n : ℕ) → n < 256 ^ 8 → (l : List ℕ) × IsShortLength l n
short_length_there n b = go (cases_lt n 0x80)
  where
    go : (n < 0x80) ⊎ (0x80 ≤ n) → (l : List ℕ) × IsShortLength l n
    go (inl l) = (n ∷ [], short_length n l)
    go (inr l) = let z = digits_there 8 [] n n b (no_digits n) in ((0x80 + length z.0) ∷ z.0, long_digits z.0 n z.1 l z.2)
