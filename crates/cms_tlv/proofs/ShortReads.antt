-- The test for the fewest length octets.
use Rattle.std.proofs.Common.{◌≡◌, inl, inr, ℕ, zero, suc, ◌+◌, ◌*◌, ◌-◌, ◌^◌, ◌<◌, ◌≤◌, true, leb, List, [], ◌∷◌, length, refl, sym, subst, arith}
use Rattle.std.proofs.Math.Nat.{pow-le-pow_right, add-mul}
use Rattle.std.proofs.lemmas.Bool.{leb-true, cases_lt}
use Rattle.cms_tlv.specs.Headers.{AreOctets, IsLength, short, long, IsShortLength, big_endian}
use Rattle.cms_tlv.proofs.Inverse.{leb_yes, and_first, and_second, and_both}
use Rattle.cms_tlv.proofs.HeaderReads.{shortest_by}
use Rattle.cms_tlv.proofs.HeaderLaws.{big_endian_below}

length_one : {l : List ℕ} {n : ℕ} → IsLength l n → 1 ≤ length l
length_one (short h) = omega arith
length_one (long h o) = omega arith

no_fewer : {l : List ℕ} (k n m : ℕ) → 128 ≤ n → 256 ^ k ≤ n → n ≡ m → IsLength l m → suc (suc k) ≤ length l
no_fewer k n m a b e (short h) = absurd (omega arith)
no_fewer k n m a b e (long {d = d} {ds = ds} h o) = elim (cases_lt (length ds) k) [
  | inl lt ↦
      let one : 0 < 256 = omega arith in
      let up : suc (length ds) ≤ k = omega arith in
      let p : 256 ^ suc (length ds) ≤ 256 ^ k = pow-le-pow_right {n = 256} one {i = suc (length ds)} {j = k} up in
      let q : big_endian (d ∷ ds) < 256 ^ suc (length ds) = big_endian_below (d ∷ ds) o in
      absurd (omega arith)
  | inr le ↦ omega arith
]

pub short_sound : {l : List ℕ} {n : ℕ} → IsLength l n → shortest_by l n ≡ true → IsShortLength l n
short_sound (short {n = n} h) t = record { is = short h; least = λ other k. length_one k }
short_sound (long {d = d} {ds = ds} h o) t =
    let n : ℕ = big_endian (d ∷ ds) in
    let z : suc (length ds) - 1 ≡ length ds = omega arith in
    let a : 128 ≤ n = leb-true 128 n (and_first (leb 128 n) (leb (256 ^ (suc (length ds) - 1)) n) t) in
    let b : 256 ^ (suc (length ds) - 1) ≤ n = leb-true (256 ^ (suc (length ds) - 1)) n (and_second (leb 128 n) (leb (256 ^ (suc (length ds) - 1)) n) t) in
    let b' : 256 ^ length ds ≤ n = subst (λ k. 256 ^ k ≤ n) z b in
    record { is = long h o; least = λ other k. no_fewer (length ds) n n a b' refl k }

zero_first : (d b w : ℕ) → d * w + b < w → d ≡ 0
zero_first zero b w h = refl
zero_first (suc d) b w h = absurd (let k = add-mul 1 d w in omega (arith, k))

fills : (d : ℕ) (ds : List ℕ) → length ds < 8 → AreOctets (d ∷ ds)
    → ((other : List ℕ) → IsLength other (big_endian (d ∷ ds)) → suc (suc (length ds)) ≤ length other) → 256 ^ length ds ≤ big_endian (d ∷ ds)
fills d [] h o least = elim (cases_lt (big_endian (d ∷ [])) 1) [
  | inl lt ↦ absurd (let k = least (big_endian (d ∷ []) ∷ []) (short (omega arith)) in omega (arith, k))
  | inr le ↦ le
]
fills d (e ∷ es) h o least = elim (cases_lt (big_endian (d ∷ e ∷ es)) (256 ^ suc (length es))) [
  | inl lt ↦
      let z = zero_first d (big_endian (e ∷ es)) (256 ^ suc (length es)) lt in
      let v : big_endian (e ∷ es) ≡ big_endian (d ∷ e ∷ es) = sym (rw z (omega arith)) in
      absurd (let k = least ((0x81 + length es) ∷ e ∷ es) (subst (λ x. IsLength ((0x81 + length es) ∷ e ∷ es) x) v
      (long (omega arith) o.1)) in omega (arith, k))
  | inr le ↦ le
]

pub short_complete : {l : List ℕ} {n : ℕ} → IsLength l n → ((other : List ℕ) → IsLength other n → length l ≤ length other) → shortest_by l n ≡ true
short_complete (short h) least = refl
short_complete (long {d = d} {ds = ds} h o) least =
    let n : ℕ = big_endian (d ∷ ds) in
    let z : length ds ≡ suc (length ds) - 1 = omega arith in
    let a : 128 ≤ n = elim (cases_lt n 128) [ inl lt ↦ absurd (let k = least (n ∷ []) (short lt) in omega (arith, k)) | inr le ↦ le ] in
    let b : 256 ^ length ds ≤ n = fills d ds h o least in
    let b' : 256 ^ (suc (length ds) - 1) ≤ n = subst (λ k. 256 ^ k ≤ n) z b in
    and_both (leb_yes 128 n a) (leb_yes (256 ^ (suc (length ds) - 1)) n b')
