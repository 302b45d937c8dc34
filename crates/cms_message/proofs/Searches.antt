-- What is at an index of a list, and what is left from there on.
use Rattle.std.proofs.Common.{◌≡◌, ℕ, zero, suc, ◌<◌, ◌≤◌, List, [], ◌∷◌, length, drop, Some, None, slice_get, refl, sym, ap, arith}

pub behind : {A : Type 0} (xs : List A) (i : ℕ) (x : A) → Some x ≡ slice_get xs i → drop i xs ≡ x ∷ drop (suc i) xs
behind [] i x e = absurd cc
behind (y ∷ xs) zero x e = (let k : x ≡ y = cc in ap (λ z. z ∷ xs) (sym k))
behind (y ∷ xs) (suc i) x e = behind xs i x e

pub there : {A : Type 0} (xs : List A) (i : ℕ) → i < length xs → None ≡ slice_get xs i → ⊥
there [] i l e = omega arith
there (x ∷ xs) zero l e = cc
there (x ∷ xs) (suc i) l e = there xs i (omega arith) e

pub none_left : {A : Type 0} (xs : List A) (i : ℕ) → length xs ≤ i → drop i xs ≡ []
none_left [] zero l = refl
none_left [] (suc i) l = refl
none_left (x ∷ xs) zero l = absurd (omega arith)
none_left (x ∷ xs) (suc i) l = none_left xs i (omega arith)
