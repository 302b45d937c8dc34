-- Octets that are compared with pieces, one piece after another.
use Rattle.std.proofs.Common.{◌≡◌, ℕ, List, [], ◌∷◌, ◌++◌, length, take, drop, Bool, true, false, ◌&&◌, refl, sym, ap, ◌∙◌, arith}
use Rattle.std.specs.Prelude.{bytes_eq, ◌==◌}
use Rattle.std.proofs.lemmas.List.{take-append-drop}
use Rattle.std.proofs.lemmas.Slice.Eq.{bytes_eq-Decides}
use Rattle.std.proofs.lemmas.Bool.{eq-eqb, eqb-true}

same_start : (p a b : List ℕ) → bytes_eq (p ++ a) (p ++ b) ≡ bytes_eq a b
same_start [] a b = refl
same_start (y ∷ p) a b = ap (λ t. t && bytes_eq (p ++ a) (p ++ b)) (eq-eqb y y refl) ∙ same_start p a b

-- octets that begin with a piece
pub after_piece : (p a xs : List ℕ) → bytes_eq (take (length p) xs) p ≡ true → bytes_eq a (drop (length p) xs) ≡ bytes_eq (p ++ a) xs
after_piece p a xs h =
    let begins : p ++ drop (length p) xs ≡ xs = ap (λ t. t ++ drop (length p) xs) (sym ((bytes_eq-Decides (take (length p) xs) p).0 h))
    ∙ take-append-drop (length p) xs in
    sym (same_start p a (drop (length p) xs)) ∙ ap (bytes_eq (p ++ a)) begins

no_other : (b : Bool) → (b ≡ true → ⊥) → b ≡ false
no_other true h = absurd (h refl)
no_other false h = refl

taken : (p a : List ℕ) → take (length p) (p ++ a) ≡ p
taken [] a = refl
taken (y ∷ p) a = ap (λ t. y ∷ t) (taken p a)

-- and octets that do not
pub without_piece : (p a xs : List ℕ) → bytes_eq (take (length p) xs) p ≡ false → bytes_eq (p ++ a) xs ≡ false
without_piece p a xs h = no_other (bytes_eq (p ++ a) xs) (λ e.
    let same : take (length p) xs ≡ p = ap (take (length p)) (sym ((bytes_eq-Decides (p ++ a) xs).0 e)) ∙ taken p a in
    both (sym ((bytes_eq-Decides (take (length p) xs) p).1 same) ∙ h))
  where
    both : true ≡ false → ⊥
    both e = cc

pub nothing_left : (xs : List ℕ) → (length xs == 0) ≡ bytes_eq [] xs
nothing_left [] = refl
nothing_left (x ∷ xs) = no_other (length (x ∷ xs) == 0) (λ e. omega (arith, eqb-true (length (x ∷ xs)) 0 e))
