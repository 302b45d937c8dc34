-- The order of the members of a set, decided by a test.
use Rattle.std.proofs.Common.{◌≡◌, ◌⊎◌, inl, inr, ℕ, zero, suc, ◌<◌, Bool, true, false, eqb, ltb, ◌&&◌, ◌||◌, List, [], ◌∷◌, refl, arith}
use Rattle.std.proofs.lemmas.Bool.{or_left, or_right, eqb-true, ltb-true}
use Rattle.cms_tlv.specs.Order.{octet_at, ComesAfter, comes_after}
use Rattle.cms_tlv.proofs.Inverse.{and_first, and_second, and_both, eqb_yes, ltb_yes}

below_suc : (a b : List ℕ) (x y k : ℕ) → x ≡ y → ((j : ℕ) → j < k → octet_at a j ≡ octet_at b j) → (j : ℕ) → j < suc k → octet_at (x ∷ a) j ≡ octet_at (y ∷ b) j
below_suc a b x y k e h zero l = e
below_suc a b x y k e h (suc j) l = h j (omega arith)

pub one_on : (a b : List ℕ) (x y : ℕ) → x ≡ y → ComesAfter a b → ComesAfter (x ∷ a) (y ∷ b)
one_on a b x y e (k, h, l) = (suc k, below_suc a b x y k e h, l)

either_way : (p q : Bool) → (p || q) ≡ true → (p ≡ true) ⊎ (q ≡ true)
either_way true q e = inl refl
either_way false q e = inr e

nothing_at : (j : ℕ) → octet_at [] j ≡ 0
nothing_at zero = refl
nothing_at (suc j) = nothing_at j

pub after_told : (a b : List ℕ) → comes_after a b ≡ true → ComesAfter a b
after_told [] b e = absurd cc
after_told (x ∷ a) [] e = elim (either_way (ltb 0 x) (comes_after a []) e) [
  | inl p ↦ (0, (λ j l. absurd (omega arith)), ltb-true 0 x p)
  | inr p ↦ shifted (after_told a [] p) (either_order x)
]
  where
    either_order : (x : ℕ) → (0 < x) ⊎ (x ≡ 0)
    either_order zero = inr refl
    either_order (suc n) = inl (omega arith)

    shifted : ComesAfter a [] → (0 < x) ⊎ (x ≡ 0) → ComesAfter (x ∷ a) []
    shifted (k, h, l) (inl p) = (0, (λ j l. absurd (omega arith)), p)
    shifted (k, h, l) (inr p) = (suc k, below k p h, l)
      where
        below : (k : ℕ) → x ≡ 0 → ((j : ℕ) → j < k → octet_at a j ≡ octet_at [] j) → (j : ℕ) → j < suc k → octet_at (x ∷ a) j ≡ octet_at [] j
        below k p h zero l = p
        below k p h (suc j) l = h j (omega arith)
after_told (x ∷ a) (y ∷ b) e = elim (either_way (ltb y x) (eqb x y && comes_after a b) e) [
  | inl p ↦ (0, (λ j l. absurd (omega arith)), ltb-true y x p)
  | inr p ↦ one_on a b x y (eqb-true x y (and_first (eqb x y) (comes_after a b) p)) (after_told a b (and_second (eqb x y) (comes_after a b) p))
]

pub told_after : (a b : List ℕ) → ComesAfter a b → comes_after a b ≡ true
told_after [] b (k, h, l) = absurd (let e = nothing_at k in omega arith)
told_after (x ∷ a) [] (zero, h, l) = or_left _ _ (ltb_yes 0 x l)
told_after (x ∷ a) [] (suc k, h, l) = or_right _ _ (told_after a [] (k, (λ j m. h (suc j) (omega arith)), l))
told_after (x ∷ a) (y ∷ b) (zero, h, l) = or_left _ _ (ltb_yes y x l)
told_after (x ∷ a) (y ∷ b) (suc k, h, l) = or_right _ _ (and_both (eqb_yes x y (h 0 (omega arith))) (told_after a b (k, (λ j m. h (suc j) (omega arith)), l)))
