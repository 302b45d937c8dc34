-- A permutation of images is the images of a permutation.
use Rattle.std.proofs.Common.{◌≡◌, ℕ, ◌<◌, List, [], ◌∷◌, length, map, set, get_or, refl, sym, ◌∙◌, ap, subst, IsPermutation}
use Rattle.std.specs.List.{swap, AllZip}
use Rattle.std.proofs.lemmas.List.{length-map, map-set, get_or-map}
use Rattle.std.proofs.lemmas.List.Sorted.{IsPermutation-refl, IsPermutation-trans, IsPermutation-map, IsPermutation-swap, IsPermutation-keeps}

module _ {X Y : Type 0} (f : X → Y) where
  swap_mapped : (l : List X) (i j : ℕ) → i < length l → j < length l → map f (swap l i j) ≡ swap (map f l) i j
  swap_mapped [] i j p q = refl
  swap_mapped (x ∷ xs) i j p q =
      let l = x ∷ xs in
      map-set f (set l i (get_or l j x)) j (get_or l i x)
      ∙ (ap (λ z. set z j (f (get_or l i x))) (map-set f l i (get_or l j x) ∙ ap (λ y. set (map f l) i y) (sym (get_or-map f l j x (f x) q)))
      ∙ ap (λ y. set (set (map f l) i (get_or (map f l) j (f x))) j y) (sym (get_or-map f l i x (f x) p)))

  -- what a permutation of the images comes from
  pub record Permuted (xs : List X) (ys : List Y) : Type 0 where
    pub items : List X
    pub permutation : IsPermutation xs items
    pub images : map f items ≡ ys

  pub permuted : (xs : List X) (ys : List Y) → IsPermutation (map f xs) ys → Permuted xs ys
  permuted xs = IsPermutation-keeps (map f xs) (λ l. Permuted xs l)
      (record { items = xs; permutation = IsPermutation-refl xs; images = refl })
      (λ l i j p q h.
      let long : length l ≡ length h.items = sym (ap length h.images) ∙ length-map h.items f in
      let a : i < length h.items = subst (λ n. i < n) long p in
      let b : j < length h.items = subst (λ n. j < n) long q in
      record {
        items = swap h.items i j;
        permutation =
            IsPermutation-trans xs h.items (swap h.items i j) h.permutation (IsPermutation-swap h.items (swap h.items i j) i j a b refl);
        images = swap_mapped h.items i j a b ∙ ap (λ z. swap z i j) h.images;
      })

-- values that go with items, one by one, are permuted with them
module _ {X V : Type 0} (P : X → V → Type 0) where
  abbrev Pair : Type 0
  Pair = (p : X × V) × P p.0 p.1

  pairs : (xs : List X) (vs : List V) → AllZip P xs vs → (ps : List Pair) × (map (λ (p : Pair). p.0.0) ps ≡ xs) × (map (λ (p : Pair). p.0.1) ps ≡ vs)
  pairs [] [] a = ([], refl, refl)
  pairs [] (v ∷ vs) a = absurd a
  pairs (x ∷ xs) [] a = absurd a
  pairs (x ∷ xs) (v ∷ vs) a = let h = pairs xs vs a.1 in (((x, v), a.0) ∷ h.0, ap (λ z. x ∷ z) h.1, ap (λ z. v ∷ z) h.2)

  zipped : (ps : List Pair) → AllZip P (map (λ (p : Pair). p.0.0) ps) (map (λ (p : Pair). p.0.1) ps)
  zipped [] = tt
  zipped (p ∷ ps) = (p.1, zipped ps)

  pub zip_permuted : (xs ys : List X) (vs : List V) → AllZip P xs vs → IsPermutation xs ys → (ws : List V) × AllZip P ys ws × IsPermutation vs ws
  zip_permuted xs ys vs a m =
      let h = pairs xs vs a in
      let r = permuted (λ (p : Pair). p.0.0) h.0 ys (subst (λ z. IsPermutation z ys) (sym h.1) m) in
      let ws = map (λ (p : Pair). p.0.1) r.items in (
        ws,
        subst (λ z. AllZip P z ws) r.images (zipped r.items),
        subst (λ z. IsPermutation z ws) h.2 (IsPermutation-map (λ (p : Pair). p.0.1) h.0 r.items r.permutation),
      )

-- what has equal images by two functions still has, permuted
module _ {X Y : Type 0} (f g : X → Y) where
  pub equal_images : (xs ys : List X) → IsPermutation xs ys → map f xs ≡ map g xs → map f ys ≡ map g ys
  equal_images xs ys m e =
      IsPermutation-keeps xs (λ l. map f l ≡ map g l) e
      (λ l i j p q h. swap_mapped f l i j p q ∙ (ap (λ z. swap z i j) h ∙ sym (swap_mapped g l i j p q))) ys m
