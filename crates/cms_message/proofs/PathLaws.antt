-- The covers of a message are those along its paths.
use Rattle.std.proofs.Common.{◌≡◌, ◌⊎◌, inl, inr, ℕ, zero, suc, List, [], ◌∷◌, ◌++◌, map, Option, Some, None, option_map, slice_get, refl, sym, ap, subst, ◌∙◌}
use Rattle.std.specs.Prelude.{option_to_list}
use Rattle.std.specs.List.{flat_map}
use Rattle.std.specs.Option.{option_and_then}
use Rattle.std.proofs.lemmas.List.{append-nil, map-append}
use Rattle.std.proofs.lemmas.List.Concat.{flat_map-cons}
use Rattle.std.proofs.lemmas.Grind.{flat_map-append}
use Rattle.std.proofs.lemmas.Option.{slice_get-map}
use Rattle.cms_fields.specs.Received.{in_either}
use Rattle.cms_message.specs.Countersignatures.{UnsignedAttribute}
use Rattle.cms_message.specs.SignerInfo.{SignerWithin, signature, unsigned_attrs}
use Rattle.cms_message.specs.Signers.{AnySigner, BorrowedSigner, within, attribute_by, borrowed_by, borrowed_signer, countersignatures, countersignatures_in, in_option_of, below}
use Rattle.cms_message.specs.Cover.{Covered, cover_from, covers_within, signer_from}

-- Elements of lists.
abbrev pub Among : {A : Type 0} → A → List A → Type 0
Among p [] = ⊥
Among p (x ∷ xs) = (x ≡ p) ⊎ Among p xs

pub at_index : {A : Type 0} (p : A) (xs : List A) → Among p xs → (i : ℕ) × (slice_get xs i ≡ Some p)
at_index p [] h = absurd h
at_index p (x ∷ xs) (inl e) = (zero, ap Some e)
at_index p (x ∷ xs) (inr h) = let k = at_index p xs h in (suc k.0, k.1)

some_same : {A : Type 0} {x y : A} → Option.Some x ≡ Some y → x ≡ y
some_same e = cc

pub from_index : {A : Type 0} (p : A) (xs : List A) (i : ℕ) → slice_get xs i ≡ Some p → Among p xs
from_index p [] i e = absurd cc
from_index p (x ∷ xs) zero e = inl (some_same e)
from_index p (x ∷ xs) (suc i) e = inr (from_index p xs i e)

either_part : {A : Type 0} (p : A) (xs ys : List A) → Among p (xs ++ ys) → Among p xs ⊎ Among p ys
either_part p [] ys h = inr h
either_part p (x ∷ xs) ys (inl e) = inl (inl e)
either_part p (x ∷ xs) ys (inr h) = elim (either_part p xs ys h) [ inl a ↦ inl (inr a) | inr b ↦ inr b ]

pub first_part : {A : Type 0} (p : A) (xs ys : List A) → Among p xs → Among p (xs ++ ys)
first_part p [] ys h = absurd h
first_part p (x ∷ xs) ys (inl e) = inl e
first_part p (x ∷ xs) ys (inr h) = inr (first_part p xs ys h)

pub second_part : {A : Type 0} (p : A) (xs ys : List A) → Among p ys → Among p (xs ++ ys)
second_part p [] ys h = h
second_part p (x ∷ xs) ys h = inr (second_part p xs ys h)

-- what f gives of the element at an index
pub record AtIndex {A B : Type 0} (f : A → List B) (xs : List A) (p : B) : Type 0 where
  pub index : ℕ
  pub item : A
  pub there : slice_get xs index ≡ Some item
  pub among : Among p (f item)

pub of_one : {A B : Type 0} (f : A → List B) (xs : List A) (p : B) → Among p (flat_map f xs) → AtIndex f xs p
of_one f [] p h = absurd h
of_one f (x ∷ xs) p h = elim (either_part p (f x) (flat_map f xs) (subst (Among p) (flat_map-cons f x xs) h)) [
  | inl a ↦ record { index = zero; item = x; there = refl; among = a }
  | inr b ↦ let k = of_one f xs p b in record { index = suc k.index; item = k.item; there = k.there; among = k.among }
]

pub of_all : {A B : Type 0} (f : A → List B) (xs : List A) (p : B) (i : ℕ) (x : A) → slice_get xs i ≡ Some x → Among p (f x) → Among p (flat_map f xs)
of_all f [] p i x e h = absurd cc
of_all f (y ∷ xs) p zero x e h =
    subst (Among p) (sym (flat_map-cons f y xs)) (first_part p (f y) (flat_map f xs) (subst (λ z. Among p (f z)) (sym (some_same e)) h))
of_all f (y ∷ xs) p (suc i) x e h = subst (Among p) (sym (flat_map-cons f y xs)) (second_part p (f y) (flat_map f xs) (of_all f xs p i x e h))

-- Countersignatures.
module _ {S : Type 0} where
  unfoldable pub of_attribute : UnsignedAttribute (List S) → List S
  of_attribute a = in_either (λ cs. cs) (λ vs. []) a.1

  unfoldable pub of_attributes : Option (List (UnsignedAttribute (List S))) → List S
  of_attributes None = []
  of_attributes (Some bs) = flat_map of_attribute bs

  module _ (w : S → AnySigner) where
    one_below : (a : UnsignedAttribute (List S)) → countersignatures (attribute_by (map w) a) ≡ map w (of_attribute a)
    unfolding of_attribute
    one_below (t, inl cs) = refl
    one_below (t, inr vs) = refl

    all_below : (bs : List (UnsignedAttribute (List S))) → countersignatures_in (map (attribute_by (map w)) bs) ≡ map w (flat_map of_attribute bs)
    all_below [] = refl
    all_below (a ∷ bs) = flat_map-cons countersignatures (attribute_by (map w) a) (map (attribute_by (map w)) bs)
        ∙ ap (λ t. t ++ countersignatures_in (map (attribute_by (map w)) bs)) (one_below a)
        ∙ ap (λ t. map w (of_attribute a) ++ t) (all_below bs) ∙ sym (map-append w (of_attribute a) (flat_map of_attribute bs))
        ∙ ap (map w) (sym (flat_map-cons of_attribute a bs))

  module _ {B : Type 0} (g : S → List B) where
    one_covered : (a : UnsignedAttribute (List S)) → in_either (flat_map g) (λ vs. []) a.1 ≡ flat_map g (of_attribute a)
    unfolding of_attribute
    one_covered (t, inl cs) = refl
    one_covered (t, inr vs) = refl

    some_covered : (bs : List (UnsignedAttribute (List S))) → flat_map (λ a. in_either (flat_map g) (λ vs. []) a.1) bs ≡ flat_map g (flat_map of_attribute bs)
    some_covered [] = refl
    some_covered (a ∷ bs) = flat_map-cons (λ a. in_either (flat_map g) (λ vs. []) a.1) a bs
        ∙ ap (λ t. t ++ flat_map (λ a. in_either (flat_map g) (λ vs. []) a.1) bs) (one_covered a)
        ∙ ap (λ t. flat_map g (of_attribute a) ++ t) (some_covered bs)
        ∙ sym (flat_map-append g (of_attribute a) (flat_map of_attribute bs)) ∙ ap (flat_map g) (sym (flat_map-cons of_attribute a bs))

    all_covered : (o : Option (List (UnsignedAttribute (List S))))
        → flat_map (flat_map (λ a. in_either (flat_map g) (λ vs. []) a.1)) (option_to_list o) ≡ flat_map g (of_attributes o)
    unfolding of_attributes
    all_covered None = refl
    all_covered (Some bs) = flat_map-cons (flat_map (λ a. in_either (flat_map g) (λ vs. []) a.1)) bs []
        ∙ append-nil (flat_map (λ a. in_either (flat_map g) (λ vs. []) a.1) bs) ∙ some_covered bs

-- the countersignatures of a signer
abbrev pub inside : (d : ℕ) → SignerWithin (suc d) → List (SignerWithin d)
inside d s = of_attributes (unsigned_attrs s)

abbrev pub borrowed : (d : ℕ) → SignerWithin (suc d) → BorrowedSigner
borrowed d s = borrowed_by (map (within d)) s

borrowed_below : (d : ℕ) (s : SignerWithin (suc d)) → below (borrowed d s) ≡ map (within d) (inside d s)
unfolding of_attributes
borrowed_below d s = go (unsigned_attrs s)
  where
    go : (o : Option (List (UnsignedAttribute (List (SignerWithin d)))))
        → in_option_of countersignatures_in (option_map (map (attribute_by (map (within d)))) o) ≡ map (within d) (of_attributes o)
    go None = refl
    go (Some bs) = all_below (within d) bs

pub at_below : (d : ℕ) (s : SignerWithin (suc d)) (i : ℕ) → slice_get (below (borrowed d s)) i ≡ option_map (within d) (slice_get (inside d s) i)
at_below d s i = ap (λ xs. slice_get xs i) (borrowed_below d s) ∙ slice_get-map (within d) (inside d s) i

-- a cover and a signature at a path
abbrev pub Along : BorrowedSigner → Option (List ℕ) → List ℕ → Covered → Type 0
Along s content path p = (cover_from s content path ≡ Some p.0) × (option_map signature (signer_from s path) ≡ Some p.1)

-- at an index, and then at the path
pub after_index : (s c : BorrowedSigner) (content : Option (List ℕ)) (i : ℕ) (a : AnySigner) (path : List ℕ) (p : Covered)
    → slice_get (below s) i ≡ Some a → borrowed_signer a ≡ c → Along c (Some (signature s)) path p → Along s content (i ∷ path) p
after_index s c content i a path p e k h = (
  ap (option_and_then (λ x. cover_from (borrowed_signer x) (Some (signature s)) path)) e ∙ ap (λ x. cover_from x (Some (signature s)) path) k ∙ h.0,
  ap (option_map signature) (ap (option_and_then (λ x. signer_from (borrowed_signer x) path)) e ∙ ap (λ x. signer_from x path) k) ∙ h.1,
)

pub to_path : (d : ℕ) (content : Option (List ℕ)) (s : SignerWithin (suc d)) (p : Covered) → Among p (covers_within (suc d) content s)
    → (path : List ℕ) × Along (borrowed d s) content path p
to_path d content s p (inl e) = ([], (ap (λ (q : Covered). Some q.0) e, ap (λ (q : Covered). Some q.1) e))
to_path zero content s p (inr h) =
    absurd (of_one (covers_within zero (Some (signature s))) (inside zero s) p
    (subst (Among p) (all_covered (covers_within zero (Some (signature s))) (unsigned_attrs s)) h)).item
to_path (suc d) content s p (inr h) =
    let k =
    of_one (covers_within (suc d) (Some (signature s))) (inside (suc d) s) p
    (subst (Among p) (all_covered (covers_within (suc d) (Some (signature s))) (unsigned_attrs s)) h) in
    let deeper = to_path d (Some (signature s)) k.item p k.among in (
      k.index ∷ deeper.0,
      after_index (borrowed (suc d) s) (borrowed d k.item) content k.index (d, k.item) deeper.0 p
          (at_below (suc d) s k.index ∙ ap (option_map (within (suc d))) k.there) refl deeper.1,
    )

pub none_here : {A B : Type 0} (f : A → Option B) {o : Option A} {y : B} → o ≡ None → option_and_then f o ≡ Some y → ⊥
none_here f e h = let k = sym (ap (option_and_then f) e) ∙ h in cc

from_inside : (d : ℕ) (content : Option (List ℕ)) (s : SignerWithin (suc d)) (p : Covered) (i : ℕ) (path : List ℕ)
    → ((c : SignerWithin d) → Along (borrowed_signer (within d c)) (Some (signature s)) path p
    → Among p (covers_within d (Some (signature s)) c)) → (o : Option (SignerWithin d)) → slice_get (inside d s) i ≡ o
    → Along (borrowed d s) content (i ∷ path) p → Among p (flat_map (covers_within d (Some (signature s))) (inside d s))
from_inside d content s p i path deeper None e h =
    absurd (none_here (λ x. cover_from (borrowed_signer x) (Some (signature s)) path) (at_below d s i ∙ ap (option_map (within d)) e) h.0)
from_inside d content s p i path deeper (Some c) e h =
    let there = at_below d s i ∙ ap (option_map (within d)) e in
    of_all (covers_within d (Some (signature s))) (inside d s) p i c e (deeper c (
      sym (ap (option_and_then (λ x. cover_from (borrowed_signer x) (Some (signature s)) path)) there) ∙ h.0,
      sym (ap (λ o. option_map signature (option_and_then (λ x. signer_from (borrowed_signer x) path) o)) there) ∙ h.1,
    ))

pub from_path : (d : ℕ) (content : Option (List ℕ)) (s : SignerWithin (suc d)) (p : Covered) (path : List ℕ)
    → Along (borrowed d s) content path p → Among p (covers_within (suc d) content s)
from_path d content s p [] h = inl (λ i. (some_same h.0 i, some_same h.1 i))
from_path zero content s p (i ∷ path) h =
    inr (subst (Among p) (sym (all_covered (covers_within zero (Some (signature s))) (unsigned_attrs s)))
    (from_inside zero content s p i path (λ c a. absurd c) (slice_get (inside zero s) i) refl h))
from_path (suc d) content s p (i ∷ path) h =
    inr (subst (Among p) (sym (all_covered (covers_within (suc d) (Some (signature s))) (unsigned_attrs s)))
    (from_inside (suc d) content s p i path (λ c a. from_path d (Some (signature s)) c p path a) (slice_get (inside (suc d) s) i) refl h))
