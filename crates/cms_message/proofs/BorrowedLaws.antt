-- What views lend of countersignatures.
use Rattle.std.proofs.Common.{◌≡◌, ℕ, suc, List, [], ◌∷◌, map, Option, Some, None, option_map, slice_get, length, refl, sym, ap, ◌∙◌}
use Rattle.std.proofs.lemmas.Option.{slice_get-map}
use Rattle.std.proofs.lemmas.List.{length-map}
use Rattle.cms_fields.specs.Choices.{choice_value}
use Rattle.cms_fields.specs.declared.choice.Choice.{Choice}
use Rattle.cms_fields.specs.declared.choice.Choice.TheVariants as choices
use Rattle.cms_message.specs.declared.countersignature.UnsignedAttributeSpans.{UnsignedAttributeSpans}
use Rattle.cms_message.specs.declared.signer_info.SignerInfoSpans.{SignerInfoSpans}
use Rattle.cms_message.specs.declared.signer_info.SignerSpans.{SignerSpans}
use Rattle.cms_message.specs.Signers.{AnySigner, within, values_by, attribute_by, borrowed_by, borrowed_signer}
use Rattle.cms_message.specs.Spanned.{SpansWithin, spanned_within, signer_spanned, lends, opaque_spanned, unsigned_attribute_spanned, signer_info_spanned}

module _ {X C : Type 0} (any : C → List AnySigner) (show : List ℕ → X → C) (k : List ℕ) where
  abbrev lend : List ℕ → X → List AnySigner
  lend k x = any (show k x)

  values_again : {Y Z : Type 0} (f : Y → X) (g : Z → List (List ℕ)) (z : Choice Y Z)
      → values_by any (choice_value (λ c. show k (f c)) g z) ≡ choice_value (λ c. lend k (f c)) g z
  values_again f g (choices.First c) = refl
  values_again f g (choices.Second v) = refl

  attribute_again : (x : UnsignedAttributeSpans X) → attribute_by any (unsigned_attribute_spanned show k x) ≡ unsigned_attribute_spanned lend k x
  attribute_again x = λ i. ((unsigned_attribute_spanned show k x).0, values_again (λ c. c.0.0.value) (λ v. map (opaque_spanned k) v.0.0) (x.0.0.1) i)

  attributes_again : (xs : List (UnsignedAttributeSpans X))
      → map (attribute_by any) (map (unsigned_attribute_spanned show k) xs) ≡ map (unsigned_attribute_spanned lend k) xs
  attributes_again [] = refl
  attributes_again (x ∷ xs) = λ i. attribute_again x i ∷ attributes_again xs i

  unsigned_again : {Y : Type 0} (f : Y → List (UnsignedAttributeSpans X)) (o : Option Y)
      → option_map (map (attribute_by any)) (option_map (λ u. map (unsigned_attribute_spanned show k) (f u)) o)
      ≡ option_map (λ u. map (unsigned_attribute_spanned lend k) (f u)) o
  unsigned_again f None = refl
  unsigned_again f (Some u) = ap Some (attributes_again (f u))

  pub signer_again : (x : SignerInfoSpans X) → borrowed_by any (signer_info_spanned show k x) ≡ signer_info_spanned lend k x
  signer_again x =
      let s = signer_info_spanned show k x in
      λ i. (s.0, (s.1.0, (s.1.1.0, (s.1.1.1.0, (s.1.1.1.1.0, (s.1.1.1.1.1.0, unsigned_again (λ u. u.0.0) x.0.0.1.1.1.0.1.1.1 i))))))

pub at_depth : (d : ℕ) (k : List ℕ) (xs : List (SignerInfoSpans (SpansWithin d))) (i : ℕ)
    → option_map (signer_info_spanned (lends d) k) (slice_get xs i) ≡ option_map borrowed_signer (slice_get (lends (suc d) k xs) i)
at_depth d k xs i =
    let shown = slice_get-map (signer_info_spanned (spanned_within d) k) xs i in
    let borrowed = slice_get-map (within (suc d)) (spanned_within (suc d) k xs) i in
    go (slice_get xs i) ∙ sym (ap (option_map borrowed_signer) (borrowed ∙ ap (option_map (within (suc d))) shown))
  where
    go :
        (o : Option (SignerInfoSpans (SpansWithin d))) → option_map (signer_info_spanned (lends d) k) o
        ≡ option_map borrowed_signer (option_map (within (suc d)) (option_map (signer_info_spanned (spanned_within d) k) o))
    go None = refl
    go (Some x) = ap Some (sym (signer_again (map (within d)) (spanned_within d) k x))

-- a signer of a message
each_signer :
    (k : List ℕ) (xs : List SignerSpans) → map (borrowed_by (map (within 4))) (map (signer_spanned k) xs)
    ≡ map (λ x. signer_info_spanned (lends 4) k x.0) xs
each_signer k [] = refl
each_signer k (x ∷ xs) = λ i. signer_again (map (within 4)) (spanned_within 4) k x.0 i ∷ each_signer k xs i

pub signer_at : (k : List ℕ) (xs : List SignerSpans) (i : ℕ) (o : Option SignerSpans) → o ≡ slice_get xs i
    → option_map (λ x. signer_info_spanned (lends 4) k x.0) o ≡ slice_get (map (borrowed_by (map (within 4))) (map (signer_spanned k) xs)) i
signer_at k xs i o e = ap (option_map (λ x. signer_info_spanned (lends 4) k x.0)) e
    ∙ (sym (slice_get-map (λ x. signer_info_spanned (lends 4) k x.0) xs i) ∙ ap (λ ys. slice_get ys i) (sym (each_signer k xs)))

pub how_many : (k : List ℕ) (xs : List SignerSpans) → length xs ≡ length (map (borrowed_by (map (within 4))) (map (signer_spanned k) xs))
how_many k xs = sym (length-map _ _) ∙ ap length (sym (each_signer k xs))

pub map_again : {A B C : Type 0} (f : B → C) (g : A → B) (xs : List A) → map (λ x. f (g x)) xs ≡ map f (map g xs)
map_again f g [] = refl
map_again f g (x ∷ xs) = ap (λ t. f (g x) ∷ t) (map_again f g xs)
