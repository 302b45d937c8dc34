-- What is found among sorted octet strings.
use Rattle.std.proofs.Common.{◌≡◌, ◌<◌, ◌≤◌, ℕ, List, [], ◌∷◌, ◌⊎◌, inl, inr, length, get_or, map, Bool, true, false, ◌||◌, ◌&&◌, cond, Result, Ok, Err, Less, Greater, refl, sym, ap, ◌∙◌, arith}
use Rattle.std.specs.Prelude.{bytes_eq}
use Rattle.std.specs.List.{list_any, filter}
use Rattle.std.specs.List.Sorted.{IsSortedByKey, IsSearchInRange, IsBinarySearchResult, IsPartitionPoint}
use Rattle.std.specs.Cmp.Lexicographic.{slice_cmp, nat_list_cmp_total}
use Rattle.std.specs.Ordering.{nat_cmp, is_eq}
use Rattle.std.specs.Result.{is_ok}
use Rattle.std.proofs.lemmas.Bool.{cases_lt}
use Rattle.std.proofs.lemmas.List.Folds.{list_any_at, list_any_none}
use Rattle.std.proofs.lemmas.List.Sorted.{searchable_from_sorted}
use Rattle.std.proofs.lemmas.Map.Text.{is_eq-slice_cmp}

pub any_map : {A B : Type 0} (f : A → B) (p : B → Bool) (xs : List A) → list_any p (map f xs) ≡ list_any (λ x. p (f x)) xs
any_map f p [] = refl
any_map f p (x ∷ xs) = ap (λ b. p (f x) || b) (any_map f p xs)

pub any_filter : {A : Type 0} (p q : A → Bool) (xs : List A) → list_any p (filter q xs) ≡ list_any (λ x. q x && p x) xs
any_filter p q [] = refl
any_filter p q (x ∷ xs) =
    elim (q x) as (λ b. list_any p (cond b (x ∷ filter q xs) (filter q xs)) ≡ ((b && p x) || list_any (λ x. q x && p x) xs))
    [ true ↦ ap (λ b. p x || b) (any_filter p q xs) | false ↦ any_filter p q xs ]

pub found : {X : Type 0} (octets_of : X → List ℕ) (xs : List X) (octets : List ℕ) (r : Result ℕ ℕ)
    → IsSortedByKey octets_of (slice_cmp nat_cmp) xs → IsSearchInRange r (length xs)
    → IsBinarySearchResult (λ x. slice_cmp nat_cmp (octets_of x) octets) xs r → is_ok r ≡ list_any (λ s. bytes_eq s octets) (map octets_of xs)
found octets_of [] octets (Ok i) sorted l e = absurd (omega (arith, l))
found octets_of (x ∷ xs) octets (Ok i) sorted l e =
    let same : bytes_eq (octets_of (get_or (x ∷ xs) i x)) octets ≡ true = sym (is_eq-slice_cmp _ octets) ∙ ap is_eq (e x) in
    sym (any_map octets_of (λ s. bytes_eq s octets) (x ∷ xs) ∙ list_any_at (λ x. bytes_eq (octets_of x) octets) (x ∷ xs) i x l same)
found octets_of xs octets (Err i) sorted l place =
    sym (any_map octets_of (λ s. bytes_eq s octets) xs ∙ list_any_none (λ x. bytes_eq (octets_of x) octets) xs
    (λ k d k<. apart (place (searchable_from_sorted nat_list_cmp_total octets_of xs octets sorted)) k d k< (cases_lt k i)))
  where
    apart :
        IsPartitionPoint (λ x. slice_cmp nat_cmp (octets_of x) octets ≡ Less) (λ x. slice_cmp nat_cmp (octets_of x) octets ≡ Greater) xs i
        → (k : ℕ) (d : _) → k < length xs → (k < i) ⊎ (i ≤ k) → bytes_eq (octets_of (get_or xs k d)) octets ≡ false
    apart parts k d l (inl b) = sym (is_eq-slice_cmp _ octets) ∙ ap is_eq (parts.0 k d (omega arith) b)
    apart parts k d l (inr b) = sym (is_eq-slice_cmp _ octets) ∙ ap is_eq (parts.1 k d b l)
