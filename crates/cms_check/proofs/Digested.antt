-- Hashers and digests, place by place in their lists.
use Rattle.std.proofs.Common.{◌≡◌, ◌<◌, ◌++◌, ℕ, ◌+◌, List, [], ◌∷◌, length, get_or, take, drop, set, refl, sym, ap, ◌∙◌, subst, append-nil, map, arith}
use Rattle.std.specs.List.{AllZip}
use Rattle.std.proofs.lemmas.List.{take_more, take_more_set, take_all, drop_all, drop_more, drop-set-lt}
use Rattle.cms_check.specs.declared.digests.HashAlg.{HashAlg}
use Rattle.cms_check.specs.declared.digests.Hashed.{Hashed}
use Rattle.cms_check.specs.declared.digesting.Hasher.{Hasher}
use Rattle.cms_check.specs.Digests.{digest_by}
use Rattle.cms_check.specs.Hashers.{AreDigesting, AreDigestsBy, EndsWith, HasTaken, TakesMore, algorithm_of}

pub zip-push : {A B : Type 0} (R : A → B → Type 0) (xs : List A) (ys : List B) (x : A) (y : B) → AllZip R xs ys → R x y → AllZip R (xs ++ x ∷ []) (ys ++ y ∷ [])
zip-push R [] [] x y all r = (r, tt)
zip-push R [] (b ∷ ys) x y all r = absurd all
zip-push R (a ∷ xs) [] x y all r = absurd all
zip-push R (a ∷ xs) (b ∷ ys) x y all r = (all.0, zip-push R xs ys x y all.1 r)

-- each takes the next octets
pub all_take : (octets m : List ℕ) (algorithms : List HashAlg) (old new : List Hasher) → AllZip (TakesMore octets) old new
    → AreDigesting algorithms m old → AreDigesting algorithms (m ++ octets) new
all_take octets m [] [] [] steps all = tt
all_take octets m [] [] (n ∷ ns) steps all = absurd steps
all_take octets m [] (o ∷ os) ns steps all = absurd all
all_take octets m (a ∷ names) [] ns steps all = absurd all
all_take octets m (a ∷ names) (o ∷ os) [] steps all = absurd steps
all_take octets m (a ∷ names) (o ∷ os) (n ∷ ns) steps all = ((steps.0.0 ∙ all.0.0, steps.0.1 m all.0.1), all_take octets m names os ns steps.1 all.1)

-- each ends with its digest
pub all_end : (m : List ℕ) (algorithms : List HashAlg) (hs : List Hasher) (ds : List (HashAlg × Hashed)) → AllZip EndsWith hs ds
    → AreDigesting algorithms m hs → AreDigestsBy algorithms m ds
all_end m [] [] [] ends all = tt
all_end m [] [] (d ∷ ds) ends all = absurd ends
all_end m [] (h ∷ hs) ds ends all = absurd all
all_end m (a ∷ names) [] ds ends all = absurd all
all_end m (a ∷ names) (h ∷ hs) [] ends all = absurd ends
all_end m (a ∷ names) (h ∷ hs) (d ∷ ds) ends all =
    let same : d.0 ≡ a = ends.0.0 ∙ all.0.0 in
    ((same, ends.0.1 m all.0.1 ∙ ap (λ h. digest_by h m) same), all_end m names hs ds ends.1 all.1)

-- one more element of a list that is written in place
pub one_more_written : {A : Type 0} (R : A → A → Type 0) (old now : List A) (i : ℕ) (d y : A) → i < length old → length now ≡ length old
    → R (get_or now i d) y → AllZip R (take i old) (take i now) → drop i now ≡ drop i old
    → AllZip R (take (i + 1) old) (take (i + 1) (set now i y)) × (drop (i + 1) (set now i y) ≡ drop (i + 1) old)
one_more_written R old now i d y l same r all rest =
    let within : i < length now = omega arith in
    let split : get_or now i d ∷ drop (i + 1) now ≡ get_or old i d ∷ drop (i + 1) old = sym (drop_more now i d within) ∙ rest ∙ drop_more old i d l in
    let head : get_or now i d ≡ get_or old i d = cc in
    let tail : drop (i + 1) now ≡ drop (i + 1) old = cc in (
      subst (λ zs. AllZip R zs (take (i + 1) (set now i y))) (sym (take_more old i d l))
          (subst (λ zs. AllZip R (take i old ++ get_or old i d ∷ []) zs) (sym (take_more_set now i y within))
          (zip-push R (take i old) (take i now) (get_or old i d) y all (subst (λ z. R z y) head r))),
      drop-set-lt (i + 1) now i y (omega arith) ∙ tail,
    )

pub whole_written : {A : Type 0} (old new : List A) (n : ℕ) → length new ≡ length old → n ≡ length old → take n (new ++ drop (length new) old) ≡ new
whole_written old new n same all =
    ap (λ rest. take n (new ++ rest)) (drop_all (length new) old (omega arith)) ∙ ap (take n) (append-nil new) ∙ take_all n new (omega arith)

pub one_more_hasher : (algorithms : List HashAlg) (i : ℕ) (d : HashAlg) (hs : List Hasher) (h : Hasher) → i < length algorithms
    → algorithm_of h ≡ get_or algorithms i d → HasTaken h [] → AreDigesting (take i algorithms) [] hs
    → AreDigesting (take (i + 1) algorithms) [] (hs ++ h ∷ [])
one_more_hasher algorithms i d hs h l named none all =
    subst (λ names. AreDigesting names [] (hs ++ h ∷ [])) (sym (take_more algorithms i d l))
    (zip-push (λ a h. (algorithm_of h ≡ a) × HasTaken h []) (take i algorithms) hs (get_or algorithms i d) h all (named, none))

as_they_are : {A : Type 0} (xs : List A) → map (λ x. x) xs ≡ xs
as_they_are [] = refl
as_they_are (x ∷ xs) = ap (λ ys. x ∷ ys) (as_they_are xs)

pub all_ended : (m : List ℕ) (algorithms : List HashAlg) (hs ys : List Hasher) (ds : List (HashAlg × Hashed)) → map (λ y. y) ys ≡ hs
    → AllZip EndsWith ys ds → AreDigesting algorithms m hs → AreDigestsBy algorithms m ds
all_ended m algorithms hs ys ds all ended digesting =
    all_end m algorithms hs ds (subst (λ zs. AllZip EndsWith zs ds) (sym (as_they_are ys) ∙ all) ended) digesting
