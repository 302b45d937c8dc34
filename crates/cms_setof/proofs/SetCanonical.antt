-- Encodings of sets are equal exactly if the sets are the same.
use Rattle.std.proofs.Common.{◌≡◌, ℕ, ◌+◌, ◌<◌, ◌≤◌, List, [], ◌∷◌, refl, sym, ◌∙◌, ap, arith, ◌⊎◌, Bool, true, cond}
use mathlib.Core.Logic.{inl, inr}
use Rattle.std.specs.Prelude.{bytes_eq, count_by, ◌==◌}
use Rattle.std.specs.List.{AllByRecursion, AllZip, list_all}
use Rattle.std.specs.Cmp.{first_so, second_so}
use Rattle.std.proofs.lemmas.List.Sums.{sum_by-cons}
use Rattle.std.proofs.lemmas.List.Folds.{list_all-append}
use Rattle.std.proofs.lemmas.Bool.{cases_lt}
use Rattle.std.proofs.lemmas.Bool.Decides.{Decides-eqb}
use Rattle.cms_tlv.specs.Frames.{Frame}
use Rattle.cms_tlv.specs.Order.{Ascends}
use Rattle.cms_tlv.specs.Law.{IsField}
use Rattle.cms_tlv.specs.Spelling.{Rules, der, Spelling, join, members}
use Rattle.cms_tlv.proofs.SpellingLaws.{members_cut}
use Rattle.cms_fields.specs.Canonical.{IsCanonical, IsByDer}
use Rattle.cms_fields.proofs.CanonicalLaws.{canonical_by, both_true}
use Rattle.cms_setof.specs.Same.{same_members}
use Rattle.cms_setof.proofs.AscendingLaws.{count, count_more, at_member, ascending_one}
use Rattle.cms_setof.proofs.SameLaws.{members_equiv}

module _ {P : ℕ → Type 0} {V : Type 0} {R : Spelling V} {s : V → V → Bool} (f : IsField P R) (k : IsCanonical s R) where
  -- the count of what is the same as a value is that of its encoding
  pub same_count : (b : List ℕ) (v : V) (cs : List (List ℕ)) (ws : List V) → R b v → AllZip R cs ws → count_by (s v) ws ≡ count b cs
  same_count b v [] [] r z = refl
  same_count b v [] (w ∷ ws) r z = absurd z
  same_count b v (c ∷ cs) [] r z = absurd z
  same_count b v (c ∷ cs) (w ∷ ws) r z =
      sum_by-cons (λ x. cond (s v x) 1 0) w ws ∙ (ap (λ e. cond e 1 0 + count_by (s v) ws) (sym (k.alike b c v w r z.0))
      ∙ (ap (λ n. cond (bytes_eq b c) 1 0 + n) (same_count b v cs ws r z.1) ∙ sym (count_more b c cs)))

  pub zip_frames : (cs : List (List ℕ)) (ws : List V) → AllZip R cs ws → AllByRecursion Frame cs
  zip_frames [] [] z = tt
  zip_frames [] (w ∷ ws) z = absurd z
  zip_frames (c ∷ cs) [] z = absurd z
  zip_frames (c ∷ cs) (w ∷ ws) z = (f.frame c w z.0, zip_frames cs ws z.1)

  -- a test of each value holds of its encoding, and the other way round
  pub list_to : (p : V → Bool) (Q : List ℕ → Type 0) → ((b : List ℕ) (v : V) → R b v → p v ≡ true → Q b)
      → (cs : List (List ℕ)) (ws : List V) → AllZip R cs ws → list_all p ws ≡ true → AllByRecursion Q cs
  list_to p Q h [] [] z e = tt
  list_to p Q h [] (w ∷ ws) z e = absurd z
  list_to p Q h (c ∷ cs) [] z e = absurd z
  list_to p Q h (c ∷ cs) (w ∷ ws) z e = (h c w z.0 (first_so _ _ e), list_to p Q h cs ws z.1 (second_so _ _ e))

  pub list_from : (p : V → Bool) → ((b : List ℕ) (v : V) → R b v → p v ≡ true) → (cs : List (List ℕ)) (ws : List V) → AllZip R cs ws → list_all p ws ≡ true
  list_from p h [] [] z = refl
  list_from p h [] (w ∷ ws) z = absurd z
  list_from p h (c ∷ cs) [] z = absurd z
  list_from p h (c ∷ cs) (w ∷ ws) z = both_true _ _ (h c w z.0) (list_from p h cs ws z.1)

  -- the encodings of one set are equal exactly if the members are the same with their counts
  pub members_canonical : IsCanonical (same_members s) (members der R)
  members_canonical =
      canonical_by _ (λ b c v w r q. (
        λ e. to r.0 q.0 v w r.2 q.2 (sym r.1 ∙ e ∙ q.1),
        λ e. r.1
            ∙ ap join (from r.0 q.0 v w r.2 q.2 r.3 q.3 e) ∙ sym q.1,
      ))
    where
      to : (bs cs : List (List ℕ)) (vs ws : List V) → AllZip R bs vs → AllZip R cs ws → join bs ≡ join cs → same_members s vs ws ≡ true
      to bs cs vs ws r q e =
          let h = (members_cut f bs cs vs ws r q e).0 in
          let p =
          λ (b : List ℕ) (v : V) (x : R b v). (Decides-eqb (count_by (s v) vs) (count_by (s v) ws)).1
          (same_count b v bs vs x r ∙ (ap (count b) h ∙ sym (same_count b v cs ws x q))) in
          list_all-append (λ v. count_by (s v) vs == count_by (s v) ws) vs ws
          ∙ both_true (list_all (λ v. count_by (s v) vs == count_by (s v) ws) vs)
          (list_all (λ v. count_by (s v) vs == count_by (s v) ws) ws)
          (list_from (λ v. count_by (s v) vs == count_by (s v) ws) p bs vs r)
          (list_from (λ v. count_by (s v) vs == count_by (s v) ws) p cs ws q)

      from : (bs cs : List (List ℕ)) (vs ws : List V) → AllZip R bs vs → AllZip R cs ws → Ascends bs → Ascends cs → same_members s vs ws ≡ true → bs ≡ cs
      from bs cs vs ws r q a d e =
          let h = sym (list_all-append (λ v. count_by (s v) vs == count_by (s v) ws) vs ws) ∙ e in
          let p = λ (b : List ℕ) (v : V) (x : R b v) (e : (count_by (s v) vs == count_by (s v) ws) ≡ true). sym (same_count b v bs vs x r)
          ∙ ((Decides-eqb (count_by (s v) vs) (count_by (s v) ws)).0 e ∙ same_count b v cs ws x q) in
          let m =
          list_to (λ v. count_by (s v) vs == count_by (s v) ws) (λ z. count z bs ≡ count z cs) p bs vs r
          (first_so (list_all (λ v. count_by (s v) vs == count_by (s v) ws) vs)
          (list_all (λ v. count_by (s v) vs == count_by (s v) ws) ws) h) in
          let n =
          list_to (λ v. count_by (s v) vs == count_by (s v) ws) (λ z. count z bs ≡ count z cs) p cs ws q
          (second_so (list_all (λ v. count_by (s v) vs == count_by (s v) ws) vs)
          (list_all (λ v. count_by (s v) vs == count_by (s v) ws) ws) h) in
          ascending_one bs cs (zip_frames bs vs r) (zip_frames cs ws q) a d (λ z. each z m n (cases_lt 0 (count z bs)) (cases_lt 0 (count z cs)))
        where
          each : (z : List ℕ) → AllByRecursion (λ z. count z bs ≡ count z cs) bs → AllByRecursion (λ z. count z bs ≡ count z cs) cs
              → (0 < count z bs) ⊎ (count z bs ≤ 0) → (0 < count z cs) ⊎ (count z cs ≤ 0) → count z bs ≡ count z cs
          each z m n (inl l) _ = at_member (λ z. count z bs ≡ count z cs) z bs m l
          each z m n (inr l) (inl k) = at_member (λ z. count z bs ≡ count z cs) z cs n k
          each z m n (inr l) (inr k) = omega arith

-- What DER spells, BER spells.
zip_within : {V : Type 0} {R S : Spelling V} → ((b : List ℕ) (v : V) → R b v → S b v) → (bs : List (List ℕ)) (vs : List V) → AllZip R bs vs → AllZip S bs vs
zip_within h [] [] z = tt
zip_within h [] (v ∷ vs) z = absurd z
zip_within h (b ∷ bs) [] z = absurd z
zip_within h (b ∷ bs) (v ∷ vs) z = (h b v z.0, zip_within h bs vs z.1)

pub members_by_der : {V : Type 0} {P : ℕ → Type 0} {s : V → V → Bool} {R : Rules → Spelling V} → IsField P (R der) → IsByDer s R
    → IsByDer (same_members s) (λ m. members m (R m))
members_by_der f h =
    record {
      within = λ b vs r. (r.0, r.1, zip_within h.within r.0 vs r.2, tt);
      canonical = members_canonical f h.canonical;
      equivalence = members_equiv h.equivalence;
    }
