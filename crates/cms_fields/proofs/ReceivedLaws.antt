-- What is written as it was received: it lies in what spells a value, and equally often in what is the same.
use Rattle.std.proofs.Common.{◌≡◌, inl, inr, ◌⊎◌, ℕ, ◌+◌, ◌<◌, ◌≤◌, Bool, true, false, cond, ◌&&◌, List, [], ◌∷◌, ◌++◌, Option, Some, None, option_to_list, bytes_eq, count_by, flat_map, refl, sym, ap, subst, ◌∙◌, arith, append_assoc}
use Rattle.std.specs.Prelude.{IfSome}
use Rattle.std.specs.List.{AllZip}
use Rattle.std.specs.Option.{option_eq}
use Rattle.std.specs.Cmp.{first_so, second_so}
use Rattle.std.proofs.lemmas.Bool.{cases_lt}
use Rattle.std.proofs.lemmas.List.{append-nil}
use Rattle.std.proofs.lemmas.List.Sums.{sum_by-append, sum_by-cons}
use Rattle.std.proofs.lemmas.Slice.Eq.{bytes_eq-Decides}
use Rattle.cms_tlv.specs.Frames.{IsElement, of_length, to_end}
use Rattle.cms_tlv.specs.Spelling.{Rules, der, Spelling, element, ◌⨟◌, optional, either, members, join, with_octets, ◌where_value◌}
use Rattle.cms_tlv.proofs.SpellingLaws.{element_by}
use Rattle.cms_fields.specs.Canonical.{IsCanonical}
use Rattle.cms_fields.specs.Grammar.{Grammar, already_der, is_either}
use Rattle.cms_fields.specs.Received.{as_received, IsPart, times, in_option, in_either, ArePartsOf, CountedAlike}
use Rattle.cms_fields.specs.Choices.{same_choice}
use Rattle.cms_fields.specs.Selected.{then_by_value, either_by}

-- Parts.

within : (z c b : List ℕ) → IsPart z c → IsPart c b → IsPart z b
within z c b (x, y, e) (u, v, k) = (
  u ++ x,
  y ++ v,
  k ∙ ap (λ t. u ++ (t ++ v)) e ∙ ap (λ t. u ++ t) (append_assoc x (z ++ y) v ∙ ap (λ t. x ++ t) (append_assoc z y v))
      ∙ sym (append_assoc u x (z ++ (y ++ v))),
)

on_the_left : (z a b : List ℕ) → IsPart z a → IsPart z (a ++ b)
on_the_left z a b (x, y, e) = (x, y ++ b, ap (λ t. t ++ b) e ∙ append_assoc x (z ++ y) b ∙ ap (λ t. x ++ t) (append_assoc z y b))

on_the_right : (z a b : List ℕ) → IsPart z b → IsPart z (a ++ b)
on_the_right z a b (x, y, e) = (a ++ x, y, ap (λ t. a ++ t) e ∙ sym (append_assoc a x (z ++ y)))

contents_part : {b c : List ℕ} {id : ℕ} → IsElement b id c → IsPart c b
contents_part {id = id} (of_length {l = l} c n) = (id ∷ l, [], ap (λ t. id ∷ (l ++ t)) (sym (append-nil c)))
contents_part {id = id} (to_end c k) = (id ∷ 0x80 ∷ [], 0 ∷ 0 ∷ [], refl)

times_append : (z : List ℕ) (xs ys : List (List ℕ)) → times z (xs ++ ys) ≡ times z xs + times z ys
times_append z xs ys = sum_by-append (λ x. cond (bytes_eq z x) 1 0) xs ys

times_more : (z x : List ℕ) (xs : List (List ℕ)) → times z (x ∷ xs) ≡ cond (bytes_eq z x) 1 0 + times z xs
times_more z x xs = sum_by-cons (λ x. cond (bytes_eq z x) 1 0) x xs

among_either : (z : List ℕ) (xs ys : List (List ℕ)) → 0 < times z (xs ++ ys) → (0 < times z xs) ⊎ (0 < times z ys)
among_either z xs ys h = go (cases_lt 0 (times z xs))
  where
    go : (0 < times z xs) ⊎ (times z xs ≤ 0) → (0 < times z xs) ⊎ (0 < times z ys)
    go (inl l) = inl l
    go (inr l) = inr (let e = times_append z xs ys in omega (arith, e, h, l))

itself : (z x : List ℕ) → 0 < times z (x ∷ []) → z ≡ x
itself z x h = go (bytes_eq z x) refl
  where
    go : (b : Bool) → bytes_eq z x ≡ b → z ≡ x
    go true e = (bytes_eq-Decides z x).0 e
    go false e =
        absurd (let k : times z (x ∷ []) ≡ 0 + times z [] = times_more z x [] ∙ ap (λ b. cond b 1 0 + times z []) e in
        let n : times z [] ≡ 0 = refl in omega (arith, h, k, n))

whole : (z x : List ℕ) → 0 < times z (x ∷ []) → IsPart z x
whole z x h = ([], [], sym (itself z x h) ∙ sym (append-nil z))

pub singles : (vs : List (List ℕ)) → flat_map (λ v. v ∷ []) vs ≡ vs
singles [] = refl
singles (v ∷ vs) = ap (λ t. v ∷ t) (singles vs)

pub no_parts : {V : Type 0} {R : Spelling V} → ArePartsOf R (λ v. [])
no_parts = record { are_parts = λ b v s z h. absurd (omega arith) }

pub received_parts : {P : List ℕ → Type 0} → ArePartsOf (as_received P) (λ v. v ∷ [])
received_parts = record { are_parts = λ b v s z h. subst (IsPart z) (sym s.0) (whole z v h) }

pub octets_parts : {V : Type 0} (R : Spelling V) → ArePartsOf (with_octets R) (λ v. v.0 ∷ [])
octets_parts R = record { are_parts = λ b v s z h. subst (IsPart z) (sym s.0) (whole z v.0 h) }

module _ {V : Type 0} {R : Spelling V} {f : V → List (List ℕ)} (p : ArePartsOf R f) where
  pub element_parts : (m : Rules) (id : ℕ) → ArePartsOf (element m id R) f
  element_parts m id = record { are_parts = λ b v s z h. within z s.0 b (p.are_parts s.0 v s.2 z h) (contents_part (element_by m s.1)) }

  pub optional_parts : ArePartsOf (optional R) (in_option f)
  optional_parts = record { are_parts = go }
    where
      go : (b : List ℕ) (o : Option V) → optional R b o → (z : List ℕ) → 0 < times z (in_option f o) → IsPart z b
      go b None s z h = absurd (omega arith)
      go b (Some v) s z h = p.are_parts b v s z (let e = times_append z (f v) [] in let n : times z [] ≡ 0 = refl in omega (arith, e, n, h))

  pub where_parts : (Q : V → Type 0) → ArePartsOf (R where_value Q) f
  where_parts Q = record { are_parts = λ b v s z h. p.are_parts b v s.0 z h }

  row_parts : (bs : List (List ℕ)) (vs : List V) → AllZip R bs vs → (z : List ℕ) → 0 < times z (flat_map f vs) → IsPart z (join bs)
  row_parts [] [] a z h = absurd (omega arith)
  row_parts [] (v ∷ vs) a z h = absurd a
  row_parts (b ∷ bs) [] a z h = absurd a
  row_parts (b ∷ bs) (v ∷ vs) a z h = elim (among_either z (f v) (flat_map f vs) h) [
    | inl l ↦ on_the_left z b (join bs) (p.are_parts b v a.0 z l)
    | inr l ↦ on_the_right z b (join bs) (row_parts bs vs a.1 z l)
  ]

  pub members_parts : (m : Rules) → ArePartsOf (members m R) (flat_map f)
  members_parts m = record { are_parts = λ b vs s z h. subst (IsPart z) (sym s.1) (row_parts s.0 vs s.2 z h) }

  pub then_parts : {W : Type 0} {S : Spelling W} {g : W → List (List ℕ)} → ArePartsOf S g → ArePartsOf (R ⨟ S) (λ v. f v.0 ++ g v.1)
  then_parts {g = g} q = record {
    are_parts = λ b v s z h. subst (IsPart z) (sym s.2) (elim (among_either z (f v.0) (g v.1) h) [
      | inl l ↦ on_the_left z s.0 s.1 (p.are_parts s.0 v.0 s.3 z l)
      | inr l ↦ on_the_right z s.0 s.1 (q.are_parts s.1 v.1 s.4 z l)
    ]);
  }

-- of the first alone
pub first_parts : {V W : Type 0} {R : Spelling V} (S : Spelling W) {f : V → List (List ℕ)} → ArePartsOf R f → ArePartsOf (R ⨟ S) (λ v. f v.0)
first_parts S p = record { are_parts = λ b v s z h. subst (IsPart z) (sym s.2) (on_the_left z s.0 s.1 (p.are_parts s.0 v.0 s.3 z h)) }

pub each_part : {P : List ℕ → Type 0} (m : Rules) → ArePartsOf (members m (as_received P)) (λ vs. vs)
each_part {P = P} m = record { are_parts = λ b vs s z h. (members_parts (received_parts {P = P}) m).are_parts b vs s z (subst (λ t. 0 < times z t) (sym (singles vs)) h) }

pub maybe_part : {P : List ℕ → Type 0} → ArePartsOf (optional (as_received P)) option_to_list
maybe_part {P = P} = record {
  are_parts = λ b o s z h. (optional_parts (received_parts {P = P})).are_parts b o s z
      (subst (λ t. 0 < times z t) (sym (singles (option_to_list o))) h);
}

-- of one kind or the other
pub either_parts : {V W : Type 0} {R : Spelling V} {S : Spelling W} {f : V → List (List ℕ)} {g : W → List (List ℕ)} → ArePartsOf R f → ArePartsOf S g
    → ArePartsOf (either R S) (in_either f g)
either_parts {V = V} {W = W} {R = R} {S = S} {f = f} {g = g} h k = record { are_parts = go }
  where
    go : (b : List ℕ) (x : V ⊎ W) → either R S b x → (z : List ℕ) → 0 < times z (in_either f g x) → IsPart z b
    go b (inl v) s z l = h.are_parts b v s z l
    go b (inr w) s z l = k.are_parts b w s z l

-- of the one, then of the other, by what the first value says
pub followed_parts : {V W : Type 0} {R : Spelling V} {S : V → Spelling W} {f : V → List (List ℕ)} {g : W → List (List ℕ)} → ArePartsOf R f
    → ((v : V) → ArePartsOf (S v) g) → ArePartsOf (then_by_value R S) (λ v. f v.0 ++ g v.1)
followed_parts {f = f} {g = g} p q = record {
  are_parts = λ b v s z h. subst (IsPart z) (sym s.2) (elim (among_either z (f v.0) (g v.1) h) [
    | inl l ↦ on_the_left z s.0 s.1 (p.are_parts s.0 v.0 s.3 z l)
    | inr l ↦ on_the_right z s.0 s.1 ((q v.0).are_parts s.1 v.1 s.4 z l)
  ]);
}

pub selected_parts : {V W : Type 0} {R : Spelling V} {S : Spelling W} {f : V → List (List ℕ)} {g : W → List (List ℕ)} (t : Bool)
    → ArePartsOf R f → ArePartsOf S g → ArePartsOf (either_by t R S) (in_either f g)
selected_parts {V = V} {W = W} {R = R} {S = S} {f = f} {g = g} t h k = record { are_parts = go }
  where
    go : (b : List ℕ) (x : V ⊎ W) → either_by t R S b x → (z : List ℕ) → 0 < times z (in_either f g x) → IsPart z b
    go b (inl v) s z l = h.are_parts b v s.1 z l
    go b (inr w) s z l = k.are_parts b w s.1 z l

-- Counts.

pub count_both : {X : Type 0} (t : X → Bool) (xs ys : List X) → count_by t (xs ++ ys) ≡ count_by t xs + count_by t ys
count_both t xs ys = sum_by-append (λ x. cond (t x) 1 0) xs ys

pub both : {X : Type 0} (t : X → Bool) (a b c d : List X) → count_by t a ≡ count_by t c → count_by t b ≡ count_by t d
    → count_by t (a ++ b) ≡ count_by t (c ++ d)
both t a b c d e k = (let x = count_both t a b in let y = count_both t c d in omega (arith, x, y, e, k))

pub keeps_alone : (P : List ℕ → Type 0) → CountedAlike P bytes_eq (λ v. v ∷ [])
keeps_alone P = record { counted = λ v w p q e t. ap (λ x. count_by t (x ∷ [])) ((bytes_eq-Decides v w).0 e) }

pub keeps_octets : {V : Type 0} (g : Grammar V) → IsCanonical g.same (g.spelled der) → CountedAlike (already_der g).is_value (already_der g).same (λ v. v.0 ∷ [])
keeps_octets g h = record { counted = λ v w p q e z. ap (λ x. count_by z (x ∷ [])) ((bytes_eq-Decides v.0 w.0).0 (h.alike v.0 w.0 v.1 w.1 p.1 q.1 ∙ e)) }

module _ {V X : Type 0} {P : V → Type 0} {s : V → V → Bool} {f : V → List X} (h : CountedAlike P s f) where
  pub keeps_option : CountedAlike (λ o. IfSome o P) (option_eq s) (λ o. flat_map f (option_to_list o))
  keeps_option = record { counted = go }
    where
      go : (v w : Option V) → IfSome v P → IfSome w P → option_eq s v w ≡ true → (t : X → Bool)
          → count_by t (flat_map f (option_to_list v)) ≡ count_by t (flat_map f (option_to_list w))
      go None None p q e t = refl
      go None (Some w) p q e t = absurd cc
      go (Some v) None p q e t = absurd cc
      go (Some v) (Some w) p q e t = both t (f v) [] (f w) [] (h.counted v w p q e t) refl

  pub keeps_of : {Q : V → Type 0} → ((v : V) → Q v → P v) → CountedAlike Q s f
  keeps_of i = record { counted = λ v w p q e t. h.counted v w (i v p) (i w q) e t }

pub keeps_none : {V : Type 0} (g : Grammar V) → CountedAlike {X = List ℕ} g.is_value g.same (λ v. [])
keeps_none g = record { counted = λ v w p q e t. refl }

pub keeps_then :
    {V W : Type 0} {P : V → Type 0} {Q : W → Type 0} {s : V → V → Bool} {t : W → W → Bool} {X : Type 0} {f : V → List X} {g : W → List X}
    → CountedAlike P s f → CountedAlike Q t g → CountedAlike (λ (v : V × W). P v.0 × Q v.1) (λ (v w : V × W). s v.0 w.0 && t v.1 w.1)
    (λ v. f v.0 ++ g v.1)
keeps_then {s = s} {t = t} {f = f} {g = g} h k = record {
  counted = λ v w p q e u.
      both u (f v.0) (g v.1) (f w.0) (g w.1) (h.counted v.0 w.0 p.0 q.0 (first_so (s v.0 w.0) (t v.1 w.1) e) u)
      (k.counted v.1 w.1 p.1 q.1 (second_so (s v.0 w.0) (t v.1 w.1) e) u);
}

pub keeps_first : {V W X : Type 0} {P : V → Type 0} {s : V → V → Bool} {f : V → List X} (g : Grammar W) → CountedAlike P s f
    → CountedAlike (λ (v : V × W). P v.0 × g.is_value v.1) (λ (v w : V × W). s v.0 w.0 && g.same v.1 w.1) (λ v. f v.0)
keeps_first {s = s} g h = record { counted = λ v w p q e u. h.counted v.0 w.0 p.0 q.0 (first_so (s v.0 w.0) (g.same v.1 w.1) e) u }

pub keeps_second : {V W X : Type 0} {Q : W → Type 0} {t : W → W → Bool} {f : W → List X} (g : Grammar V) → CountedAlike Q t f
    → CountedAlike (λ (v : V × W). g.is_value v.0 × Q v.1) (λ (v w : V × W). g.same v.0 w.0 && t v.1 w.1) (λ v. f v.1)
keeps_second {t = t} g h = record { counted = λ v w p q e u. h.counted v.1 w.1 p.1 q.1 (second_so (g.same v.0 w.0) (t v.1 w.1) e) u }

pub keeps_maybe : (P : List ℕ → Type 0) → CountedAlike (λ o. IfSome o P) (option_eq bytes_eq) option_to_list
keeps_maybe P =
    record {
      counted = λ v w p q e t. ap (count_by t) (sym (singles (option_to_list v)))
          ∙ (keeps_option (keeps_alone P)).counted v w p q e t ∙ ap (count_by t) (singles (option_to_list w));
    }

pub keeps_either :
    {V W X : Type 0} {P : V → Type 0} {Q : W → Type 0} {s : V → V → Bool} {t : W → W → Bool} {f : V → List X} {g : W → List X}
    → CountedAlike P s f → CountedAlike Q t g → CountedAlike (is_either P Q) (same_choice s t) (in_either f g)
keeps_either {V = V} {W = W} {X = X} {P = P} {Q = Q} {s = s} {t = t} {f = f} {g = g} h k = record { counted = go }
  where
    go : (x y : V ⊎ W) → is_either P Q x → is_either P Q y → same_choice s t x y ≡ true → (u : X → Bool)
        → count_by u (in_either f g x) ≡ count_by u (in_either f g y)
    go (inl v) (inl w) p q e u = h.counted v w p q e u
    go (inl v) (inr w) p q e u = absurd cc
    go (inr v) (inl w) p q e u = absurd cc
    go (inr v) (inr w) p q e u = k.counted v w p q e u
