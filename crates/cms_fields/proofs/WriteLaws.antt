-- What is written for a value, put together from what is written for its parts.
use Rattle.std.proofs.Common.{◌≡◌, ℕ, suc, ◌+◌, ◌^◌, ◌<◌, ◌≤◌, List, [], ◌∷◌, ◌++◌, length, min, refl, sym, ◌∙◌, ap, subst, arith, ◌⊎◌, ◌↔◌, Bool, true, Result, Ok, Err, OnOk, OnErr, append_assoc}
use mathlib.Core.Logic.{inl, inr}
use mathlib.Core.Bool.{◌&&◌}
use Rattle.std.specs.Prelude.{bytes_eq}
use Rattle.std.specs.Cmp.{IsEquivalence}
use Rattle.std.proofs.lemmas.Slice.Eq.{bytes_eq-Decides}
use Rattle.std.proofs.lemmas.List.{append-nil, length-append}
use Rattle.std.proofs.lemmas.Bool.{cases_lt}
use Rattle.cms_tlv.specs.Headers.{IsShortLength}
use Rattle.cms_tlv.specs.Frames.{of_short_length}
use Rattle.cms_tlv.specs.Spelling.{der, Spelling, element, ◌⨟◌}
use Rattle.cms_tlv.specs.Writing.{AppendsHeader}
use Rattle.cms_tlv.proofs.SpellingLaws.{IsField, field_cut}
use Rattle.cms_fields.specs.Canonical.{IsCanonical}
use Rattle.cms_fields.specs.Writing.{IsWritten, Writes, HasLength}
use Rattle.cms_fields.proofs.CanonicalLaws.{both_true}

-- of a result that is Ok, from two facts
pub on_ok_both : {T E P Q S : Type 0} (r : Result T E) → (P → Q → S) → OnOk r P → OnOk r Q → OnOk r S
on_ok_both (Ok x) f p q = f p q
on_ok_both (Err x) f p q = tt

-- what holds of any error
pub on_err_each : {T E P : Type 0} (r : Result T E) → P → OnErr r P
on_err_each (Ok x) p = tt
on_err_each (Err e) p = p

module _ {V : Type 0} {R : Spelling V} {s : V → V → Bool} {v : V} where
  pub element_written : (id : ℕ) {l o : List ℕ} → IsShortLength l (length o) → IsWritten R s v o → IsWritten (element der id R) s v (id ∷ (l ++ o))
  element_written id {l} {o} p w = record { value = w.value; spells = (o, of_short_length o p, w.spells); same = w.same }

  element_of : (id n : ℕ) {a b c : List ℕ} → AppendsHeader id n a b → (q : Writes R s v b c) → n ≡ length q.octets → Writes (element der id R) s v a c
  element_of id n {a} {b} {c} h q f = record {
    octets = id ∷ (h.0 ++ q.octets);
    appended = q.appended ∙ (ap (λ z. z ++ q.octets) h.2 ∙ append_assoc a (id ∷ h.0) q.octets);
    written = element_written id (subst (IsShortLength h.0) f h.1) q.written;
  }

  -- an element, where the length that its header tells is that of the contents
  pub element_writes : (id n : ℕ) {a b c : List ℕ} → AppendsHeader id n a b → Writes R s v b c → HasLength R s v n → length c < 2 ^ 64
      → Writes (element der id R) s v a c
  element_writes id n {a} {b} {c} h q k small =
      let e : n ≡ min (length q.octets) 0xFFFF_FFFF_FFFF_FFFF = k.each q.octets q.written in
      let l1 : length c ≡ length b + length q.octets = ap length q.appended ∙ length-append b q.octets in
      let l2 : length b ≡ length a + suc (length h.0) = ap length h.2 ∙ length-append a (id ∷ h.0) in
      element_of id n h q (omega arith)

module _ {V : Type 0} (R : Spelling V) (s : V → V → Bool) (v : V) where
  element_each : (id n h : ℕ) → HasLength R s v n → ((l : List ℕ) → IsShortLength l n → h ≡ 1 + length l) → (b : List ℕ)
      → IsWritten (element der id R) s v b → min (h + n) 0xFFFF_FFFF_FFFF_FFFF ≡ min (length b) 0xFFFF_FFFF_FFFF_FFFF
  element_each id n h k f b w = go b w.spells
    where
      go : (b : List ℕ) → element der id R b w.value → min (h + n) 0xFFFF_FFFF_FFFF_FFFF ≡ min (length b) 0xFFFF_FFFF_FFFF_FFFF
      go b (c, of_short_length {l = l} c' p, r) =
          let m : n ≡ min (length c) 0xFFFF_FFFF_FFFF_FFFF = k.each c (record { value = w.value; spells = r; same = w.same }) in
          let j : length (id ∷ (l ++ c)) ≡ suc (length l + length c) = ap suc (length-append l c) in
          sum l c p m j (cases_lt (length c) 0xFFFF_FFFF_FFFF_FFFF)
        where
          sum : (l c : List ℕ) → IsShortLength l (length c) → n ≡ min (length c) 0xFFFF_FFFF_FFFF_FFFF
              → length (id ∷ (l ++ c)) ≡ suc (length l + length c) → (length c < 0xFFFF_FFFF_FFFF_FFFF)
              ⊎ (0xFFFF_FFFF_FFFF_FFFF ≤ length c) → min (h + n) 0xFFFF_FFFF_FFFF_FFFF ≡ min (length (id ∷ (l ++ c))) 0xFFFF_FFFF_FFFF_FFFF
          sum l c p m j (inl small) = let q : n ≡ length c = omega arith in let i = f l (subst (IsShortLength l) (sym q) p) in omega arith
          sum l c p m j (inr large) = let q : n ≡ 0xFFFF_FFFF_FFFF_FFFF = omega arith in omega arith

  pub element_length : (id n h : ℕ) → HasLength R s v n → ((l : List ℕ) → IsShortLength l n → h ≡ 1 + length l)
      → (n < 256 ^ 8 → (l : List ℕ) × IsShortLength l n) → HasLength (element der id R) s v (min (h + n) 0xFFFF_FFFF_FFFF_FFFF)
  element_length id n h k f some = record {
    each = element_each id n h k f;
    one = λ small.
        let c = k.one (omega arith) in
        let e : n ≡ length c.0 = (let m = k.each c.0 c.1 in omega arith) in
        let l = some (omega arith) in
        (id ∷ (l.0 ++ c.0), element_written id (subst (IsShortLength l.0) e l.1) c.1);
  }

module _ {V W : Type 0} {R : Spelling V} {S : Spelling W} {s : V → V → Bool} {t : W → W → Bool} {v : V} {w : W} where
  pub then_written : {o q : List ℕ} → IsWritten R s v o → IsWritten S t w q → IsWritten (R ⨟ S) (λ (x y : V × W). s x.0 y.0 && t x.1 y.1) (v, w) (o ++ q)
  then_written {o} {q} g h = record { value = (g.value, h.value); spells = (o, q, refl, g.spells, h.spells); same = both_true _ _ g.same h.same }

-- what is written for two values
module _ {V : Type 0} {R : Spelling V} {s : V → V → Bool} {v w : V} {o q : List ℕ} where
  pub written_alike : IsCanonical s R → IsEquivalence s → IsWritten R s v o → IsWritten R s w q → bytes_eq o q ≡ s v w
  written_alike k e p r = k.alike o q p.value r.value p.spells r.spells
      ∙ (sym (e.congr v p.value r.value p.same) ∙ (e.symm v r.value ∙ (sym (e.congr w r.value v r.same) ∙ e.symm w v)))

  pub written_equal : IsCanonical s R → IsEquivalence s → IsWritten R s v o → IsWritten R s w q → (o ≡ q) ↔ (s v w ≡ true)
  written_equal k e p r =
      let h = written_alike k e p r in
      (λ d. sym h ∙ (bytes_eq-Decides o q).1 d, λ d. (bytes_eq-Decides o q).0 (h ∙ d))

  pub written_prefix : {P : ℕ → Type 0} (rest : List ℕ) → IsField P R → IsWritten R s v o → IsWritten R s w q → o ++ rest ≡ q → o ≡ q
  written_prefix rest f p r e = (field_cut f o q rest [] p.value r.value p.spells r.spells (e ∙ sym (append-nil q))).0
