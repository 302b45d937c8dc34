-- Whether two messages are the same, by what is written for them.
use Rattle.std.proofs.Common.{◌≡◌, ◌<◌, ◌≤◌, ◌⊎◌, inl, inr, ℕ, List, [], ◌++◌, Bool, true, false, refl, sym, ap, subst, ◌∙◌, arith}
use Rattle.std.specs.Prelude.{bytes_eq}
use Rattle.std.proofs.lemmas.Bool.{cases_lt}
use Rattle.cms_tlv.specs.Spelling.{Rules, der, Spelling}
use Rattle.cms_fields.specs.Writing.{IsWritten, Writes, HasLength}
use Rattle.cms_canon.proofs.Headline.{IsMessageKind, same_sym, same_trans}

not_true : (b : Bool) → (b ≡ true → ⊥) → false ≡ b
not_true true h = absurd (h refl)
not_true false h = refl

pub written_alone : {V : Type 0} {R : Spelling V} {s : V → V → Bool} (v : V) (old new : List ℕ) → Writes R s v old new → old ≡ [] → IsWritten R s v new
written_alone {R = R} {s = s} v old new h none = subst (IsWritten R s v) (sym (h.appended ∙ ap (λ t. t ++ h.octets) none)) h.written

module _ {V : Type 0} {R : Rules → Spelling V} {s : V → V → Bool} (k : IsMessageKind R s) where
  -- what is written for a message is written for one that is the same
  for_other : (v w : V) (b : List ℕ) → s v w ≡ true → IsWritten (R der) s v b → IsWritten (R der) s w b
  for_other v w b e h = record { value = h.value; spells = h.spells; same = same_trans k w v h.value (same_sym k v w e) h.same }

  same_lengths : (v w : V) (n m : ℕ) → n < 18446744073709551616 → m < 18446744073709551616 → HasLength (R der) s v n
      → HasLength (R der) s w m → s v w ≡ true → n ≡ m
  same_lengths v w n m n< m< h g e = go (cases_lt n 0xFFFF_FFFF_FFFF_FFFF) (cases_lt m 0xFFFF_FFFF_FFFF_FFFF)
    where
      go : (n < 0xFFFF_FFFF_FFFF_FFFF) ⊎ (0xFFFF_FFFF_FFFF_FFFF ≤ n) → (m < 0xFFFF_FFFF_FFFF_FFFF) ⊎ (0xFFFF_FFFF_FFFF_FFFF ≤ m) → n ≡ m
      go (inl l) c = let o = h.one l in h.each o.0 o.1 ∙ sym (g.each o.0 (for_other v w o.0 e o.1))
      go (inr l) (inl c) = let o = g.one c in h.each o.0 (for_other w v o.0 (same_sym k v w e) o.1) ∙ sym (g.each o.0 o.1)
      go (inr l) (inr c) = omega (arith, l, c, n<, m<)

  pub other_lengths : (v w : V) (n m : ℕ) → n < 18446744073709551616 → m < 18446744073709551616 → HasLength (R der) s v n
      → HasLength (R der) s w m → (n ≡ m → ⊥) → false ≡ s v w
  other_lengths v w n m n< m< h g d = not_true (s v w) (λ e. d (same_lengths v w n m n< m< h g e))

  pub by_octets : (v w : V) (b c : List ℕ) → IsWritten (R der) s v b → IsWritten (R der) s w c → bytes_eq b c ≡ s v w
  by_octets v w b c h g =
      let q = k.equivalence in
      k.canonical.alike b c h.value g.value h.spells g.spells ∙ sym (q.congr v h.value w h.same ∙ q.symm h.value w
      ∙ q.congr w g.value h.value g.same ∙ q.symm g.value h.value)
