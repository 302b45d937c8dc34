-- DER spells two values alike exactly if they are the same.
use Rattle.std.proofs.Common.{◌≡◌, ℕ, List, [], ◌∷◌, ◌++◌, length, refl, sym, ◌∙◌, ap, subst, Bool, true, Option, None, Some}
use mathlib.Core.Bool.{◌&&◌}
use Rattle.std.specs.Prelude.{bytes_eq}
use Rattle.std.specs.Option.{option_eq}
use Rattle.std.specs.Cmp.{both_ways, first_so, second_so}
use Rattle.std.proofs.lemmas.Slice.Eq.{bytes_eq-Decides}
use Rattle.cms_tlv.specs.Headers.{IsShortLength, low}
use Rattle.cms_tlv.specs.Frames.{IsDerElement, IsDerFrame, of_short_length}
use Rattle.cms_tlv.specs.Opaque.{IsOpaque, IsFramed, primitive, constructed}
use Rattle.cms_tlv.specs.Spelling.{der, Spelling, element, ◌⨟◌, optional, ◌where_value◌}
use Rattle.cms_tlv.proofs.HeaderLaws.{short_length_one}
use Rattle.cms_tlv.proofs.SpellingLaws.{IsField, IsFieldOctet, Avoids, field_cut, element_by, element_same}
use Rattle.cms_fields.specs.Canonical.{IsCanonical, IsDerFramed}
use Rattle.cms_fields.specs.Received.{as_received}

-- from the two directions
pub canonical_by : {V : Type 0} {R : Spelling V} (same : V → V → Bool)
    → ((b c : List ℕ) (v w : V) → R b v → R c w → (b ≡ c → same v w ≡ true) × (same v w ≡ true → b ≡ c)) → IsCanonical same R
canonical_by same f =
    record {
      alike = λ b c v w r q. both_ways (bytes_eq b c) (same v w) (λ e. (f b c v w r q).0 ((bytes_eq-Decides b c).0 e))
          (λ e. (bytes_eq-Decides b c).1 ((f b c v w r q).1 e));
    }

module _ {V : Type 0} {R : Spelling V} {same : V → V → Bool} (k : IsCanonical same R) where
  pub to_same : (b c : List ℕ) (v w : V) → R b v → R c w → b ≡ c → same v w ≡ true
  to_same b c v w r q e = sym (k.alike b c v w r q) ∙ (bytes_eq-Decides b c).1 e

  pub to_equal : (b c : List ℕ) (v w : V) → R b v → R c w → same v w ≡ true → b ≡ c
  to_equal b c v w r q e = (bytes_eq-Decides b c).0 (k.alike b c v w r q ∙ e)

pub both_true : (s t : Bool) → s ≡ true → t ≡ true → (s && t) ≡ true
both_true s t p q = ap (λ x. x && t) p ∙ q

module _ {P : ℕ → Type 0} {V W : Type 0} {R : Spelling V} {S : Spelling W} {s : V → V → Bool} {t : W → W → Bool} (f : IsField P R)
    (k : IsCanonical s R) (j : IsCanonical t S) where
  pub then_canonical : IsCanonical (λ v w. s v.0 w.0 && t v.1 w.1) (R ⨟ S)
  then_canonical = canonical_by _ (λ b c v w r q. (
    (λ e. let h = field_cut f r.0 q.0 r.1 q.1 v.0 w.0 r.3 q.3 (sym r.2 ∙ e ∙ q.2) in
        both_true _ _ (to_same k r.0 q.0 v.0 w.0 r.3 q.3 h.0) (to_same j r.1 q.1 v.1 w.1 r.4 q.4 h.2)),
    (λ e. let h = to_equal k r.0 q.0 v.0 w.0 r.3 q.3 (first_so _ _ e) in let i = to_equal j r.1 q.1 v.1 w.1 r.4 q.4 (second_so _ _ e) in cc (r.2, q.2)),
  ))

  pub maybe_canonical : Avoids P S → IsCanonical (λ v w. option_eq s v.0 w.0 && t v.1 w.1) (optional R ⨟ S)
  maybe_canonical g =
      canonical_by _ (λ b c v w r q. (
        λ e. to v.0 w.0 v.1 w.1 r.0 q.0 r.1 q.1 r.3 q.3 r.4 q.4 (sym r.2 ∙ e ∙ q.2),
        λ e. r.2
            ∙ from v.0 w.0 v.1 w.1 r.0 q.0 r.1 q.1 r.3 q.3 r.4 q.4 (first_so _ _ e) (second_so _ _ e) ∙ sym q.2,
      ))
    where
      clash : (v : V) (w : W) (b c x : List ℕ) → R b v → S c w → c ≡ b ++ x → ⊥
      clash v w b c x p q e = let h = f.starts b v p in g.avoids c w h.0 (h.1 ++ x) q (e ∙ ap (λ z. z ++ x) h.2) h.4

      to : (o u : Option V) (v w : W) (b c x y : List ℕ) → optional R b o → optional R c u → S x v → S y w → b ++ x ≡ c ++ y → (option_eq s o u && t v w) ≡ true
      to None None v w b c x y p q r z e = let h : x ≡ y = (rw (p, q) at e) in to_same j x y v w r z h
      to None (Some u) v w b c x y p q r z e = let h : x ≡ c ++ y = (rw p at e) in absurd (clash u v c x y q r h)
      to (Some o) None v w b c x y p q r z e = let h : b ++ x ≡ y = (rw q at e) in absurd (clash o w b y x p z (sym h))
      to (Some o) (Some u) v w b c x y p q r z e = let h = field_cut f b c x y o u p q e in
          both_true _ _ (to_same k b c o u p q h.0) (to_same j x y v w r z h.2)

      from : (o u : Option V) (v w : W) (b c x y : List ℕ) → optional R b o → optional R c u → S x v → S y w → option_eq s o u ≡ true
          → t v w ≡ true → b ++ x ≡ c ++ y
      from None None v w b c x y p q r z e d = let h = to_equal j x y v w r z d in cc
      from None (Some u) v w b c x y p q r z e d = absurd (cc)
      from (Some o) None v w b c x y p q r z e d = absurd (cc)
      from (Some o) (Some u) v w b c x y p q r z e d = let h = to_equal k b c o u p q e in let i = to_equal j x y v w r z d in cc

module _ {P : ℕ → Type 0} {V : Type 0} {R : Spelling V} {s : V → V → Bool} (f : IsField P R) (k : IsCanonical s R) where
  pub maybe_alone_canonical : IsCanonical (option_eq s) (optional R)
  maybe_alone_canonical = canonical_by _ (λ b c v w r q. (to v w b c r q, from v w b c r q))
    where
      clash : (v : V) (b : List ℕ) → R b v → b ≡ [] → ⊥
      clash v b r e = let h = f.starts b v r in let i : [] ≡ h.0 ∷ h.1 = sym e ∙ h.2 in cc

      to : (o u : Option V) (b c : List ℕ) → optional R b o → optional R c u → b ≡ c → option_eq s o u ≡ true
      to None None b c p q e = refl
      to None (Some u) b c p q e = absurd (clash u c q (sym e ∙ p))
      to (Some o) None b c p q e = absurd (clash o b p (e ∙ q))
      to (Some o) (Some u) b c p q e = to_same k b c o u p q e

      from : (o u : Option V) (b c : List ℕ) → optional R b o → optional R c u → option_eq s o u ≡ true → b ≡ c
      from None None b c p q e = p ∙ sym q
      from None (Some u) b c p q e = absurd (cc)
      from (Some o) None b c p q e = absurd (cc)
      from (Some o) (Some u) b c p q e = to_equal k b c o u p q e

pub der_one : {b c x y : List ℕ} {id : ℕ} → IsDerElement b id x → IsDerElement c id y → x ≡ y → b ≡ c
der_one {id = id} (of_short_length {l = l} x p) (of_short_length {l = m} y q) e =
    let h = short_length_one l m (length y) (subst (λ z. IsShortLength l (length z)) e p) q in
    cc

module _ {V : Type 0} {R : Spelling V} {s : V → V → Bool} (k : IsCanonical s R) where
  pub element_canonical : (id : ℕ) → IsCanonical s (element der id R)
  element_canonical id = canonical_by _ (λ b c v w r q. (
    (λ e. to_same k r.0 q.0 v w r.2 q.2 (element_same (element_by der r.1) (element_by der q.1) e).1),
    (λ e. der_one r.1 q.1 (to_equal k r.0 q.0 v w r.2 q.2 e)),
  ))

  pub where_canonical : (Q : V → Type 0) → IsCanonical s (R where_value Q)
  where_canonical Q = record { alike = λ b c v w r q. k.alike b c v w r.0 q.0 }

-- octets that are their own value
pub received_canonical : (P : List ℕ → Type 0) → IsCanonical bytes_eq (as_received P)
received_canonical P = record { alike = λ b c v w r q i. bytes_eq (r.0 i) (q.0 i) }

-- an element by DER is a frame by DER
element_frame_der : {b c : List ℕ} {id : ℕ} → IsFieldOctet id → IsDerElement b id c → IsDerFrame b
element_frame_der o (of_short_length c p) = of_short_length c (low o.octet o.one) p

pub element_framed : {V : Type 0} {R : Spelling V} (id : ℕ) → IsFieldOctet id → IsDerFramed (element der id R)
element_framed id o = record { framed = λ b v r. element_frame_der o r.1 }

pub where_framed : {V : Type 0} {R : Spelling V} (Q : V → Type 0) → IsDerFramed R → IsDerFramed (R where_value Q)
where_framed Q h = record { framed = λ b v r. h.framed b v r.0 }

-- so is an opaque value
opaque_frame_der : {b : List ℕ} {d : ℕ} → IsFramed b d → IsDerFrame b
opaque_frame_der (primitive c d deep i not_0 p form l o) = of_short_length c i l
opaque_frame_der (constructed {c = c} deep i k form l inner) = of_short_length c i l

pub opaque_framed : IsDerFramed (as_received IsOpaque)
opaque_framed = record { framed = λ b v r. opaque_frame_der r.1 }
