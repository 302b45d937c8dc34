-- BOOLEAN: its reader and its spelling, and TRUE by DER.
use Rattle.std.proofs.Common.{◌≡◌, ◌≢◌, ℕ, zero, suc, ◌≤◌, Bool, true, false, not, ◌==◌, List, [], ◌∷◌, length, refl, sym, ap, subst, ◌∙◌, arith}
use Rattle.cms_tlv.specs.declared.fault.Reason.TheVariants.{BooleanMalformed}
use Rattle.cms_tlv.specs.Headers.{AreOctets, IsOctet, IsLength, short, long}
use Rattle.cms_tlv.specs.Frames.{of_short_length}
use Rattle.cms_tlv.specs.Spelling.{Rules, ber, minimal, der, element}
use mathlib.Core.Bool.{beq}
use Rattle.std.specs.Cmp.{booleans_Decides, bool_eq_equiv}
use Rattle.cms_tlv.specs.Law.{Reads, IsField}
use Rattle.cms_tlv.proofs.SpellingLaws.{primitive_field}
use Rattle.cms_fields.specs.Canonical.{IsCanonical, IsByDer, IsDerFramed}
use Rattle.cms_fields.proofs.CanonicalLaws.{canonical_by, element_framed}
use Rattle.cms_fields.proofs.DerLaws.{element_by_der}
use Rattle.cms_fields.proofs.ReaderLaws.{begins_as}
use Rattle.cms_tlv.specs.Reading.{scalar_of}
use Rattle.cms_tlv.proofs.Inverse.{eqb_no, eqb_yes, differ}
use Rattle.cms_tlv.proofs.Elements.{scalar_reads}
use Rattle.cms_fields.proofs.FirstOctetLaws.{is_primitive}
use Rattle.cms_scalars.proofs.Made.{told_reads}
use Rattle.cms_scalars.specs.Booleans.{truth, boolean, is_one_octet, is_true, boolean_of}

abbrev IsOne : List ℕ → Type 0
IsOne c = AreOctets c × (is_one_octet c ≡ true)

of_octet : (x : ℕ) → IsOctet x → (t : Bool) → not (x == 0) ≡ t → truth ber (x ∷ []) t
of_octet x o true e = (x, refl, o, λ z. (let y = eqb_yes x 0 z in let f : not (x == 0) ≡ false = rw y refl in differ f e))
of_octet zero o false e = refl
of_octet (suc x) o false e = absurd (let y = eqb_no (suc x) 0 (λ z. omega arith) in let t : not (suc x == 0) ≡ true = rw y refl in differ e t)

tells : (c : List ℕ) → IsOne c → truth ber c (is_true c)
tells [] k = absurd (let e = k.1 in cc)
tells (x ∷ []) k = of_octet x k.0.0 (not (x == 0)) refl
tells (x ∷ y ∷ ys) k = absurd (let e = k.1 in cc)

pub told : (c : List ℕ) (v : Bool) → truth ber c v → IsOne c × (is_true c ≡ v)
told c true k = let y = eqb_no k.0 0 k.3 in rw k.1 (((k.2, tt), refl), rw y refl)
told c false k = rw k (((omega arith, tt), refl), refl)

contents_read : {m : Rules} → Reads m (element m 0x01 (λ c v. (c ≡ v) × IsOne c)) (scalar_of 0x01 is_one_octet BooleanMalformed)
contents_read = scalar_reads 0x01 is_one_octet BooleanMalformed (is_primitive 0x01 refl).0 (is_primitive 0x01 refl).1 (λ z. cc) (λ v o e. (o, e)) (λ v k. k)

-- minimal lengths ask nothing of the contents
to_minimal : (c : List ℕ) (v : Bool) → truth ber c v → truth minimal c v
to_minimal c true k = k
to_minimal c false k = k

from_minimal : (c : List ℕ) (v : Bool) → truth minimal c v → truth ber c v
from_minimal c true k = k
from_minimal c false k = k

pub boolean_reads : (m : Rules) → m ≢ der → Reads m (boolean m) boolean_of
unfolding boolean_of
boolean_reads ber n = told_reads 0x01 is_true tells told contents_read
boolean_reads minimal n = told_reads 0x01 is_true (λ c k. to_minimal c (is_true c) (tells c k)) (λ c v k. told c v (from_minimal c v k)) contents_read
boolean_reads der n = absurd (n refl)

least : (other : List ℕ) → IsLength other 1 → 1 ≤ length other
least [] h = absurd (none h refl)
  where
    none : {l : List ℕ} {n : ℕ} → IsLength l n → l ≡ [] → ⊥
    none (short p) e = cc
    none (long p q) e = cc
least (x ∷ xs) h = omega arith

pub true_by_der : boolean der (0x01 ∷ 0x01 ∷ 0xff ∷ []) true
true_by_der = (0xff ∷ [], of_short_length (0xff ∷ []) (record { is = short (omega arith); least = least }), (0xff, refl, omega arith, refl))

pub false_by_der : boolean der (0x01 ∷ 0x01 ∷ 0x00 ∷ []) false
false_by_der = (0x00 ∷ [], of_short_length (0x00 ∷ []) (record { is = short (omega arith); least = least }), refl)

-- What DER spells BER spells, each spelling tells its value, and by DER each value has one.
within : (c : List ℕ) (v : Bool) → truth der c v → truth ber c v
within c true k = (k.0, k.1, k.2, λ z. omega (arith, k.3, z))
within c false k = k

one_value : (m : Rules) (c : List ℕ) (v w : Bool) → truth m c v → truth m c w → v ≡ w
one_value ber c v w p q = sym (told c v p).1 ∙ (told c w q).1
one_value minimal c v w p q = sym (told c v (from_minimal c v p)).1 ∙ (told c w (from_minimal c w q)).1
one_value der c v w p q = sym (told c v (within c v p)).1 ∙ (told c w (within c w q)).1

one_spelling : (b c : List ℕ) (v : Bool) → truth der b v → truth der c v → b ≡ c
one_spelling b c true p q = p.1 ∙ ap (λ x. x ∷ []) (p.3 ∙ sym q.3) ∙ sym q.1
one_spelling b c false p q = p ∙ sym q

contents_canonical : IsCanonical beq (truth der)
contents_canonical = canonical_by beq (λ b c v w p q. (
  (λ e. (booleans_Decides v w).1 (one_value der b v w p (subst (λ t. truth der t w) (sym e) q))),
  (λ e. one_spelling b c v p (subst (λ t. truth der c t) (sym ((booleans_Decides v w).0 e)) q)),
))

contents_by_der : IsByDer beq truth
contents_by_der = record { within = within; canonical = contents_canonical; equivalence = bool_eq_equiv }

pub boolean_by_der : IsByDer beq boolean
boolean_by_der = element_by_der contents_by_der 0x01

pub boolean_framed : IsDerFramed (boolean der)
boolean_framed = element_framed 0x01 (is_primitive 0x01 refl).0

pub boolean_field : (m : Rules) → IsField (λ t. (t == 0x01) ≡ true) (boolean m)
boolean_field m = begins_as 0x01 (primitive_field m 0x01 (is_primitive 0x01 refl).0 (is_primitive 0x01 refl).1 (one_value m))
