-- The laws of fields that are DER as they stand.
use Rattle.std.proofs.Common.{◌≡◌, ℕ, ◌+◌, true, List, length, refl, sym, ap, subst, ◌∙◌}
use Rattle.std.specs.Prelude.{Bool}
use Rattle.std.specs.Cmp.{IsEquivalence}
use Rattle.std.proofs.lemmas.Slice.Eq.{bytes_eq-Decides}
use Rattle.cms_tlv.specs.declared.bound.Bound.{Bound}
use Rattle.cms_tlv.specs.Spelling.{Rules, der, Spelling, with_octets}
use Rattle.cms_tlv.specs.declared.fault.Fault.{Fault}
use Rattle.cms_tlv.specs.State.{State}
use Rattle.cms_tlv.specs.Reading.{Reader, taking}
use Rattle.cms_tlv.specs.Refines.{RefinesWithValue, Failed}
use Rattle.cms_tlv.specs.Law.{Reads, IsField}
use Rattle.cms_tlv.proofs.OctetsTaken.{taking_reads}
use Rattle.cms_fields.specs.Assembly.{marked, copied}
use Rattle.cms_fields.specs.Canonical.{IsCanonical, IsByDer, IsDerFramed}
use Rattle.cms_fields.specs.Readers.{already_der_of}
use Rattle.cms_fields.specs.Sinks.{Taking, Emits, MayStop}
use Rattle.cms_fields.specs.Writing.{IsWritten}
use Rattle.cms_fields.proofs.AssemblyLaws.{octets_marked, length_marked}

-- what the inner bound reads
module _ {W : Type 0} (f : Bound → Reader W) (bd inner : Bound) (is : inner ≡ record bd { strict = true }) where
  same_reader : taking f inner ≡ already_der_of f bd
  unfolding taking
  same_reader = ap (λ d. taking f d) is

  pub strict_failed : {a b : State} {e : Fault} → Failed (taking f inner) a b e → Failed (already_der_of f bd) a b e
  strict_failed {a = a} {b = b} {e = e} q = subst (λ r. Failed r a b e) same_reader q

  pub strict_gave : {X : Type 0} {show : State → X → List ℕ × W} {a b : State} {x : X} → RefinesWithValue show (taking f inner) a b x
      → RefinesWithValue show (already_der_of f bd) a b x
  strict_gave {show = show} {a = a} {b = b} {x = x} q = subst (λ r. RefinesWithValue show r a b x) same_reader q

module _ {V : Type 0} (R : Spelling V) where
  -- under a strict bound, wherever it ends
  under_strict : {f : Bound → Reader V} (m : Rules) → Reads der R f → Reads m R (λ bd. f (record bd { strict = true }))
  under_strict m r = record {
    sound = λ bd c d v i e. r.sound (record bd { strict = true }) c d v refl e;
    complete = λ bd c d b v i p s room. r.complete (record bd { strict = true }) c d b v refl p s room;
    cut = λ bd c at i e. r.cut (record bd { strict = true }) c at refl e;
  }

  pub strict_reads : {f : Bound → Reader V} (m : Rules) → Reads der R f → Reads m (with_octets R) (already_der_of f)
  strict_reads m r = taking_reads (under_strict m r)

  pub strict_field : {P : ℕ → Type 0} → IsField P R → IsField P (with_octets R)
  strict_field f = record {
    frame = λ b v s. f.frame b v.1 s.1;
    starts = λ b v s. f.starts b v.1 s.1;
    same = λ b v w s t. ap (λ o. (o, v.1)) (sym s.0 ∙ t.0) ∙ ap (λ x. (w.0, x)) (f.same b v.1 w.1 s.1 t.1);
  }

  pub strict_framed : IsDerFramed R → IsDerFramed (with_octets R)
  strict_framed f = record { framed = λ b v s. f.framed b v.1 s.1 }

  module _ {s : V → V → Bool} (law : IsCanonical s R) (equivalence : IsEquivalence s) where
    abbrev alike : List ℕ × V → List ℕ × V → Bool
    alike v w = s v.1 w.1

    pub strict_by_der : IsByDer alike (λ m. with_octets R)
    strict_by_der = record {
      within = λ b v r. r;
      canonical = record { alike = λ b c v w r t. law.alike b c v.1 w.1 r.1 t.1 };
      equivalence = record {
        refl = λ v. equivalence.refl v.1;
        symm = λ v w. equivalence.symm v.1 w.1;
        congr = λ u v w. equivalence.congr u.1 v.1 w.1;
      };
    }

    module _ (v : List ℕ × V) (r : R v.0 v.1) where
      itself : IsWritten (with_octets R) alike v v.0
      itself = record { value = v; spells = (refl, r); same = equivalence.refl v.1 }

      only : (o : List ℕ) → IsWritten (with_octets R) alike v o → v.0 ≡ o
      only o w = (bytes_eq-Decides v.0 o).0 (strict_by_der.canonical.alike v.0 o v w.value (refl, r) w.spells ∙ w.same)

      pub strict_emits : {S : Type 0} {t : Taking S} {k : List ℕ} {a b : S} → t.puts k a (marked copied v.0) b
          → Emits t (with_octets R) (λ ms w. ms ≡ marked copied w.0) alike v k a b
      strict_emits p = record {
        octets = marked copied v.0;
        put = p;
        written = subst (IsWritten (with_octets R) alike v) (sym (octets_marked copied v.0)) itself;
        assembled = record { value = v; assembles = refl; same = equivalence.refl v.1 };
        each = λ o w. ap length (sym (only o w)) ∙ sym (length_marked copied v.0);
      }

      pub strict_stops : {S : Type 0} (t : Taking S) (n : ℕ) → t.stops (n + length v.0) → MayStop t (with_octets R) alike v n
      strict_stops t n l o w = subst (λ z. t.stops (n + length z)) (only o w) l
