-- The laws of DER, put together from those of the parts.
use Rattle.std.proofs.Common.{ℕ, List, Option, None, Some}
use Rattle.std.specs.Prelude.{Bool, bytes_eq}
use Rattle.std.specs.Cmp.{and_equiv, on_equiv}
use Rattle.std.specs.Option.{option_eq}
use Rattle.std.specs.Cmp.Lexicographic.{options_equiv, nat_list_eq_equiv}
use mathlib.Core.Bool.{◌&&◌}
use Rattle.cms_tlv.specs.Spelling.{Rules, der, Spelling, element, ◌⨟◌, optional, ◌where_value◌}
use Rattle.cms_tlv.proofs.SpellingLaws.{IsField, Avoids, element_by}
use Rattle.cms_fields.specs.Received.{as_received}
use Rattle.cms_fields.specs.Canonical.{IsByDer}
use Rattle.cms_fields.proofs.CanonicalLaws.{then_canonical, maybe_canonical, maybe_alone_canonical, element_canonical, where_canonical, received_canonical}

-- What DER spells, BER spells.
abbrev Within : {V : Type 0} → Spelling V → Spelling V → Type 0
Within {V} R S = (b : List ℕ) (v : V) → R b v → S b v

optional_within : {V : Type 0} {R S : Spelling V} → Within R S → Within (optional R) (optional S)
optional_within h b None r = r
optional_within h b (Some v) r = h b v r

pub received_by_der : (P : List ℕ → Type 0) → IsByDer bytes_eq (λ m. as_received P)
received_by_der P = record { within = λ b v r. r; canonical = received_canonical P; equivalence = nat_list_eq_equiv }

module _ {V : Type 0} {s : V → V → Bool} {R : Rules → Spelling V} (h : IsByDer s R) where
  pub element_by_der : (id : ℕ) → IsByDer s (λ m. element m id (R m))
  element_by_der id =
      record {
        within = λ b v r. (r.0, element_by der r.1, h.within r.0 v r.2);
        canonical = element_canonical h.canonical id;
        equivalence = h.equivalence;
      }

  pub where_by_der : (Q : V → Type 0) → IsByDer s (λ m. R m where_value Q)
  where_by_der Q = record { within = λ b v r. (h.within b v r.0, r.1); canonical = where_canonical h.canonical Q; equivalence = h.equivalence }

module _ {V : Type 0} {P : ℕ → Type 0} {s : V → V → Bool} {R : Rules → Spelling V} (f : IsField P (R der)) (h : IsByDer s R) where
  pub optional_by_der : IsByDer (option_eq s) (λ m. optional (R m))
  optional_by_der = record { within = optional_within h.within; canonical = maybe_alone_canonical f h.canonical; equivalence = options_equiv h.equivalence }

module _ {V W : Type 0} {P : ℕ → Type 0} {s : V → V → Bool} {t : W → W → Bool} {R : Rules → Spelling V} {S : Rules → Spelling W}
    (f : IsField P (R der)) (h : IsByDer s R) (k : IsByDer t S) where
  pub then_by_der : IsByDer (λ v w. s v.0 w.0 && t v.1 w.1) (λ m. R m ⨟ S m)
  then_by_der = record {
    within = λ b v r. (r.0, r.1, r.2, h.within r.0 v.0 r.3, k.within r.1 v.1 r.4);
    canonical = then_canonical f h.canonical k.canonical;
    equivalence = and_equiv (on_equiv (λ (v : V × W). v.0) h.equivalence) (on_equiv (λ (v : V × W). v.1) k.equivalence);
  }

  pub maybe_by_der : Avoids P (S der) → IsByDer (λ v w. option_eq s v.0 w.0 && t v.1 w.1) (λ m. optional (R m) ⨟ S m)
  maybe_by_der g = record {
    within = λ b v r. (r.0, r.1, r.2, optional_within h.within r.0 v.0 r.3, k.within r.1 v.1 r.4);
    canonical = maybe_canonical f h.canonical k.canonical g;
    equivalence = and_equiv (on_equiv (λ (v : Option V × W). v.0) (options_equiv h.equivalence)) (on_equiv (λ (v : Option V × W). v.1) k.equivalence);
  }
