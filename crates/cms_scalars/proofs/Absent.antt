-- BOOLEAN DEFAULT FALSE: its laws are those of a BOOLEAN that may be absent.
use Rattle.std.proofs.Common.{◌≡◌, ◌≢◌, ◌==◌, ℕ, Bool, true, false, List, [], length, ◌↔◌, Option, None, Some, refl, sym, ap, subst, ◌∙◌}
use Rattle.std.specs.Prelude.{◌||◌}
use Rattle.std.specs.Option.{option_eq}
use Rattle.std.specs.Cmp.{booleans_Decides, bool_eq_equiv, and_equiv, on_equiv}
use mathlib.Core.Bool.{◌&&◌, beq}
use Rattle.cms_tlv.specs.declared.bound.Bound.{Bound}
use Rattle.cms_tlv.specs.Spelling.{Rules, ber, minimal, der, Spelling, ◌⨟◌, optional}
use Rattle.cms_tlv.specs.Reading.{Reader}
use Rattle.cms_tlv.specs.Law.{ReadsTo, IsContents}
use Rattle.cms_tlv.proofs.SpellingLaws.{maybe_contents}
use Rattle.cms_fields.specs.Assembly.{Marked, Assembly, IsAssembled}
use Rattle.cms_fields.specs.FirstOctets.{are_apart}
use Rattle.cms_fields.specs.Readers.{Begins}
use Rattle.cms_fields.specs.Canonical.{IsByDer}
use Rattle.cms_fields.specs.Sinks.{Taking, TakingLaws, Emits}
use Rattle.cms_fields.specs.Writing.{IsWritten}
use Rattle.cms_fields.proofs.ReaderLaws.{avoids, maybe_both_read, maybe_begins, pairs}
use Rattle.cms_fields.proofs.DerLaws.{maybe_by_der}
use Rattle.cms_scalars.specs.Image.{image}
use Rattle.cms_scalars.specs.Booleans.{boolean, is_set, default_false, unless_false, with_default_false, default_false_then_of}
use Rattle.cms_scalars.proofs.Made.{made_contents, made_contents_read}
use Rattle.cms_scalars.proofs.Truth.{boolean_reads, boolean_field, boolean_by_der}

-- what is there for a value by DER
kept : Bool → Option Bool
kept true = Some true
kept false = None

as_kept : (b : List ℕ) (v : Bool) → default_false der b v → optional (boolean der) b (kept v)
unfolding kept
as_kept b true s = s
as_kept b false s = s

set_again : (v : Bool) → is_set (kept v) ≡ v
unfolding kept
set_again true = refl
set_again false = refl

same_kept : (v w : Bool) → option_eq beq (kept v) (kept w) ≡ beq v w
unfolding kept
same_kept true true = refl
same_kept true false = refl
same_kept false true = refl
same_kept false false = refl

within : (b : List ℕ) (v : Bool) → default_false der b v → default_false ber b v
within b true s = (Some true, refl, boolean_by_der.within b true s)
within b false s = (None, refl, s)

module _ {W : Type 0} (S : Spelling W) where
  into : (m : Rules) (b : List ℕ) (v : Bool × W) → (default_false m ⨟ S) b v → image with_default_false (optional (boolean m) ⨟ S) b v
  into ber b v (b₁, b₂, e, (o, t, s), r) = ((o, v.1), pairs t refl, (b₁, b₂, e, s, r))
  into minimal b v (b₁, b₂, e, (o, t, s), r) = ((o, v.1), pairs t refl, (b₁, b₂, e, s, r))
  into der b v (b₁, b₂, e, s, r) = ((kept v.0, v.1), pairs (set_again v.0) refl, (b₁, b₂, e, as_kept b₁ v.0 s, r))

  back : (m : Rules) → m ≢ der → (b : List ℕ) (v : Bool × W) → image with_default_false (optional (boolean m) ⨟ S) b v → (default_false m ⨟ S) b v
  back ber n b v (x, f, (b₁, b₂, e, s, r)) = (b₁, b₂, e, (x.0, ap (λ (z : Bool × W). z.0) f, s), subst (S b₂) (ap (λ (z : Bool × W). z.1) f) r)
  back minimal n b v (x, f, (b₁, b₂, e, s, r)) = (b₁, b₂, e, (x.0, ap (λ (z : Bool × W). z.0) f, s), subst (S b₂) (ap (λ (z : Bool × W). z.1) f) r)
  back der n b v s = absurd (n refl)

module _ {W : Type 0} {q : ℕ → Bool} {S : Spelling W} (k : IsContents S) (j : Begins (λ t. q t ≡ true) S)
    (apart : are_apart 0x100 (λ t. t == 0x01) q ≡ true) (m : Rules) where
  pub default_contents : IsContents (default_false m ⨟ S)
  default_contents = (let f = made_contents with_default_false (maybe_contents (boolean_field m) k (avoids (boolean_field m) k j apart)) in record {
    frames = λ b v r. f.frames b v (into S m b v r);
    same = λ b v w r u. f.same b v w (into S m b v r) (into S m b w u);
  })

  pub default_begins : Begins (λ t. ((t == 0x01) || q t) ≡ true) (default_false m ⨟ S)
  default_begins = (let f = maybe_begins (boolean_field m) k j apart in record { begins = λ b v t r s e. (let i = into S m b v s in f.begins b i.0 t r i.2 e) })

  pub default_reads : m ≢ der → {g : Bound → Reader W} → ReadsTo m S (λ w. w) g → ReadsTo m (default_false m ⨟ S) (λ v. v) (default_false_then_of g)
  unfolding default_false_then_of
  default_reads n r = (let f = made_contents_read with_default_false (maybe_both_read (boolean_field m) k j apart (boolean_reads m n) r) in record {
    sound = λ bd c d v i e. (let p = f.sound bd c d v i e in (p.0, p.1, p.2, p.3, p.4, back S m n p.1 p.0 p.5, p.6));
    complete = λ bd c d b o v i n s e room. f.complete bd c d b o v i n (into S m b v s) e room;
    cut = f.cut;
  })

module _ {W : Type 0} {q : ℕ → Bool} {t : W → W → Bool} {S : Rules → Spelling W} (k : IsContents (S der))
    (j : Begins (λ t. q t ≡ true) (S der)) (apart : are_apart 0x100 (λ t. t == 0x01) q ≡ true) (h : IsByDer t S) where
  pub default_by_der : IsByDer (λ v w. beq v.0 w.0 && t v.1 w.1) (λ m. default_false m ⨟ S m)
  unfolding into kept
  default_by_der =
      let f = maybe_by_der (boolean_field der) boolean_by_der h (avoids (boolean_field der) k j apart) in
      record {
        within = λ b v r. (r.0, r.1, r.2, within r.0 v.0 r.3, h.within r.1 v.1 r.4);
        canonical =
            record {
              alike = λ b c v w r u. (let x = into (S der) der b v r in let y = into (S der) der c w u in
                  f.canonical.alike b c x.0 y.0 x.2 y.2 ∙ ap (λ z. z && t v.1 w.1) (same_kept v.0 w.0));
            };
        equivalence = and_equiv (on_equiv (λ (v : Bool × W). v.0) bool_eq_equiv) (on_equiv (λ (v : Bool × W). v.1) h.equivalence);
      }

-- what is written for TRUE is what is written for a BOOLEAN
pub true_alike : (v : Bool) → v ≡ true → (o : List ℕ) → IsWritten (boolean der) beq true o ↔ IsWritten (default_false der) beq v o
true_alike false e o = absurd cc
true_alike true e o = (
  λ w. (let z : true ≡ w.value = (booleans_Decides true w.value).0 w.same in
      record { value = true; spells = subst (boolean der o) (sym z) w.spells; same = refl }),
  λ w. (let z : true ≡ w.value = (booleans_Decides true w.value).0 w.same in
      record { value = true; spells = subst (default_false der o) (sym z) w.spells; same = refl }),
)

pub true_assembled : {A : Assembly Bool} (v : Bool) → v ≡ true → (m : List Marked) → IsAssembled A beq true m → IsAssembled (unless_false A) beq v m
true_assembled false e m h = absurd cc
true_assembled {A = A} true e m h =
    let z : true ≡ h.value = (booleans_Decides true h.value).0 h.same in
    record { value = true; assembles = subst (A m) (sym z) h.assembles; same = refl }

-- for FALSE nothing is
pub false_emits : {S : Type 0} {t : Taking S} (A : Assembly Bool) → TakingLaws t → (v : Bool) → v ≡ false → (k : List ℕ) (a : S)
    → Emits t (default_false der) (unless_false A) beq v k a a
false_emits A laws true e k a = absurd cc
false_emits A laws false e k a = record {
  octets = [];
  put = laws.nothing k a;
  written = record { value = false; spells = refl; same = refl };
  assembled = record { value = false; assembles = refl; same = refl };
  each = λ o w. (let z : false ≡ w.value = (booleans_Decides false w.value).0 w.same in ap length (subst (default_false der o) (sym z) w.spells));
}
