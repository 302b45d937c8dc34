-- The laws of contents of one of two kinds, distinguished by the value of their first field.
use Rattle.std.proofs.Common.{◌≡◌, ◌↔◌, ℕ, ◌+◌, Bool, true, false, cond, List, ◌++◌, length, Option, Ok, refl, sym, ap, subst, ◌∙◌, inl, inr, ◌⊎◌, arith, length-append}
use Rattle.std.specs.Prelude.{bytes_eq}
use mathlib.Core.Bool.{◌&&◌}
use Rattle.std.specs.Cmp.{IsEquivalence, and_equiv, on_equiv, first_so, second_so}
use Rattle.std.proofs.lemmas.Slice.Eq.{bytes_eq-Decides}
use Rattle.cms_tlv.specs.declared.bound.Bound.{Bound}
use Rattle.cms_tlv.specs.declared.fault.Fault.{Fault}
use Rattle.cms_tlv.specs.Frames.{Frames, more}
use Rattle.cms_tlv.specs.Spelling.{◌⨟◌, Rules, ber, der, Spelling, either}
use Rattle.cms_tlv.specs.Reading.{Cursor, Reader, ◌>>=◌, give}
use Rattle.cms_tlv.specs.Clauses.{Room}
use Rattle.cms_tlv.specs.State.{State}
use Rattle.cms_tlv.specs.Refines.{Simulates, RefinesWithValue, Failed}
use Rattle.cms_tlv.specs.Law.{Moves, Follows, Ended, Reads, ReadsTo, IsField, IsContents}
use Rattle.cms_tlv.proofs.Inverse.{bind_ok, bind_err, bound_again}
use Rattle.cms_tlv.proofs.ReadingLaws.{moves_then, midway, moves_prefix, moves_suffix, room_less, room_from, ended_prefix, ended_suffix}
use Rattle.cms_tlv.proofs.SpellingLaws.{not_end, field_cut}
use Rattle.cms_tlv.proofs.Sequences.{cut_first, cut_later}
use Rattle.cms_tlv.proofs.Bind.{fails, then_fails, then_reaches, gave, kept_by}
use Rattle.cms_tlv.proofs.Exits.{at_last, later, still}
use Rattle.cms_fields.specs.declared.choice.Choice.{Choice}
use Rattle.cms_fields.specs.declared.choice.Choice.TheVariants as choices
use Rattle.cms_fields.specs.Canonical.{IsByDer, IsCanonical}
use Rattle.cms_fields.specs.Choices.{choice_value, same_choice}
use Rattle.cms_fields.specs.Grammar.{is_either, is_of}
use Rattle.cms_fields.specs.Readers.{Begins}
use Rattle.cms_fields.specs.Selected.{then_by_value, either_by, is_selected, selected_of}
use Rattle.cms_fields.specs.Writing.{IsWritten}
use Rattle.cms_fields.proofs.CanonicalLaws.{canonical_by, both_true, to_same, to_equal}
use Rattle.cms_fields.proofs.ChoiceLaws.{choice_equivalence}
use Rattle.cms_fields.proofs.ReaderLaws.{mapped_reads, field_begins, pairs}

not_both : {b : Bool} → b ≡ true → b ≡ false → ⊥
not_both p q = (let e : true ≡ false = sym p ∙ q in cc)

-- One kind.

module _ {V W : Type 0} {R : Spelling V} {S : Spelling W} where
  pub selected_contents : (t : Bool) → IsContents R → IsContents S → IsContents (either_by t R S)
  selected_contents t f g = record { frames = frames; same = same }
    where
      frames : (b : List ℕ) (x : V ⊎ W) → either_by t R S b x → Frames b
      frames b (inl v) r = f.frames b v r.1
      frames b (inr w) r = g.frames b w r.1

      same : (b : List ℕ) (x y : V ⊎ W) → either_by t R S b x → either_by t R S b y → x ≡ y
      same b (inl v) (inl w) r s = ap inl (f.same b v w r.1 s.1)
      same b (inl v) (inr w) r s = absurd (not_both r.0 s.0)
      same b (inr v) (inl w) r s = absurd (not_both s.0 r.0)
      same b (inr v) (inr w) r s = ap inr (g.same b v w r.1 s.1)

  pub first_reads : {A : Type 0} {m : Rules} {k : V ⊎ W → A} {g : Bound → Reader A} → ReadsTo m R (λ v. k (inl v)) g → ReadsTo m (either_by true R S) k g
  first_reads {m = m} {k = k} {g = g} r = record {
    sound = λ bd c d a i e. (let n = r.sound bd c d a i e in (inl n.0, n.1, n.2, n.3, n.4, (refl, n.5), n.6));
    complete = λ bd c d b o x i n s e room. all bd c d b o x i n s e room;
    cut = r.cut;
  }
    where
      all : (bd : Bound) (c d : Cursor) (b o : List ℕ) (x : V ⊎ W) → Follows m bd → Moves c o d → either_by true R S b x
          → Ended bd c.at b o → Room bd.end c.limit c.at (length o) → g bd c ≡ Ok (k x, d)
      all bd c d b o (inl v) i n s e room = r.complete bd c d b o v i n s.1 e room
      all bd c d b o (inr w) i n s e room = absurd (not_both refl s.0)

  pub second_reads : {A : Type 0} {m : Rules} {k : V ⊎ W → A} {g : Bound → Reader A} → ReadsTo m S (λ w. k (inr w)) g → ReadsTo m (either_by false R S) k g
  second_reads {m = m} {k = k} {g = g} r = record {
    sound = λ bd c d a i e. (let n = r.sound bd c d a i e in (inr n.0, n.1, n.2, n.3, n.4, (refl, n.5), n.6));
    complete = λ bd c d b o x i n s e room. all bd c d b o x i n s e room;
    cut = r.cut;
  }
    where
      all : (bd : Bound) (c d : Cursor) (b o : List ℕ) (x : V ⊎ W) → Follows m bd → Moves c o d → either_by false R S b x
          → Ended bd c.at b o → Room bd.end c.limit c.at (length o) → g bd c ≡ Ok (k x, d)
      all bd c d b o (inl v) i n s e room = absurd (not_both s.0 refl)
      all bd c d b o (inr w) i n s e room = r.complete bd c d b o w i n s.1 e room

  pub selected_reads : {A : Type 0} {m : Rules} {g : Bound → Reader V} {h : Bound → Reader W} (a : A) (t : Bool) → ReadsTo m R (λ v. v) g
      → ReadsTo m S (λ w. w) h → ReadsTo {A = A × (V ⊎ W)} m (either_by t R S) (λ (x : V ⊎ W). (a, x))
      (λ bd. cond t (g bd >>= λ v. give (a, inl v)) (h bd >>= λ w. give (a, inr w)))
  selected_reads a true r s = first_reads (mapped_reads (λ v. (a, inl v)) r)
  selected_reads a false r s = second_reads (mapped_reads (λ w. (a, inr w)) s)

  pub selected_canonical : {s : V → V → Bool} {u : W → W → Bool} (t : Bool) → IsCanonical s R → IsCanonical u S
      → IsCanonical (same_choice s u) (either_by t R S)
  selected_canonical {s = s} {u = u} t k j = canonical_by _ (λ b c x y r q. (to b c x y r q, from b c x y r q))
    where
      to : (b c : List ℕ) (x y : V ⊎ W) → either_by t R S b x → either_by t R S c y → b ≡ c → same_choice s u x y ≡ true
      to b c (inl v) (inl w) r q e = to_same k b c v w r.1 q.1 e
      to b c (inl v) (inr w) r q e = absurd (not_both r.0 q.0)
      to b c (inr v) (inl w) r q e = absurd (not_both q.0 r.0)
      to b c (inr v) (inr w) r q e = to_same j b c v w r.1 q.1 e

      from : (b c : List ℕ) (x y : V ⊎ W) → either_by t R S b x → either_by t R S c y → same_choice s u x y ≡ true → b ≡ c
      from b c (inl v) (inl w) r q e = to_equal k b c v w r.1 q.1 e
      from b c (inl v) (inr w) r q e = absurd cc
      from b c (inr v) (inl w) r q e = absurd cc
      from b c (inr v) (inr w) r q e = to_equal j b c v w r.1 q.1 e

-- of either kind
of_either : {V W : Type 0} (R : Spelling V) (S : Spelling W) (t : Bool) (b : List ℕ) (y : V ⊎ W) → either_by t R S b y → either R S b y
of_either R S t b (inl v) r = r.1
of_either R S t b (inr w) r = r.1

pub selected_within : {V W : Type 0} {R R' : Spelling V} {S S' : Spelling W} (t : Bool) → ((b : List ℕ) (v : V) → R b v → R' b v)
    → ((b : List ℕ) (w : W) → S b w → S' b w) → (b : List ℕ) (x : V ⊎ W) → either_by t R S b x → either_by t R' S' b x
selected_within t h k b (inl v) r = (r.0, h b v r.1)
selected_within t h k b (inr w) r = (r.0, k b w r.1)

-- A field, and what its value says.

later_room : (end : Option ℕ) {c m : Cursor} (b : List ℕ) → Moves c b m → Room end m.limit m.at (length m.rest + 1) → Room end c.limit c.at (length c.rest + 1)
later_room end {c = c} {m = m} b p r = room_from end m.limit m.at c.limit c.at (length m.rest + 1) (length c.rest + 1) p.limit
    (omega (arith, p.at, ap length p.rest, length-append b m.rest)) r

module _ {V W : Type 0} {P : ℕ → Type 0} {R : Spelling V} (h : IsField P R) where
  pub followed_contents : {S : V → Spelling W} → ((v : V) → IsContents (S v)) → IsContents (then_by_value R S)
  followed_contents {S = S} g = record {
    frames = λ b v r. subst Frames (sym r.2) (more (h.frame r.0 v.0 r.3) (not_end h r.0 v.0 r.3) ((g v.0).frames r.1 v.1 r.4));
    same = λ b v w r q.
        let k = field_cut h r.0 q.0 r.1 q.1 v.0 w.0 r.3 q.3 (sym r.2 ∙ q.2) in
        pairs k.1 ((g w.0).same q.1 v.1 w.1 (subst (λ c. S w.0 c v.1) k.2 (subst (λ z. S z r.1 v.1) k.1 r.4)) q.4);
  }

  pub followed_begins : (S : V → Spelling W) → Begins P (then_by_value R S)
  followed_begins S = record { begins = λ b v t r s e. field_begins h s.0 s.1 v.0 t r s.3 (sym s.2 ∙ e) }

  pub followed_reads : {A : Type 0} {m : Rules} {S : V → Spelling W} {k : V × W → A} {f : Bound → Reader V} {g : V → Bound → Reader A}
      → Reads m R f → ((v : V) → ReadsTo m (S v) (λ w. k (v, w)) (g v)) → ReadsTo m (then_by_value R S) k (λ bd. f bd >>= λ v. g v bd)
  followed_reads {f = f} {g = g} r t = record {
    sound = λ bd c d a o e.
        let s = bind_ok (f bd) (λ v. g v bd) c e in
        let p = r.sound bd c s.1 s.0 o s.2 in
        let q = (t s.0).sound bd s.1 d a o s.3 in (
          (s.0, q.0),
          p.0 ++ q.1,
          p.0 ++ q.2,
          ended_prefix bd.indefinite bd.end c.at s.1.at p.0 q.1 q.2 p.1.at q.3,
          moves_then p.1 q.4,
          (p.0, q.1, refl, p.2, q.5),
          q.6,
        );
    complete = λ bd c d b o w i u s e room.
        let b1 = s.0 in
        let b2 = s.1 in
        let z = ended_suffix bd.indefinite bd.end c.at b1 b2 o (subst (λ t. Ended bd c.at t o) s.2 e) in
        let u' : Moves c (b1 ++ z.rest) d = subst (λ t. Moves c t d) z.whole u in
        let l : length o ≡ length b1 + length z.rest = ap length z.whole ∙ length-append b1 z.rest in
        let mid = midway c b1 z.rest d in
        let one = r.complete bd c mid b1 w.0 i (moves_prefix b1 z.rest u') s.3 (room_less bd.end c.limit c.at (length o) (length b1) (omega (arith, l)) room) in
        let two =
        (t w.0).complete bd mid d b2 z.rest w.1 i (moves_suffix b1 z.rest u') s.4 z.ended
        (room_from bd.end c.limit c.at c.limit (c.at + length b1) (length o) (length z.rest) refl (omega (arith, l)) room) in
        bound_again (f bd) (λ v. g v bd) c w.0 mid one ∙ two;
    cut = λ bd c at i e. elim (bind_err (f bd) (λ v. g v bd) c e) [
      | inl x ↦ let y = r.cut bd c at i x in ((λ _. cut_first y.0), y.1)
      | inr x ↦
          let p = r.sound bd c x.1 x.0 i x.2 in
          let y = (t x.0).cut bd x.1 at i x.3 in
          ((λ j. cut_later p.0 p.1.rest (h.frame p.0 x.0 p.2) (not_end h p.0 x.0 p.2) (y.0 j)), later_room bd.end p.0 p.1 y.1)
    ];
  }

module _ {V W : Type 0} {P : ℕ → Type 0} {s : V → V → Bool} {u : W → W → Bool} {R : Rules → Spelling V} (S : Rules → V → Spelling W)
    (f : IsField P (R der)) (h : IsByDer s R) where
  pub followed_by_der : IsEquivalence u → ((v : V) (b : List ℕ) (w : W) → S der v b w → S ber v b w) → ((v : V) → IsCanonical u (S der v))
      → IsByDer (λ v w. s v.0 w.0 && u v.1 w.1) (λ m. then_by_value (R m) (S m))
  followed_by_der e within j = record {
    within = λ b v r. (r.0, r.1, r.2, h.within r.0 v.0 r.3, within v.0 r.1 v.1 r.4);
    canonical = canonical_by _ (λ b c v w r q. (
      (λ d. let k = field_cut f r.0 q.0 r.1 q.1 v.0 w.0 r.3 q.3 (sym r.2 ∙ d ∙ q.2) in
          both_true _ _ (to_same h.canonical r.0 q.0 v.0 w.0 r.3 q.3 k.0)
          (to_same (j w.0) r.1 q.1 v.1 w.1 (subst (λ z. S der z r.1 v.1) k.1 r.4) q.4 k.2)),
      (λ d.
          let k : r.0 ≡ q.0 = to_equal h.canonical r.0 q.0 v.0 w.0 r.3 q.3 (first_so _ _ d) in
          let l : v.0 ≡ w.0 = f.same q.0 v.0 w.0 (subst (λ z. R der z v.0) k r.3) q.3 in
          let i = to_equal (j w.0) r.1 q.1 v.1 w.1 (subst (λ z. S der z r.1 v.1) l r.4) q.4 (second_so _ _ d) in
          cc (r.2, q.2)),
    ));
    equivalence = and_equiv (on_equiv (λ (v : V × W). v.0) h.equivalence) (on_equiv (λ (v : V × W). v.1) e);
  }

-- The field, then the kind that its value selects.

module _ {A V W : Type 0} {P : ℕ → Type 0} (test : A → Bool) {R : Spelling A} (h : IsField P R) {S : Spelling V} {T : Spelling W} where
  pub by_value_contents : IsContents S → IsContents T → IsContents (then_by_value R (λ a. either_by (test a) S T))
  by_value_contents f g = followed_contents h (λ a. selected_contents (test a) f g)

  pub by_value_reads : {m : Rules} {f : Bound → Reader A} {g : Bound → Reader V} {k : Bound → Reader W} → Reads m R f
      → ReadsTo m S (λ v. v) g → ReadsTo m T (λ w. w) k → ReadsTo m (then_by_value R (λ a. either_by (test a) S T)) (λ x. x)
      (selected_of test f g k)
  unfolding selected_of
  by_value_reads r s t = followed_reads h {k = λ (x : A × (V ⊎ W)). x} r (λ a. selected_reads a (test a) s t)

pub by_value_by_der :
    {A V W : Type 0} {P : ℕ → Type 0} {q : A → A → Bool} {s : V → V → Bool} {u : W → W → Bool} (test : A → Bool) {R : Rules → Spelling A}
    {S : Rules → Spelling V} {T : Rules → Spelling W} → IsField P (R der) → IsByDer q R → IsByDer s S → IsByDer u T
    → IsByDer (λ v w. q v.0 w.0 && same_choice s u v.1 w.1) (λ m. then_by_value (R m) (λ a. either_by (test a) (S m) (T m)))
by_value_by_der test {S = S} {T = T} f h i j = followed_by_der (λ m a. either_by (test a) (S m) (T m)) f h
    (choice_equivalence i.equivalence j.equivalence) (λ a. selected_within (test a) i.within j.within)
    (λ a. selected_canonical (test a) i.canonical j.canonical)

-- What is written.

told :
    {X Y V W : Type 0} (R : Spelling V) (S : Spelling W) (s : V → V → Bool) (u : W → W → Bool) (f : X → V) (g : Y → W) (t : Bool)
    (z : Choice X Y) (y : V ⊎ W) (b : List ℕ) → is_selected t z → same_choice s u (choice_value f g z) y ≡ true → either R S b y
    → either_by t R S b y
told R S s u f g t (choices.First a) (inl w) b i e r = (i, r)
told R S s u f g t (choices.First a) (inr w) b i e r = absurd cc
told R S s u f g t (choices.Second a) (inl w) b i e r = absurd cc
told R S s u f g t (choices.Second a) (inr w) b i e r = (i, r)

module _ {X Y V W : Type 0} (test : List ℕ → Bool) (Q : Spelling (List ℕ)) {R : Spelling V} {S : Spelling W} {s : V → V → Bool}
    {u : W → W → Bool} (f : X → V) (g : Y → W) (v : List ℕ) (x : Choice X Y) (due : is_selected (test v) x) where
  pub by_value_alike : (o : List ℕ)
      → IsWritten (Q ⨟ either R S) (λ y z. bytes_eq y.0 z.0 && same_choice s u y.1 z.1) (v, choice_value f g x) o
      ↔ IsWritten (then_by_value Q (λ t. either_by (test t) R S)) (λ y z. bytes_eq y.0 z.0 && same_choice s u y.1 z.1)
      (v, choice_value f g x) o
  by_value_alike o = (
    λ h.
        let r = h.spells in
        let first = (bytes_eq-Decides v h.value.0).0 (first_so (bytes_eq v h.value.0) (same_choice s u (choice_value f g x) h.value.1) h.same) in
        let rest = second_so (bytes_eq v h.value.0) (same_choice s u (choice_value f g x) h.value.1) h.same in
        record {
          value = h.value;
          spells = (r.0, r.1, r.2, r.3, told R S s u f g (test h.value.0) x h.value.1 r.1 (subst (λ z. is_selected (test z) x) first due) rest r.4);
          same = h.same;
        },
    λ h.
        let r = h.spells in
        record { value = h.value; spells = (r.0, r.1, r.2, r.3, of_either R S (test h.value.0) r.1 h.value.1 r.4); same = h.same },
  )

-- a spelled value is of the kind that is due
pub selected_known : {V W : Type 0} (t : Bool) (R : Spelling V) (S : Spelling W) {P : V → Type 0} {Q : W → Type 0} {b : List ℕ}
    → ((v : V) → R b v → P v) → ((w : W) → S b w → Q w) → (z : V ⊎ W) → either_by t R S b z → is_of t z × is_either P Q z
selected_known t R S h k (inl v) r = (r.0, h v r.1)
selected_known t R S h k (inr w) r = (r.0, k w r.1)

pub shown_is_selected : {X Y V W : Type 0} (t : Bool) (f : X → V) (g : Y → W) (z : Choice X Y) → is_of t (choice_value f g z) → is_selected t z
shown_is_selected t f g (choices.First x) e = e
shown_is_selected t f g (choices.Second y) e = e

-- The exits of the reader, after the first field.
module _ {Z A V W : Type 0} (test : A → Bool) (f : Bound → Reader A) (g : Bound → Reader V) (h : Bound → Reader W) (bd : Bound)
    {a b : State} {show : State → Z → A} {z : Z} (first : RefinesWithValue show (f bd) a b z) where
  pub first_fails : {c : State} {e : Fault} → test (show b z) ≡ true → Failed (g bd) b c e → Failed (selected_of test f g h bd) a c e
  unfolding selected_of
  first_fails t q = then_fails _ first (rw t (fails _ q))

  pub second_fails : {c : State} {e : Fault} → test (show b z) ≡ false → Failed (h bd) b c e → Failed (selected_of test f g h bd) a c e
  unfolding selected_of
  second_fails t q = then_fails _ first (rw t (fails _ q))

  module _ {X Y : Type 0} (view : State → X → V) (see : State → Y → W) where
    abbrev shown : State → Z × Choice X Y → A × (V ⊎ W)
    shown s p = (show s p.0, choice_value (view s) (see s) p.1)

    pub first_gave : {c : State} {x : X} → test (show b z) ≡ true → RefinesWithValue view (g bd) b c x
        → RefinesWithValue shown (selected_of test f g h bd) a c (z, choices.First x)
    unfolding selected_of
    first_gave {c = c} {x = x} t q =
        let k = kept_by q.reaches in
        let one : Reader (A × (V ⊎ W)) = g bd >>= λ v. give (show b z, inl v) in
        let e : cond (test (show b z)) one (h bd >>= λ w. give (show b z, inr w)) ≡ one = rw t refl in
        gave _ (then_reaches _ first (subst (λ r. Simulates r b (give (show b z, inl (view c x))) c) (sym e)
        (then_reaches _ q (at_last c)))) (pairs (later first k) refl) q.sound (λ d l. pairs (still first k l) (ap inl (q.lasts d l)))

    pub second_gave : {c : State} {y : Y} → test (show b z) ≡ false → RefinesWithValue see (h bd) b c y
        → RefinesWithValue shown (selected_of test f g h bd) a c (z, choices.Second y)
    unfolding selected_of
    second_gave {c = c} {y = y} t q =
        let k = kept_by q.reaches in
        let other : Reader (A × (V ⊎ W)) = h bd >>= λ w. give (show b z, inr w) in
        let e : cond (test (show b z)) (g bd >>= λ v. give (show b z, inl v)) other ≡ other = rw t refl in
        gave _ (then_reaches _ first (subst (λ r. Simulates r b (give (show b z, inr (see c y))) c) (sym e)
        (then_reaches _ q (at_last c)))) (pairs (later first k) refl) q.sound (λ d l. pairs (still first k l) (ap inr (q.lasts d l)))
