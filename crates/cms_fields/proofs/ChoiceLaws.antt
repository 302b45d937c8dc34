-- The laws of a choice of two fields.
use Rattle.std.proofs.Common.{◌≡◌, ℕ, suc, ◌<◌, Bool, true, false, cond, List, ◌∷◌, ◌++◌, length, Option, Some, Ok, refl, sym, ap, subst, ◌∙◌, inl, inr, ◌⊎◌, ◌↔◌, arith}
use Rattle.std.specs.Prelude.{◌||◌}
use Rattle.std.specs.Cmp.{IsEquivalence}
use Rattle.cms_tlv.specs.declared.fault.Reason.TheVariants.{Truncated}
use Rattle.cms_tlv.specs.declared.bound.Bound.{Bound}
use Rattle.cms_tlv.specs.Frames.{IsDerFrame}
use Rattle.cms_tlv.specs.Spelling.{Rules, ber, der, Spelling, either}
use Rattle.cms_tlv.specs.Reading.{Cursor, stop, Reader, ◌>>=◌, give, may_be, peek_of}
use Rattle.cms_tlv.specs.Clauses.{Room}
use Rattle.cms_tlv.specs.State.{State}
use Rattle.cms_tlv.specs.declared.fault.Fault.{Fault}
use Rattle.cms_tlv.specs.Refines.{Simulates, RefinesWithValue, Failed, plain}
use Rattle.cms_tlv.proofs.Bind.{fails, then_fails, then_reaches, gave}
use Rattle.cms_tlv.proofs.Exits.{at_last}
use Rattle.cms_fields.specs.declared.choice.Choice.{Choice}
use Rattle.cms_fields.specs.declared.choice.Choice.TheVariants as choices
use Rattle.cms_tlv.specs.Law.{Moves, Follows, Reads, IsField}
use Rattle.cms_tlv.proofs.SpellingLaws.{either_field}
use Rattle.cms_tlv.proofs.ReadingLaws.{room_less}
use Rattle.cms_tlv.proofs.Inverse.{okay, bad, ok_value, ok_place, branch, bind_ok, bind_err, bound_again}
use Rattle.cms_tlv.proofs.Ends.{peek_same, peek_some, peek_cut, field_octet}
use Rattle.cms_tlv.proofs.Fields.{shown}
use Rattle.cms_fields.specs.Assembly.{Marked, Assembly, IsAssembled, either_assembled}
use Rattle.cms_fields.specs.FirstOctets.{are_apart}
use Rattle.cms_fields.specs.Canonical.{IsByDer, IsDerFramed}
use Rattle.cms_fields.specs.Writing.{IsWritten}
use Rattle.cms_fields.specs.Choices.{choice_of, choice_value, same_choice}
use Rattle.cms_fields.specs.Grammar.{is_either}
use Rattle.cms_fields.proofs.FirstOctetLaws.{apart_at}
use Rattle.cms_fields.proofs.ReaderLaws.{yes_left, yes_right}
use Rattle.cms_fields.proofs.CanonicalLaws.{canonical_by, to_same, to_equal}

-- the next octet is there, and is told
pub next_seen : {U : Type 0} {P : ℕ → Type 0} {T : Spelling U} → IsField P T → (bd : Bound) (c d : Cursor) (b : List ℕ) (x : U)
    → Moves c b d → T b x → Room bd.end c.limit c.at (length b) → (t : ℕ) × (t < 0x100) × P t × (peek_of bd c ≡ okay (Some t, c))
next_seen y bd c d b x n s room =
    let z = y.starts b x s in
    let l : length b ≡ suc (length z.1) = ap length z.2 in
    let o = field_octet z.0 z.1 (y.frame b x s) z.2 in
    let rest : c.rest ≡ z.0 ∷ (z.1 ++ d.rest) = n.rest ∙ ap (λ t. t ++ d.rest) z.2 in
    let there = peek_some bd c z.0 (z.1 ++ d.rest) rest o (room_less bd.end c.limit c.at (length b) 1 (omega (arith, l)) room) in
    (z.0, o, z.4, there ∙ ap (λ t. okay (t, c)) (shown bd.indefinite z.0 z.3))

-- what is read of either kind
abbrev pub one : {V : Type 0} (W : Type 0) → (Bound → Reader V) → Bound → Reader (V ⊎ W)
one W f bd = f bd >>= λ v. give (inl v)

abbrev pub other : (V : Type 0) {W : Type 0} → (Bound → Reader W) → Bound → Reader (V ⊎ W)
other V g bd = g bd >>= λ w. give (inr w)

-- the first octet is an octet
with_octet : {V : Type 0} {P : ℕ → Type 0} {R : Spelling V} → IsField P R → IsField (λ t. (t < 0x100) × P t) R
with_octet f =
    record {
      frame = f.frame;
      starts = λ b v r. (let z = f.starts b v r in
          (z.0, z.1, z.2, z.3, (field_octet z.0 z.1 (f.frame b v r) z.2, z.4)));
      same = f.same;
    }

module _ {V W : Type 0} {p q : ℕ → Bool} {R : Spelling V} {S : Spelling W} (h : IsField (λ t. p t ≡ true) R)
    (k : IsField (λ t. q t ≡ true) S) (apart : are_apart 0x100 p q ≡ true) where
  pub choice_field : IsField (λ t. (p t || q t) ≡ true) (either R S)
  choice_field =
      let f = either_field (with_octet h) (with_octet k) (λ t a b. apart_at 0x100 p q apart t a.0 a.1 b.1) in
      record {
        frame = f.frame;
        starts =
            λ b x r. (let z = f.starts b x r in (
              z.0,
              z.1,
              z.2,
              z.3,
              elim z.4 [ inl a ↦ yes_left (p z.0) (q z.0) a.1 | inr a ↦ yes_right (p z.0) (q z.0) a.1 ],
            ));
        same = f.same;
      }

  -- what begins the second begins not the first
  not_first : (t : ℕ) → t < 0x100 → q t ≡ true → p t ≡ false
  not_first t l e = go (p t) refl
    where
      go : (b : Bool) → p t ≡ b → p t ≡ false
      go true y = absurd (apart_at 0x100 p q apart t l y e)
      go false y = y

  module _ {m : Rules} {f : Bound → Reader V} {g : Bound → Reader W} (r : Reads m R f) (u : Reads m S g) where
    pub choice_reads : Reads m (either R S) (choice_of p f g)
    unfolding choice_of
    choice_reads = record {
      sound = λ bd c d x i e.
          let s = bind_ok (peek_of bd) _ c e in
          let at = peek_same bd c s.1 s.0 s.2 in
          elim (branch (may_be p s.0) (one W f bd) (other V g bd) s.1 (okay (x, d)) s.3) [
            | inl y ↦
                let t = bind_ok (f bd) _ s.1 y.1 in
                let n = r.sound bd s.1 t.1 t.0 i t.2 in
                (n.0, subst (λ z. Moves c n.0 z) (ok_place t.3) (subst (λ z. Moves z n.0 t.1) (sym at) n.1), subst (λ z. either R S n.0 z) (ok_value t.3) n.2)
            | inr y ↦
                let t = bind_ok (g bd) _ s.1 y.1 in
                let n = u.sound bd s.1 t.1 t.0 i t.2 in
                (n.0, subst (λ z. Moves c n.0 z) (ok_place t.3) (subst (λ z. Moves z n.0 t.1) (sym at) n.1), subst (λ z. either R S n.0 z) (ok_value t.3) n.2)
          ];
      complete = λ bd c d b x i n s room. all bd c d b x i n s room;
      cut = λ bd c stopped i e. elim (bind_err (peek_of bd) _ c e) [
        | inl x ↦ peek_cut bd c x
        | inr s ↦
            let at = peek_same bd c s.1 s.0 s.2 in
            elim (branch (may_be p s.0) (one W f bd) (other V g bd) s.1 (bad (stop Truncated stopped)) s.3) [
              | inl x ↦ elim (bind_err (f bd) _ s.1 x.1) [
                | inl y ↦ r.cut bd c stopped i (ap (f bd) at ∙ y)
                | inr y ↦ absurd (let z = y.3 in cc)
              ]
              | inr x ↦ elim (bind_err (g bd) _ s.1 x.1) [
                | inl y ↦ u.cut bd c stopped i (ap (g bd) at ∙ y)
                | inr y ↦ absurd (let z = y.3 in cc)
              ]
            ]
      ];
    }
      where
        all : (bd : Bound) (c d : Cursor) (b : List ℕ) (x : V ⊎ W) → Follows m bd → Moves c b d → either R S b x
            → Room bd.end c.limit c.at (length b) → (peek_of bd >>= λ o. cond (may_be p o) (one W f bd) (other V g bd)) c ≡ Ok (x, d)
        all bd c d b (inl v) i n s room =
            let z = next_seen h bd c d b v n s room in
            bound_again (peek_of bd) _ c (Some z.0) c z.3 ∙ ap (λ t. (cond t (one W f bd) (other V g bd)) c) z.2
            ∙ bound_again (f bd) _ c v d (r.complete bd c d b v i n s room)
        all bd c d b (inr w) i n s room =
            let z = next_seen k bd c d b w n s room in
            bound_again (peek_of bd) _ c (Some z.0) c z.3 ∙ ap (λ t. (cond t (one W f bd) (other V g bd)) c) (not_first z.0 z.1 z.2)
            ∙ bound_again (g bd) _ c w d (u.complete bd c d b w i n s room)

-- no octets spell both
module _ {V W : Type 0} {p q : ℕ → Bool} {R : Spelling V} {S : Spelling W} (h : IsField (λ x. p x ≡ true) R)
    (k : IsField (λ x. q x ≡ true) S) (apart : are_apart 0x100 p q ≡ true) where
  pub field_clash : (b : List ℕ) (v : V) (w : W) → R b v → S b w → ⊥
  field_clash b v w x y =
      let m = h.starts b v x in
      let n = k.starts b w y in
      let e : m.0 ∷ m.1 ≡ n.0 ∷ n.1 = sym m.2 ∙ n.2 in
      let d : m.0 ≡ n.0 = cc in
      apart_at 0x100 p q apart m.0 (field_octet m.0 m.1 (h.frame b v x) m.2) m.4 (subst (λ z. q z ≡ true) (sym d) n.4)

-- sameness of a choice
module _ {V W : Type 0} {s : V → V → Bool} {t : W → W → Bool} (i : IsEquivalence s) (j : IsEquivalence t) where
  same_self : (x : V ⊎ W) → same_choice s t x x ≡ true
  same_self (inl v) = i.refl v
  same_self (inr w) = j.refl w

  same_turned : (x y : V ⊎ W) → same_choice s t x y ≡ same_choice s t y x
  same_turned (inl v) (inl w) = i.symm v w
  same_turned (inl v) (inr w) = refl
  same_turned (inr v) (inl w) = refl
  same_turned (inr v) (inr w) = j.symm v w

  same_both : (x y z : V ⊎ W) → same_choice s t x y ≡ true → same_choice s t x z ≡ same_choice s t y z
  same_both (inl v) (inl w) (inl u) e = i.congr v w u e
  same_both (inl v) (inl w) (inr u) e = refl
  same_both (inl v) (inr w) z e = absurd cc
  same_both (inr v) (inl w) z e = absurd cc
  same_both (inr v) (inr w) (inl u) e = refl
  same_both (inr v) (inr w) (inr u) e = j.congr v w u e

  pub choice_equivalence : IsEquivalence (same_choice s t)
  choice_equivalence = record { refl = same_self; symm = same_turned; congr = same_both }

module _ {V W : Type 0} {s : V → V → Bool} {t : W → W → Bool} {R : Rules → Spelling V} {S : Rules → Spelling W}
    (clash : (b : List ℕ) (v : V) (w : W) → R der b v → S der b w → ⊥) (i : IsByDer s R) (j : IsByDer t S) where
  pub choice_by_der : IsByDer (same_choice s t) (λ m. either (R m) (S m))
  choice_by_der = record {
    within = within;
    canonical = canonical_by _ (λ b c x y r u. (to b c x y r u, from b c x y r u));
    equivalence = choice_equivalence i.equivalence j.equivalence;
  }
    where
      within : (b : List ℕ) (x : V ⊎ W) → either (R der) (S der) b x → either (R ber) (S ber) b x
      within b (inl v) r = i.within b v r
      within b (inr w) r = j.within b w r

      to : (b c : List ℕ) (x y : V ⊎ W) → either (R der) (S der) b x → either (R der) (S der) c y → b ≡ c → same_choice s t x y ≡ true
      to b c (inl v) (inl w) r u e = to_same i.canonical b c v w r u e
      to b c (inl v) (inr w) r u e = absurd (clash c v w (subst (λ z. R der z v) e r) u)
      to b c (inr v) (inl w) r u e = absurd (clash b w v (subst (λ z. R der z w) (sym e) u) r)
      to b c (inr v) (inr w) r u e = to_same j.canonical b c v w r u e

      from : (b c : List ℕ) (x y : V ⊎ W) → either (R der) (S der) b x → either (R der) (S der) c y → same_choice s t x y ≡ true → b ≡ c
      from b c (inl v) (inl w) r u e = to_equal i.canonical b c v w r u e
      from b c (inl v) (inr w) r u e = absurd cc
      from b c (inr v) (inl w) r u e = absurd cc
      from b c (inr v) (inr w) r u e = to_equal j.canonical b c v w r u e

-- what is written
module _ {V W : Type 0} (R : Spelling V) (S : Spelling W) (s : V → V → Bool) (t : W → W → Bool) where
  pub first_alike : (v : V) (o : List ℕ) → IsWritten R s v o ↔ IsWritten (either R S) (same_choice s t) (inl v) o
  first_alike v o = (λ h. record { value = inl h.value; spells = h.spells; same = h.same }, λ h. go h.value h.spells h.same)
    where
      go : (x : V ⊎ W) → either R S o x → same_choice s t (inl v) x ≡ true → IsWritten R s v o
      go (inl u) r e = record { value = u; spells = r; same = e }
      go (inr u) r e = absurd cc

  pub second_alike : (w : W) (o : List ℕ) → IsWritten S t w o ↔ IsWritten (either R S) (same_choice s t) (inr w) o
  second_alike w o = (λ h. record { value = inr h.value; spells = h.spells; same = h.same }, λ h. go h.value h.spells h.same)
    where
      go : (x : V ⊎ W) → either R S o x → same_choice s t (inr w) x ≡ true → IsWritten S t w o
      go (inl u) r e = absurd cc
      go (inr u) r e = record { value = u; spells = r; same = e }

-- what it is assembled of
module _ {V W : Type 0} {A : Assembly V} {B : Assembly W} {s : V → V → Bool} {t : W → W → Bool} {m : List Marked} where
  pub first_assembled : {v : V} → IsAssembled A s v m → IsAssembled (either_assembled A B) (same_choice s t) (inl v) m
  first_assembled h = record { value = inl h.value; assembles = h.assembles; same = h.same }

  pub second_assembled : {w : W} → IsAssembled B t w m → IsAssembled (either_assembled A B) (same_choice s t) (inr w) m
  second_assembled h = record { value = inr h.value; assembles = h.assembles; same = h.same }

-- The exits of its reader, after the look at the next octet.
module _ {V W : Type 0} (p : ℕ → Bool) (f : Bound → Reader V) (g : Bound → Reader W) (bd : Bound) {a b : State} {o : Option ℕ}
    (next : RefinesWithValue plain (peek_of bd) a b o) where
  pub first_fails : {c : State} {e : Fault} → may_be p o ≡ true → Failed (f bd) b c e → Failed (choice_of p f g bd) a c e
  unfolding choice_of
  first_fails t q = then_fails _ next (rw t (fails _ q))

  pub second_fails : {c : State} {e : Fault} → may_be p o ≡ false → Failed (g bd) b c e → Failed (choice_of p f g bd) a c e
  unfolding choice_of
  second_fails t q = then_fails _ next (rw t (fails _ q))

  module _ {X Y : Type 0} (view : State → X → V) (show : State → Y → W) where
    pub first_gave : {c : State} {x : X} → may_be p o ≡ true → RefinesWithValue view (f bd) b c x
        → RefinesWithValue (λ s (z : Choice X Y). choice_value (view s) (show s) z) (choice_of p f g bd) a c (choices.First x)
    unfolding choice_of
    first_gave {c = c} {x = x} t q =
        let e : cond (may_be p o) (one W f bd) (other V g bd) ≡ one W f bd = rw t refl in
        gave _ (then_reaches _ next (subst (λ r. Simulates r b (give (inl (view c x))) c) (sym e) (then_reaches _ q (at_last c)))) refl
        q.sound (λ d k. ap inl (q.lasts d k))

    pub second_gave : {c : State} {y : Y} → may_be p o ≡ false → RefinesWithValue show (g bd) b c y
        → RefinesWithValue (λ s (z : Choice X Y). choice_value (view s) (show s) z) (choice_of p f g bd) a c (choices.Second y)
    unfolding choice_of
    second_gave {c = c} {y = y} t q =
        let e : cond (may_be p o) (one W f bd) (other V g bd) ≡ other V g bd = rw t refl in
        gave _ (then_reaches _ next (subst (λ r. Simulates r b (give (inr (show c y))) c) (sym e) (then_reaches _ q (at_last c)))) refl
        q.sound (λ d k. ap inr (q.lasts d k))

pub either_known : {V W : Type 0} (R : Spelling V) (S : Spelling W) {P : V → Type 0} {Q : W → Type 0} {b : List ℕ}
    → ((v : V) → R b v → P v) → ((w : W) → S b w → Q w) → (z : V ⊎ W) → either R S b z → is_either P Q z
either_known R S h k (inl v) r = h v r
either_known R S h k (inr w) r = k w r

pub choice_framed : {V W : Type 0} {R : Spelling V} {S : Spelling W} → IsDerFramed R → IsDerFramed S → IsDerFramed (either R S)
choice_framed {V = V} {W = W} {R = R} {S = S} h k = record { framed = go }
  where
    go : (b : List ℕ) (x : V ⊎ W) → either R S b x → IsDerFrame b
    go b (inl v) r = h.framed b v r
    go b (inr w) r = k.framed b w r
