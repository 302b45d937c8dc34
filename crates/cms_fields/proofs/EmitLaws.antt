-- What a sink is given of a value, put together from what it is given of its parts.
use Rattle.std.proofs.Common.{◌≡◌, ℕ, suc, ◌+◌, List, [], ◌∷◌, ◌++◌, length, refl, sym, ◌∙◌, ap, subst, arith, ◌↔◌, Bool, true, Option, None, Some}
use mathlib.Core.Bool.{◌&&◌}
use Rattle.std.specs.Prelude.{bytes_eq}
use Rattle.std.specs.Option.{option_eq}
use Rattle.std.specs.Cmp.{IsEquivalence, first_so, second_so}
use Rattle.std.proofs.lemmas.Slice.Eq.{bytes_eq-Decides}
use Rattle.std.proofs.lemmas.List.{length-append}
use Rattle.cms_tlv.specs.Headers.{IsShortLength}
use Rattle.cms_tlv.specs.Frames.{of_short_length}
use Rattle.cms_tlv.specs.Spelling.{der, Spelling, element, ◌⨟◌, optional}
use Rattle.cms_tlv.specs.Writing.{IsDerHeader}
use Rattle.cms_tlv.proofs.HeaderLaws.{short_length_one}
use Rattle.cms_fields.specs.Assembly.{Marked, Assembly, IsAssembled, copied, made, marked, unmarked, all_copied, after_header, both_assembled, if_present}
use Rattle.cms_fields.specs.Canonical.{IsCanonical}
use Rattle.cms_fields.specs.Received.{as_received}
use Rattle.cms_fields.specs.Sinks.{Taking, TakingLaws, Emits, MayStop}
use Rattle.cms_fields.specs.Writing.{IsWritten}
use Rattle.cms_fields.proofs.AssemblyLaws.{octets_marked, octets_both, length_octets, length_marked}
use Rattle.cms_fields.proofs.CanonicalLaws.{both_true}
use Rattle.cms_fields.proofs.WriteLaws.{element_written, then_written, written_equal}

-- what is written for one value is what is written for the other
module _ {V W : Type 0} {R : Spelling V} {T : Spelling W} {e : V → V → Bool} {f : W → W → Bool} {v : V} {w : W}
    (alike : (o : List ℕ) → IsWritten R e v o ↔ IsWritten T f w o) where
  pub alike_emits : {A : Assembly V} {B : Assembly W} → ((m : List Marked) → IsAssembled A e v m → IsAssembled B f w m)
      → {S : Type 0} {t : Taking S} {k : List ℕ} {a b : S} → Emits t R A e v k a b → Emits t T B f w k a b
  alike_emits assembled h = record {
    octets = h.octets;
    put = h.put;
    written = (alike (unmarked h.octets)).0 h.written;
    assembled = assembled h.octets h.assembled;
    each = λ o x. h.each o ((alike o).1 x);
  }

  pub alike_stops : {S : Type 0} (t : Taking S) (n : ℕ) → MayStop t R e v n → MayStop t T f w n
  alike_stops t n h o x = h o ((alike o).1 x)

-- the parts of what is written for two fields
module _ {V W : Type 0} {R : Spelling V} {T : Spelling W} {e : V → V → Bool} {f : W → W → Bool} {v : V} {w : W} {o : List ℕ} where
  then_parts : IsWritten (R ⨟ T) (λ (x y : V × W). e x.0 y.0 && f x.1 y.1) (v, w) o
      → (p q : List ℕ) × (length o ≡ length p + length q) × IsWritten R e v p × IsWritten T f w q
  then_parts h =
      let r = h.spells in (
        r.0,
        r.1,
        ap length r.2 ∙ length-append r.0 r.1,
        record { value = h.value.0; spells = r.3; same = first_so (e v h.value.0) (f w h.value.1) h.same },
        record { value = h.value.1; spells = r.4; same = second_so (e v h.value.0) (f w h.value.1) h.same },
      )

-- one after another, the later first
module _ {S V W : Type 0} {t : Taking S} (laws : TakingLaws t) {R : Spelling V} {T : Spelling W} {B : Assembly W}
    {e : V → V → Bool} {f : W → W → Bool} {v : V} {w : W} {k : List ℕ} {a b : S} (q : Emits t T B f w k a b) where
  pub then_emits : {A : Assembly V} {c : S} → Emits t R A e v k b c
      → Emits t (R ⨟ T) (both_assembled A B) (λ (x y : V × W). e x.0 y.0 && f x.1 y.1) (v, w) k a c
  then_emits {c = c} p = record {
    octets = p.octets ++ q.octets;
    put = laws.both k p.octets q.octets a b c q.put p.put;
    written =
        subst (IsWritten (R ⨟ T) (λ (x y : V × W). e x.0 y.0 && f x.1 y.1) (v, w)) (sym (octets_both p.octets q.octets))
        (then_written p.written q.written);
    assembled = record {
      value = (p.assembled.value, q.assembled.value);
      assembles = (p.octets, q.octets, refl, p.assembled.assembles, q.assembled.assembles);
      same = both_true _ _ p.assembled.same q.assembled.same;
    };
    each = λ o x.
        let h = then_parts x in
        let i = p.each h.0 h.3 in
        let j = q.each h.1 h.4 in
        let l = length-append p.octets q.octets in
        omega (arith, h.2);
  }

  pub then_stops : MayStop t R e v (t.count b) → MayStop t (R ⨟ T) (λ (x y : V × W). e x.0 y.0 && f x.1 y.1) (v, w) (t.count a)
  then_stops l o x =
      let h = then_parts x in
      let i = q.each h.1 h.4 in
      let n = laws.counted k q.octets a b q.put in
      laws.longer (t.count b + length h.0) (t.count a + length o) (l h.0 h.3) (omega (arith, h.2))

pub then_stops_later : {S V W : Type 0} {t : Taking S} (laws : TakingLaws t) (R : Spelling V) {T : Spelling W} (e : V → V → Bool)
    {f : W → W → Bool} (v : V) {w : W} (n : ℕ) → MayStop t T f w n → MayStop t (R ⨟ T) (λ (x y : V × W). e x.0 y.0 && f x.1 y.1) (v, w) n
then_stops_later laws R e v n l o x =
    let h = then_parts {R = R} {e = e} {v = v} x in
    laws.longer (n + length h.1) (n + length o) (l h.1 h.4) (omega (arith, h.2))

-- the contents of what is written for an element
module _ {V : Type 0} {R : Spelling V} {e : V → V → Bool} {v : V} (id : ℕ) where
  contents : {o : List ℕ} → IsWritten (element der id R) e v o
      → (c l : List ℕ) × IsShortLength l (length c) × (length o ≡ 1 + length l + length c) × IsWritten R e v c
  contents {o} h = go o h.value h.spells h.same
    where
      go : (o : List ℕ) (w : V) → element der id R o w → e v w ≡ true
          → (c l : List ℕ) × IsShortLength l (length c) × (length o ≡ 1 + length l + length c) × IsWritten R e v c
      go o w (c, of_short_length {l = l} c' p, r) same =
          (c, l, p, (let m = length-append l c in omega arith), record { value = w; spells = r; same = same })

  pub element_stops_inside : {S : Type 0} {t : Taking S} (laws : TakingLaws t) (n : ℕ) → MayStop t R e v n → MayStop t (element der id R) e v n
  element_stops_inside laws n l o x =
      let h = contents x in
      laws.longer (n + length h.0) (n + length o) (l h.0 h.4) (omega (arith, h.3))

  module _ {S : Type 0} {t : Taking S} (laws : TakingLaws t) {A : Assembly V} {k : List ℕ} {a b : S} (p : Emits t R A e v k a b)
      (n : ℕ) (i : n ≡ length p.octets) where
    header_octets : (h l : List ℕ) → h ≡ id ∷ l → unmarked (marked made h ++ p.octets) ≡ id ∷ (l ++ unmarked p.octets)
    header_octets h l e = octets_both (marked made h) p.octets ∙ ap (λ z. z ++ unmarked p.octets) (octets_marked made h ∙ e)

    pub element_emits : {c : S} → (h : List ℕ) × IsDerHeader id n h × t.puts k b (marked made h) c
        → Emits t (element der id R) (after_header id A) e v k a c
    element_emits {c = c} q =
        let l = q.1.0 in
        let s : IsShortLength l (length p.octets) = subst (IsShortLength l) i q.1.1 in
        let r : IsShortLength l (length (unmarked p.octets)) = subst (IsShortLength l) (sym (length_octets p.octets)) s in
        let m : length q.0 ≡ suc (length l) = ap length q.1.2 in record {
          octets = marked made q.0 ++ p.octets;
          put = laws.both k (marked made q.0) p.octets a b c p.put q.2;
          written = subst (IsWritten (element der id R) e v) (sym (header_octets q.0 l q.1.2)) (element_written id r p.written);
          assembled = record {
            value = p.assembled.value;
            assembles = (q.0, p.octets, refl, (l, s, q.1.2), p.assembled.assembles);
            same = p.assembled.same;
          };
          each = λ o x.
              let h = contents x in
              let f = p.each h.0 h.4 in
              let g : length h.1 ≡ length l = ap length (short_length_one h.1 l (length p.octets) (subst (IsShortLength h.1) f h.2) s) in
              let j = length-append (marked made q.0) p.octets in
              let w = length_marked made q.0 in
              omega (arith, h.3);
        }

    pub element_stops : ((h : List ℕ) → IsDerHeader id n h → t.stops (t.count b + length h)) → MayStop t (element der id R) e v (t.count a)
    element_stops q o x =
        let h = contents x in
        let f = p.each h.0 h.4 in
        let s : IsShortLength h.1 n = subst (IsShortLength h.1) (f ∙ sym i) h.2 in
        let j = laws.counted k p.octets a b p.put in
        laws.longer (t.count b + length (id ∷ h.1)) (t.count a + length o) (q (id ∷ h.1) (h.1, s, refl)) (omega (arith, h.3))

module _ {V : Type 0} {R : Spelling V} {e : V → V → Bool} {v : V} where
  pub some_alike : (o : List ℕ) → IsWritten R e v o ↔ IsWritten (optional R) (option_eq e) (Some v) o
  some_alike o = (λ h. record { value = Some h.value; spells = h.spells; same = h.same }, λ h. go h.value h.spells h.same)
    where
      go : (x : Option V) → optional R o x → option_eq e (Some v) x ≡ true → IsWritten R e v o
      go None r s = absurd (cc)
      go (Some u) r s = record { value = u; spells = r; same = s }

pub some_assembled : {V : Type 0} {A : Assembly V} {e : V → V → Bool} {v : V} (m : List Marked) → IsAssembled A e v m
    → IsAssembled (if_present A) (option_eq e) (Some v) m
some_assembled m h = record { value = Some h.value; assembles = h.assembles; same = h.same }

pub none_emits : {S V : Type 0} {t : Taking S} (laws : TakingLaws t) (R : Spelling V) (A : Assembly V) (e : V → V → Bool) (k : List ℕ) (a : S)
    → Emits t (optional R) (if_present A) (option_eq e) None k a a
none_emits {V = V} laws R A e k a = record {
  octets = [];
  put = laws.nothing k a;
  written = record { value = None; spells = refl; same = refl };
  assembled = record { value = None; assembles = refl; same = refl };
  each = λ o x. go o x.value x.spells x.same;
}
  where
    go : (o : List ℕ) (x : Option V) → optional R o x → option_eq e None x ≡ true → length o ≡ 0
    go o None r s = ap length r
    go o (Some u) r s = absurd (cc)

-- octets that spell themselves
module _ (P : List ℕ → Type 0) {v : List ℕ} where
  itself : (o : List ℕ) → IsWritten (as_received P) bytes_eq v o → o ≡ v
  itself o h = h.spells.0 ∙ sym ((bytes_eq-Decides v h.value).0 h.same)

  pub received_emits : {S : Type 0} {t : Taking S} {k : List ℕ} {a b : S} → P v → t.puts k a (marked copied v) b
      → Emits t (as_received P) all_copied bytes_eq v k a b
  received_emits p q =
      let is = octets_marked copied v in
      let same = (bytes_eq-Decides v v).1 refl in record {
        octets = marked copied v;
        put = q;
        written = record { value = v; spells = (is, subst P (sym is) p); same = same };
        assembled = record { value = v; assembles = refl; same = same };
        each = λ o x. ap length (itself o x) ∙ sym (length_marked copied v);
      }

  pub received_stops : {S : Type 0} (t : Taking S) (n : ℕ) → t.stops (n + length v) → MayStop t (as_received P) bytes_eq v n
  received_stops t n l o x = subst (λ z. t.stops (n + length z)) (sym (itself o x)) l

-- octets that spell the value, if DER spells each value in one way
module _ {V : Type 0} {R : Spelling V} {e : V → V → Bool} {v : V} (c : IsCanonical e R) (q : IsEquivalence e) {o : List ℕ} (r : R o v) where
  spelled : IsWritten R e v o
  spelled = record { value = v; spells = r; same = q.refl v }

  only : (p : List ℕ) → IsWritten R e v p → p ≡ o
  only p w = (written_equal c q w spelled).1 (q.refl v)

  -- and are made
  pub canonical_emits : {A : Assembly V} → A (marked made o) v → {S : Type 0} {t : Taking S} {k : List ℕ} {a b : S}
      → t.puts k a (marked made o) b → Emits t R A e v k a b
  canonical_emits m p = record {
    octets = marked made o;
    put = p;
    written = subst (IsWritten R e v) (sym (octets_marked made o)) spelled;
    assembled = record { value = v; assembles = m; same = q.refl v };
    each = λ p w. ap length (only p w) ∙ sym (length_marked made o);
  }

  pub canonical_stops : {S : Type 0} (t : Taking S) (n : ℕ) → t.stops (n + length o) → MayStop t R e v n
  canonical_stops t n l p w = subst (λ z. t.stops (n + length z)) (sym (only p w)) l
