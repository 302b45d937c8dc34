-- What the calls of OCTET STRING's reader give.
use Rattle.std.proofs.Common.{inl, ◌≡◌, ℕ, suc, ◌-◌, ◌<◌, Bool, true, false, List, [], ◌∷◌, ◌++◌, length, map, Option, Some, None, Result, Ok, Err, refl, sym, ap, subst, ◌∙◌, arith}
use Rattle.std.specs.Prelude.{◌==◌, OnOk}
use Rattle.std.specs.Option.{option_eq}
use Rattle.std.proofs.lemmas.List.{map-append, flat_map_more}
use Rattle.std.proofs.Math.Seq.{drop-append_seam}
use Rattle.cms_tlv.specs.declared.fault.Fault.{Fault}
use Rattle.cms_tlv.specs.declared.fault.Fault.TheVariants as faults
use Rattle.cms_tlv.specs.declared.fault.Reason.TheVariants.{SegmentsTooDeep}
use Rattle.cms_tlv.specs.declared.bound.Bound.{Bound}
use Rattle.cms_tlv.specs.declared.span.Span.{Span}
use Rattle.cms_tlv.specs.State.{State, position, Succeeds, Progresses}
use Rattle.cms_tlv.specs.Reading.{Reader, give, may_be, peek_of, primitive_of, enter_of, close_of, row_of, rows_of}
use Rattle.cms_tlv.specs.Refines.{cursor, Simulates, Kept, RefinesWithValue, Failed, Refines, plain, seen}
use Rattle.cms_tlv.proofs.Bind.{fails, fails_then, then_fails, then_reaches, reaches_bind, gave, refuses}
use Rattle.cms_tlv.proofs.Ends.{peek_same}
use Rattle.cms_tlv.proofs.Exits.{answers_of}
use Rattle.cms_tlv.proofs.SourceLaws.{grows}
use Rattle.cms_tlv.proofs.Loops.{HasRead, wants_memory, all_read, close_fails}
use Rattle.cms_fields.specs.Readers.{holding}
use Rattle.cms_fields.specs.Choices.{choice_of}
use Rattle.cms_fields.proofs.ChoiceLaws.{first_fails, second_fails, first_gave, second_gave}
use Rattle.cms_tlv.specs.Spelling.{join}
use Rattle.cms_fields.specs.Received.{spanned_in}
use Rattle.cms_scalars.specs.Octets.{one_part, of_either, in_turn}
use Rattle.cms_scalars.specs.Readers.{constructed, part_of, parts_of, segments_of, octet_string_parts_of, octet_string_of}
use Rattle.cms_scalars.specs.Borrowed.{added_spans, AddsSpans}

-- the parts that spans show
abbrev pub view : State → List Span → List (List ℕ)
view s xs = spanned_in s.done xs

is_seen : (o : Option ℕ) (id : ℕ) → option_eq (λ x y. x == y) o (Some id) ≡ may_be (λ t. t == id) o
is_seen None id = refl
is_seen (Some t) id = refl

-- the next octet, as a comparison told of it
pub told : (o : Option ℕ) (id : ℕ) {r t : Bool} → r ≡ option_eq (λ x y. x == y) o (Some id) → r ≡ t → may_be (λ t. t == id) o ≡ t
told o id e f = sym (is_seen o id) ∙ sym e ∙ f

-- a primitive encoding
pub primitive_fails : {a b : State} {e : Fault} (id : ℕ) (bd : Bound) → Failed (primitive_of id bd) a b e → Failed (part_of id bd) a b e
unfolding part_of
primitive_fails id bd q = fails _ q

pub primitive_gave : {a b : State} {span : Span} (id : ℕ) (bd : Bound) → RefinesWithValue seen (primitive_of id bd) a b span
    → RefinesWithValue view (part_of id bd) a b (span ∷ [])
unfolding part_of
primitive_gave {span = span} id bd q = gave (span ∷ []) (reaches_bind (λ c. give (one_part c)) q.reaches) refl q.sound (λ d k. ap one_part (q.lasts d k))

pub primitive_wants_memory : {a b : State} {span : Span} (id : ℕ) (bd : Bound) → RefinesWithValue seen (primitive_of id bd) a b span
    → {d : State} {e : Fault} → e ≡ faults.OutOfMemory → d ≡ record b { fault = Some e } → Failed (part_of id bd) a d e
primitive_wants_memory {b = b} id bd q p r = rw (r, p) (fails_then (primitive_gave id bd q).reaches (wants_memory _ b q.sound))

module _ (id : ℕ) (g : Bound → Reader (List (List ℕ))) (bd : Bound) where
  pub peek_fails : {a b : State} {e : Fault} → Failed (peek_of bd) a b e → Failed (parts_of id g bd) a b e
  unfolding parts_of choice_of
  peek_fails q = fails _ (fails _ q)

  module _ {a b : State} {o : Option ℕ} (next : RefinesWithValue plain (peek_of bd) a b o) where
    pub part_fails : {c : State} {e : Fault} → may_be (λ t. t == id) o ≡ true → Failed (primitive_of id bd) b c e → Failed (parts_of id g bd) a c e
    unfolding parts_of part_of
    part_fails t q = fails _ (first_fails (λ t. t == id) (part_of id) (holding (constructed id) g) bd next t (fails _ q))

    pub part_gave : {c : State} {span : Span} → may_be (λ t. t == id) o ≡ true → RefinesWithValue seen (primitive_of id bd) b c span
        → RefinesWithValue view (parts_of id g bd) a c (span ∷ [])
    unfolding parts_of
    part_gave {span = span} t q =
        let p = first_gave (λ t. t == id) (part_of id) (holding (constructed id) g) bd next view view t (primitive_gave id bd q) in
        gave (span ∷ []) (reaches_bind (λ x. give (of_either x)) p.reaches) refl q.sound (λ d k. ap one_part (q.lasts d k))

    pub part_gives : {V : Type 0} (show : State → V → List (List ℕ)) (c : State) (r : Result V Fault) → may_be (λ t. t == id) o ≡ true
        → Refines show (part_of id bd) b c r → Refines show (parts_of id g bd) a c r
    unfolding parts_of
    part_gives show c (Ok v) t q =
        let p = first_gave (λ t. t == id) (part_of id) (holding (constructed id) g) bd next show show t q in
        gave v (reaches_bind (λ x. give (of_either x)) p.reaches) refl q.sound q.lasts
    part_gives show c (Err e) t q = fails _ (first_fails (λ t. t == id) (part_of id) (holding (constructed id) g) bd next t q)

    pub header_fails : {c : State} {e : Fault} → may_be (λ t. t == id) o ≡ false → Failed (enter_of (constructed id) bd) b c e → Failed (parts_of id g bd) a c e
    unfolding parts_of holding
    header_fails t q = fails _ (second_fails (λ t. t == id) (part_of id) (holding (constructed id) g) bd next t (fails _ q))

    module _ {c : State} {inner : Bound} (t : may_be (λ t. t == id) o ≡ false) (header : RefinesWithValue plain (enter_of (constructed id) bd) b c inner) where
      pub contents_fail : {d : State} {e : Fault} → Failed (g inner) c d e → Failed (parts_of id g bd) a d e
      unfolding parts_of holding
      contents_fail q = fails _ (second_fails (λ t. t == id) (part_of id) (holding (constructed id) g) bd next t (then_fails _ header q))

      held : {d : State} {xs : List Span} → RefinesWithValue view (g inner) c d xs → RefinesWithValue view (holding (constructed id) g bd) b d xs
      unfolding holding
      held q = record { reaches = then_reaches _ header q.reaches; sound = q.sound; lasts = q.lasts }

      pub contents_gave : {d : State} {xs : List Span} → RefinesWithValue view (g inner) c d xs → RefinesWithValue view (parts_of id g bd) a d xs
      unfolding parts_of
      contents_gave {xs = xs} q =
          let p = second_gave (λ t. t == id) (part_of id) (holding (constructed id) g) bd next view view t (held q) in
          gave xs (reaches_bind (λ x. give (of_either x)) p.reaches) refl q.sound q.lasts

-- Segments.

pub too_deep : (levels : ℕ) → levels ≡ 0 → (bd : Bound) (s : State) {d : State} {e : Fault}
    → s.fault ≡ None → e ≡ faults.Refused SegmentsTooDeep (position s) → d ≡ record s { fault = Some e } → Failed (segments_of levels bd) s d e
unfolding segments_of
too_deep levels z bd s n p q = rw (z, q, p) (refuses s SegmentsTooDeep n (λ z. cc) (inl tt) (λ ys. refl))

map_in_turn : {A B : Type 0} (f : A → B) (xss : List (List A)) → in_turn (map (map f) xss) ≡ map f (in_turn xss)
map_in_turn f [] = refl
map_in_turn f (xs ∷ xss) = ap (λ z. map f xs ++ z) (map_in_turn f xss) ∙ sym (map-append f xs (in_turn xss))

one_less : {levels : ℕ} → (levels ≡ 0 → ⊥) → suc (levels - 1) ≡ levels
one_less h = omega arith

module _ (levels : ℕ) (some : levels ≡ 0 → ⊥) (bd : Bound) {a b : State} where
  inside_fails : (n : ℕ) {e : Fault} → Failed (rows_of (parts_of 0x04 (segments_of n)) bd) a b e → Failed (segments_of (suc n) bd) a b e
  unfolding segments_of
  inside_fails n q = fails _ q

  pub segments_fail : {e : Fault} → Failed (rows_of (parts_of 0x04 (segments_of (levels - 1))) bd) a b e → Failed (segments_of levels bd) a b e
  segments_fail {e = e} q = subst (λ k. Failed (segments_of k bd) a b e) (one_less some) (inside_fails (levels - 1) q)

  inside_gave : (n : ℕ) (xss : List (List Span)) → Simulates (rows_of (parts_of 0x04 (segments_of n)) bd) a (give (map (view b) xss)) b
      → b.fault ≡ None → ((later : State) → Kept b later → map (view later) xss ≡ map (view b) xss)
      → RefinesWithValue view (segments_of (suc n) bd) a b (in_turn xss)
  unfolding segments_of
  inside_gave n xss r k l =
      gave (in_turn xss) (reaches_bind (λ pss. give (in_turn pss)) r) (map_in_turn _ xss) k
      (λ d j. sym (map_in_turn _ xss) ∙ ap in_turn (l d j) ∙ map_in_turn _ xss)

  pub segments_gave :
      (xss : List (List Span)) → Simulates (rows_of (parts_of 0x04 (segments_of (levels - 1))) bd) a (give (map (view b) xss)) b
      → b.fault ≡ None → ((later : State) → Kept b later → map (view later) xss ≡ map (view b) xss)
      → RefinesWithValue view (segments_of levels bd) a b (in_turn xss)
  segments_gave xss r k l = subst (λ j. RefinesWithValue view (segments_of j bd) a b (in_turn xss)) (one_less some) (inside_gave (levels - 1) xss r k l)

-- What was added.

is_added : (old new xs : List Span) → new ≡ old ++ xs → added_spans old new ≡ xs
is_added old new xs e = rw e (drop-append_seam old xs)

pub adds : (old new xs : List Span) → new ≡ old ++ xs → new ≡ old ++ added_spans old new
adds old new xs e = e ∙ ap (λ z. old ++ z) (sym (is_added old new xs e))

pub with_added : {f : Reader (List (List ℕ))} {a b : State} (old new xs : List Span) → new ≡ old ++ xs → RefinesWithValue view f a b xs
    → RefinesWithValue (λ (s : State) (u : Unit {0}). spanned_in s.done (added_spans old new)) f a b tt
with_added {f = f} {a = a} {b = b} old new xs e g = (let k : RefinesWithValue view f a b (added_spans old new) =
    subst (λ z. RefinesWithValue view f a b z) (sym (is_added old new xs e)) g in record { reaches = k.reaches; sound = k.sound; lasts = k.lasts })

pub of_added : {f : Reader (List (List ℕ))} {a b : State} (xs : List Span)
    → RefinesWithValue (λ (s : State) (u : Unit {0}). spanned_in s.done xs) f a b tt → RefinesWithValue view f a b xs
of_added xs g = record { reaches = g.reaches; sound = g.sound; lasts = g.lasts }

-- what was added after a look was added
pub adds_behind : {old new : List Span} {a b c : State} → Succeeds a b → AddsSpans old new b c → AddsSpans old new a c
adds_behind p q = record { added = q.added; moved = (let h = grows p in let k = q.moved in omega arith); clear = q.clear }

-- a call that failed added nothing
pub added_nothing : {V : Type 0} (P : Type 0) {r : Result V Fault} {e : Fault} → r ≡ Err e → OnOk r P
added_nothing P p = rw p tt

-- at the end of the lists that were added
pub adds_all : (old new : List Span) (a b c : State) (P : Type 0) (xs : List Span) (r : Result (Unit {0}) Fault) → new ≡ old ++ xs
    → length a.done < length b.done → P → OnOk r (Succeeds b c) → OnOk r (P → c.ahead ≡ None) → OnOk r (AddsSpans old new a c)
adds_all old new a b c P xs (Ok u) e l p g k = record { added = adds old new xs e; moved = (let h = grows g in omega arith); clear = k p }
adds_all old new a b c P xs (Err e) q l p g k = tt

-- one more list of them
pub more_added : (a b c xs : List Span) (xss : List (List Span)) → b ≡ a ++ in_turn xss → c ≡ b ++ xs → c ≡ a ++ in_turn (xss ++ xs ∷ [])
more_added a b c xs xss p q = q ∙ ap (λ z. z ++ xs) p ∙ flat_map_more (λ ps. ps) a xss xs

-- The end of a constructed encoding.
module _ (id levels : ℕ) (some : levels ≡ 0 → ⊥) (bd inner : Bound) {a b c : State} {o : Option ℕ}
    (next : RefinesWithValue plain (peek_of bd) a b o) (t : may_be (λ t. t == id) o ≡ false)
    (header : RefinesWithValue plain (enter_of (constructed id) bd) b c inner) (old new : List Span) (xss : List (List Span))
    (items : new ≡ old ++ in_turn xss) {s d : State} (has : HasRead view (row_of (parts_of 0x04 (segments_of (levels - 1)))) tt inner c s
    tt xss) (none : RefinesWithValue plain (peek_of inner) s d None) where
  pub end_gives : (u : State) (r : Result (Unit {0}) Fault) → Refines plain (close_of inner) d u r
      → Refines (λ (s : State) (u : Unit {0}). spanned_in s.done (added_spans old new)) (parts_of id (segments_of levels) bd) a u r
  end_gives u (Ok tt) q =
      let all = all_read view (row_of (parts_of 0x04 (segments_of (levels - 1)))) tt inner c s d u tt xss has none q in
      with_added old new (in_turn xss) items (contents_gave id (segments_of levels) bd next t header (segments_gave levels some inner xss all.0 q.sound all.1))
  end_gives u (Err e) q =
      contents_fail id (segments_of levels) bd next t header (segments_fail levels some inner
      (close_fails view (row_of (parts_of 0x04 (segments_of (levels - 1)))) tt inner c s d u tt xss e has none q))

-- A look takes nothing of what is read.
pub looks : {A : Type 0} (f : Reader A) (bd : Bound) {a b : State} {o : Option ℕ} → RefinesWithValue plain (peek_of bd) a b o → Simulates f a f b
looks f bd {a = a} {b = b} {o = o} g = record {
  more = g.reaches.more;
  took = g.reaches.took;
  refines = λ ys. ap f (peek_same bd (cursor a (g.reaches.more ++ ys)) (cursor b ys) o (g.reaches.refines ys));
}

-- The whole string, as its parts joined.
pub joined : {V : Type 0} (id : ℕ) (bd : Bound) (parts : State → V → List (List ℕ)) (a b : State) (r : Result V Fault)
    → Refines parts (octet_string_parts_of id bd) a b r → Refines (λ s v. join (parts s v)) (octet_string_of id bd) a b r
unfolding octet_string_of
joined id bd parts a b (Ok v) g = gave v (reaches_bind (λ ps. give (join ps)) g.reaches) refl g.sound (λ d j. ap join (g.lasts d j))
joined id bd parts a b (Err e) g = fails _ g

-- what was given, and octets were consumed
pub passes : {V W : Type 0} {value : State → V → W} {f : Reader W} {a b : State} {v : V} → RefinesWithValue value f a b v
    → length a.done < length b.done → Progresses a b
passes {value = value} {f = f} {a = a} {b = b} {v = v} g l = record { goes = answers_of value f a b (Ok v) g; some = l }
