-- Opaque elements, read and spelled.
use Rattle.std.proofs.Common.{◌≡◌, ◌≢◌, ◌⊎◌, inl, inr, ℕ, zero, suc, ◌+◌, ◌-◌, ◌/◌, ◌%◌, ◌<◌, ◌≤◌, Bool, true, false, not, cond, eqb, ltb, ◌&&◌, ◌||◌, List, [], ◌∷◌, ◌++◌, length, replicate, Option, Some, None, Result, Ok, Err, refl, sym, ap, subst, ◌∙◌, arith, append_assoc, length-append}
use Rattle.std.proofs.lemmas.Bool.{eqb-true, ltb-true}
use Rattle.std.proofs.lemmas.Bool.Decides.{nat_tests}
use Rattle.std.proofs.lemmas.List.{length-replicate}
use Rattle.std.specs.Prelude.{IfOk, IfErr, OnOk}
use Rattle.cms_tlv.specs.declared.fault.Fault.{Fault}
use Rattle.cms_tlv.specs.declared.span.Span.{Span}
use Rattle.cms_tlv.specs.declared.fault.Reason.TheVariants.{Truncated, OpaqueTooDeep}
use Rattle.cms_tlv.specs.declared.bound.Bound.{Bound}
use Rattle.cms_tlv.specs.declared.bound.Header.{Header}
use Rattle.cms_tlv.specs.Headers.{AreOctets, IsConstructed, IsIdentifier, IsLength, IsShortLength}
use Rattle.cms_tlv.specs.Frames.{Frame, definite}
use Rattle.cms_tlv.specs.Opaque.{IsPrimitiveType, HasItsForm, IsFramed, AreFramed, primitive, constructed, none, more, opaque}
use Rattle.cms_tlv.specs.State.{State}
use Rattle.cms_tlv.specs.Spelling.{Rules}
use Rattle.cms_tlv.specs.Refines.{Refines, seen}
use Rattle.cms_tlv.specs.Reading.{Cursor, Stop, stop, Reader, ◌>>=◌, give, refuse, is_at, ends_here, expected_of, counted_of, is_primitive_number, has_its_form, is_framed, framing_fault, framed_header_of, all_of, octets_of, to_end_of, framed_of, taking, opaque_of}
use Rattle.cms_tlv.specs.Clauses.{Room, Found, Faults}
use Rattle.cms_tlv.specs.Law.{rules_of}
use Rattle.cms_tlv.proofs.Rules.{follows}
use Rattle.cms_tlv.proofs.Inverse.{okay, bad, ok_place, branch, bind_ok, bind_err, bound_again, eqb_yes, eqb_no, ltb_yes, differ, chosen, and_both, and_first, and_second, and_false_second}
use Rattle.cms_tlv.proofs.ReadingLaws.{Moves, moves_nothing, moves_then, midway, moves_prefix, moves_suffix, moved, room_less, room_from, CutField, Reads}
use Rattle.cms_tlv.proofs.SpellingLaws.{IsField}
use Rattle.cms_tlv.proofs.FrameLaws.{identifier_first}
use Rattle.cms_tlv.proofs.OctetReads.{octets_sound, octets_complete, octets_cut}
use Rattle.cms_tlv.proofs.HeaderReads.{HasLength, shortest_by, sized, header_sound, header_sized, header_cut}
use Rattle.cms_tlv.proofs.ShortReads.{short_sound, short_complete}
use Rattle.cms_tlv.proofs.Elements.{some_zeros, later}
use Rattle.cms_tlv.proofs.Ends.{at_end_here}
use Rattle.cms_tlv.proofs.Public.{ok_clause, err_clause}
use Rattle.cms_tlv.proofs.Judged.{given_reads}
use Rattle.cms_tlv.proofs.OctetsTaken.{taking_cut, taking_reads}
use Rattle.cms_tlv.proofs.OpaqueGives.{framed_header, no_cut}

-- Tests that tell.
number_sound : (k : ℕ) → is_primitive_number k ≡ true → IsPrimitiveType k
number_sound k e = grind (arith, nat_tests)

number_complete : (k : ℕ) → IsPrimitiveType k → is_primitive_number k ≡ true
number_complete k e = grind (arith, nat_tests)

no_true : {b : Bool} → b ≡ true → not b ≡ true → ⊥
no_true {b = true} p q = absurd cc
no_true {b = false} p q = absurd cc

or_one : (p q : Bool) → (p ≡ true) ⊎ (q ≡ true) → (p || q) ≡ true
or_one true q (inl e) = refl
or_one false q (inl e) = absurd cc
or_one true q (inr e) = refl
or_one false q (inr e) = e

or_none : (p q : Bool) → p ≡ false → q ≡ false → not (p || q) ≡ true
or_none true q e f = absurd cc
or_none false true e f = absurd cc
or_none false false e f = refl

pub form_sound : (t : ℕ) → has_its_form t ≡ true → HasItsForm t
form_sound t e = elim (chosen (eqb ((t / 32) % 2) 1) (not (ltb t 64 && is_primitive_number (t % 32))) (not (eqb t 16 || eqb t 17)) true e) [
  | inl x ↦ record {
    primitive = λ c l n. no_true (and_both (ltb_yes t 64 l) (number_complete (t % 32) n)) x.1;
    constructed = λ s. let k : (t / 32) % 2 ≡ 1 = eqb-true ((t / 32) % 2) 1 x.0 in elim s [ inl y ↦ omega (arith, k, y) | inr y ↦ omega (arith, k, y) ];
  }
  | inr x ↦ record {
    primitive = λ c l n. differ x.0 (eqb_yes ((t / 32) % 2) 1 c);
    constructed = λ s. elim s [
      | inl y ↦ no_true (or_one (eqb t 16) (eqb t 17) (inl (eqb_yes t 16 y))) x.1
      | inr y ↦ no_true (or_one (eqb t 16) (eqb t 17) (inr (eqb_yes t 17 y))) x.1
    ];
  }
]

pub form_complete : (t : ℕ) → HasItsForm t → has_its_form t ≡ true
form_complete t h = go (eqb ((t / 32) % 2) 1) refl
  where
    only : (l n : Bool) → ltb t 64 ≡ l → is_primitive_number (t % 32) ≡ n → IsConstructed t → not (l && n) ≡ true
    only true true l n c = absurd (h.primitive c (ltb-true t 64 l) (number_sound (t % 32) n))
    only true false l n c = refl
    only false n l e c = refl

    go : (b : Bool) → eqb ((t / 32) % 2) 1 ≡ b → cond b (not (ltb t 64 && is_primitive_number (t % 32))) (not (eqb t 16 || eqb t 17)) ≡ true
    go true e = only (ltb t 64) (is_primitive_number (t % 32)) refl refl (eqb-true ((t / 32) % 2) 1 e)
    go false e = or_none (eqb t 16) (eqb t 17) (eqb_no t 16 (λ y. h.constructed (inl y))) (eqb_no t 17 (λ y. h.constructed (inr y)))

-- The header.
pub record FramedHead (bd : Bound) (c d : Cursor) (h : Header) : Type 0 where
  pub more : List ℕ
  pub sizes : List ℕ
  pub size : ℕ
  pub moves : Moves c ((h.ident ∷ more) ++ sizes) d
  pub is_ident : IsIdentifier h.ident (h.ident ∷ more)
  pub is_short : IsShortLength sizes size
  pub room : Room bd.end d.limit d.at size
  pub len : h.len ≡ Some size
  pub inner : h.inner ≡ record { end = Some (d.at + size); indefinite = false; strict = bd.strict }
  pub not_0 : h.ident ≢ 0
  pub form : HasItsForm h.ident

-- a length that is definite and the shortest
record Sized (bd : Bound) (at limit : ℕ) (l : List ℕ) (h : Header) (len : Option ℕ) : Type 0 where
  pub size : ℕ
  pub is_short : IsShortLength l size
  pub room : Room bd.end limit at size
  pub is : len ≡ Some size
  pub inner : h.inner ≡ record { end = Some (at + size); indefinite = false; strict = bd.strict }

sized_short : (bd : Bound) (at limit : ℕ) (l : List ℕ) (h : Header) (len : Option ℕ) → HasLength bd at limit l h len → h.shortest ≡ true
    → Sized bd at limit l h len
sized_short bd at limit l h None (p, k, s, q) e = absurd (let z = ap (λ (x : Header). x.shortest) q ∙ e in cc)
sized_short bd at limit l h (Some n) (k, s, r, q) e =
    let t : shortest_by l n ≡ true = ap (λ (x : Header). x.shortest) q ∙ e in
    record { size = n; is_short = short_sound k t; room = r; is = refl; inner = ap (λ (x : Header). x.inner) (sym q) }

pub head_of : (bd : Bound) (c d : Cursor) (h : Header) → framed_header_of bd c ≡ Ok (h, d) → FramedHead bd c d h
head_of bd c d h e =
    let f = framed_header bd c d h e in
    let k = header_sound bd c d h f.0 in
    let t = and_second h.shortest (not (eqb h.ident 0) && has_its_form h.ident) f.1 in
    let s = sized_short bd d.at d.limit k.sizes h h.len k.has (and_first h.shortest (not (eqb h.ident 0) && has_its_form h.ident) f.1) in
    record {
      more = k.more;
      sizes = k.sizes;
      size = s.size;
      moves = k.moves;
      is_ident = k.is_ident;
      is_short = s.is_short;
      room = s.room;
      len = s.is;
      inner = s.inner;
      not_0 = λ z. no_true (eqb_yes h.ident 0 z) (and_first (not (eqb h.ident 0)) (has_its_form h.ident) t);
      form = form_sound h.ident (and_second (not (eqb h.ident 0)) (has_its_form h.ident) t);
    }

-- such a header is read
head_complete : (bd : Bound) (t n : ℕ) (i l : List ℕ) (c d : Cursor) → IsIdentifier t i → t ≢ 0 → HasItsForm t → IsShortLength l n
    → Moves c (i ++ l) d → Room bd.end c.limit c.at (length (i ++ l) + n) → framed_header_of bd c ≡ Ok (sized bd d.at t n (shortest_by l n), d)
unfolding framed_header_of
head_complete bd t n i l c d id z f k p r =
    let s = short_complete k.is k.least in
    let h = sized bd d.at t n (shortest_by l n) in
    let one = header_sized bd t n i l c d id k.is (λ _. s) p r in
    let no = eqb_no t 0 z in
    let yes = form_complete t f in
    let test : is_framed h ≡ true = and_both s (and_both (rw no refl) yes) in
    bound_again (expected_of bd) _ c h d one ∙ ap (λ b. (cond b (give h) (refuse (framing_fault bd t))) d) test

-- contents of a header that are cut
head_cut : (bd : Bound) (c d : Cursor) (h : Header) (k : FramedHead bd c d h) → length d.rest + 1 ≤ k.size
    → CutField c.rest × Room bd.end c.limit c.at (length c.rest + 1)
head_cut bd c d h k less =
    let p = d.rest in
    let due : ℕ = k.size - length p in
    let zs : List ℕ = replicate due 0 in
    let i = h.ident ∷ k.more in
    let l = k.sizes in
    let whole : c.rest ++ zs ≡ i ++ (l ++ (p ++ zs)) = ap (λ z. z ++ zs) k.moves.rest ∙ append_assoc (i ++ l) p zs ∙ append_assoc i l (p ++ zs) in
    let all : k.size ≡ length (p ++ zs) = omega (arith, length-append p zs, length-replicate {A = ℕ} due 0, less) in (
      record {
        rest = zs;
        proper = λ z. some_zeros due (omega (arith, less)) z;
        frame = subst Frame (sym whole) (definite (p ++ zs) k.is_ident (subst (λ t. IsLength l t) all k.is_short.is));
        field = λ z. k.not_0 (let e : h.ident ∷ (k.more ++ (l ++ (p ++ zs))) ≡ 0 ∷ 0 ∷ z.0 = sym whole ∙ z.1 in cc);
      },
      later bd.end (i ++ l) k.moves (room_less bd.end d.limit d.at k.size (length p + 1) less k.room),
    )

-- Elements to the end.
at_end : (bd : Bound) (at : ℕ) → ends_here bd at ≡ true → bd.end ≡ Some at
at_end bd at e = go bd.end (and_second (not bd.indefinite) (is_at bd.end at) e)
  where
    go : (end : Option ℕ) → is_at end at ≡ true → end ≡ Some at
    go None t = absurd cc
    go (Some n) t = ap Some (sym (eqb-true at n t))

framed_two : {b : List ℕ} {dep : ℕ} → IsFramed b dep → (t : ℕ) × (r : List ℕ) × (b ≡ t ∷ r) × (t ≢ 0)
framed_two (primitive {l = l} c dep h id z _ _ _ _) = let f = identifier_first id in (_, f.0 ++ (l ++ c), ap (λ x. x ++ (l ++ c)) f.1, z)
framed_two (constructed {l = l} {c = c} h id k _ _ _) = let f = identifier_first id in
    (_, f.0 ++ (l ++ c), ap (λ x. x ++ (l ++ c)) f.1, λ z. omega (arith, k, z))

module _ (f : Bound → Reader (Unit {0})) (dep : ℕ)
    (sound : (bd : Bound) (c d : Cursor) (u : Unit {0}) → f bd c ≡ Ok (u, d) → (b : List ℕ) × Moves c b d × IsFramed b dep) where
  all_sound : (count : ℕ) (bd : Bound) (c d : Cursor) (u : Unit {0}) → all_of count f bd c ≡ Ok (u, d)
      → (b : List ℕ) × Moves c b d × AreFramed b dep × (bd.end ≡ Some d.at)
  unfolding all_of
  all_sound zero bd c d u e = absurd cc
  all_sound (suc count) bd c d u e = elim (chosen (ends_here bd c.at) (okay (tt, c)) ((f bd >>= λ u. all_of count f bd) c) (okay (u, d)) e) [
    | inl x ↦ let same =
        ok_place x.1 in ([], subst (λ z. Moves c [] z) same (moves_nothing c), none dep, at_end bd c.at x.0 ∙ ap (λ (z : Cursor). Some z.at) same)
    | inr x ↦
        let s = bind_ok (f bd) (λ u. all_of count f bd) c x.1 in
        let one = sound bd c s.1 s.0 s.2 in
        let two = all_sound count bd s.1 d u s.3 in
        (one.0 ++ two.0, moves_then one.1 two.1, more one.2 two.2, two.3)
  ]

  all_cut :
      ((bd : Bound) (c : Cursor) (at : ℕ) → f bd c ≡ Err (stop Truncated at)
      → CutField c.rest × Room bd.end c.limit c.at (length c.rest + 1)) → (count : ℕ) (bd : Bound) (c : Cursor) {at : ℕ}
      → all_of count f bd c ≡ Err (stop Truncated at) → Room bd.end c.limit c.at (length c.rest + 1)
  unfolding all_of
  all_cut cut zero bd c e = absurd (let k = e in cc)
  all_cut cut (suc count) bd c {at = at} e = elim (chosen (ends_here bd c.at) (okay (tt, c)) ((f bd >>= λ u. all_of count f bd) c)
      (bad (stop Truncated at)) e) [
        | inl x ↦ absurd (let k = x.1 in cc)
        | inr x ↦ elim (bind_err (f bd) (λ u. all_of count f bd) c x.1) [
          | inl y ↦ (cut bd c at y).1
          | inr y ↦ let one = sound bd c y.1 y.0 y.2 in later bd.end one.0 one.1 (all_cut cut count bd y.1 y.3)
        ]
      ]

not_yet : (bd : Bound) (limit at n : ℕ) → Room bd.end limit at n → 0 < n → ends_here bd at ≡ false
not_yet bd limit at n r l = and_false_second (not bd.indefinite) (is_at bd.end at) (go bd.end r)
  where
    go : (end : Option ℕ) → Room end limit at n → is_at end at ≡ false
    go None r = refl
    go (Some end) r = let x = eqb_no at end (λ z. omega (arith, l, z, r.0)) in x

pub how_many : {b : List ℕ} {d : ℕ} → AreFramed b d → ℕ
how_many (none d) = zero
how_many (more p q) = suc (how_many q)

pub how_many_most : {b : List ℕ} {d : ℕ} (p : AreFramed b d) → how_many p ≤ length b
unfolding how_many
how_many_most (none d) = omega arith
how_many_most (more {f = x} {c = y} p q) = let t = framed_two p in omega (arith, how_many_most q, length-append x y, ap length t.2)

-- elements are read, and then what follows them
pub many_complete : (f : Bound → Reader (Unit {0})) (dep : ℕ)
    → ((bd : Bound) (c d : Cursor) (b : List ℕ) → IsFramed b dep → Moves c b d → Room bd.end c.limit c.at (length b) → f bd c ≡ Ok (tt, d))
    → {b : List ℕ} (p : AreFramed b dep) (left : ℕ) (bd : Bound) (c d : Cursor) → length b ≤ left → Moves c b d
    → Room bd.end c.limit c.at (length b) → all_of (suc left) f bd c ≡ all_of (suc (left - how_many p)) f bd d
unfolding all_of how_many
many_complete f dep complete (none _) left bd c d l m r =
    let e : left - 0 ≡ left = omega arith in
    ap (λ t. all_of (suc left) f bd t) (moved (moves_nothing c) m m.rest) ∙ ap (λ n. all_of (suc n) f bd d) (sym e)
many_complete f dep complete (more {f = x} {c = y} p q) zero bd c d l m r = let t = framed_two p in absurd (omega (arith, l, length-append x y, ap length t.2))
many_complete f dep complete (more {f = x} {c = y} p q) (suc left) bd c d l m r =
    let t = framed_two p in
    let n : length (x ++ y) ≡ length x + length y = length-append x y in
    let k : length x ≡ suc (length t.1) = ap length t.2 in
    let z = not_yet bd c.limit c.at (length (x ++ y)) r (omega (arith, n, k)) in
    let mid = midway c x y d in
    let one = complete bd c mid x p (moves_prefix x y m) (room_less bd.end c.limit c.at (length (x ++ y)) (length x) (omega (arith, n)) r) in
    let two =
    many_complete f dep complete q left bd mid d (omega (arith, n, k, l)) (moves_suffix x y m)
    (room_from bd.end c.limit c.at mid.limit mid.at (length (x ++ y)) (length y) refl (omega (arith, n)) r) in
    let e : suc left - suc (how_many q) ≡ left - how_many q = omega arith in
    rw z (bound_again (f bd) (λ u. all_of (suc left) f bd) c tt mid one ∙ two ∙ ap (λ n. all_of (suc n) f bd d) (sym e))

all_complete : (f : Bound → Reader (Unit {0})) (dep : ℕ)
    → ((bd : Bound) (c d : Cursor) (b : List ℕ) → IsFramed b dep → Moves c b d → Room bd.end c.limit c.at (length b) → f bd c ≡ Ok (tt, d))
    → (b : List ℕ) → AreFramed b dep → (count : ℕ) (bd : Bound) (c d : Cursor) → length b < count → Moves c b d → bd.end ≡ Some d.at
    → bd.indefinite ≡ false → d.at ≤ c.limit → all_of count f bd c ≡ Ok (tt, d)
unfolding all_of
all_complete f dep complete b p zero bd c d l m e i r = absurd (omega arith)
all_complete f dep complete b p (suc left) bd c d l m e i r =
    let room : Room bd.end c.limit c.at (length b) =
    subst (λ (w : Option ℕ). Room w c.limit c.at (length b)) (sym e) (omega (arith, m.at), omega (arith, m.at, r)) in
    let z = at_end_here bd d.at d.at i e refl in
    many_complete f dep complete p left bd c d (omega arith) m room ∙ rw z refl

framed_header_cut : (bd : Bound) (c : Cursor) {at : ℕ} → framed_header_of bd c ≡ Err (stop Truncated at)
    → CutField c.rest × Room bd.end c.limit c.at (length c.rest + 1)
unfolding framed_header_of
framed_header_cut bd c {at = at} e = elim (bind_err (expected_of bd) _ c e) [
  | inl x ↦ header_cut bd c x
  | inr s ↦ elim (branch (is_framed s.0) (give s.0) (refuse (framing_fault bd s.0.ident)) s.1 (bad (stop Truncated at)) s.3) [
    | inl x ↦ absurd (let k = x.1 in cc)
    | inr x ↦ absurd (no_cut bd s.0.ident (let k = x.1 in cc))
  ]
]

-- Elements, by their levels.
counted_sound : (bd : Bound) (c d m : Cursor) (h : Header) (k : FramedHead bd c m h) (v : List ℕ) → counted_of h.inner h.len m ≡ Ok (v, d)
    → Moves m v d × AreOctets v × (length v ≡ k.size)
counted_sound bd c d m h k v e = octets_sound h.inner.end k.size m d v (ap (λ t. counted_of h.inner t m) (sym k.len) ∙ e)

counted_cut : (bd : Bound) (c m : Cursor) (h : Header) (k : FramedHead bd c m h) {at : ℕ}
    → counted_of h.inner h.len m ≡ Err (stop Truncated at) → length m.rest + 1 ≤ k.size
counted_cut bd c m h k e = (octets_cut h.inner.end k.size m (ap (λ t. counted_of h.inner t m) (sym k.len) ∙ e)).0

some_of : {a b : ℕ} → Some a ≡ Some b → a ≡ b
some_of e = cc

pub framed_sound : (left dep : ℕ) → left + dep ≡ 65 → (bd : Bound) (c d : Cursor) (u : Unit {0}) → framed_of left bd c ≡ Ok (u, d)
    → (b : List ℕ) × Moves c b d × IsFramed b dep
unfolding framed_of to_end_of
framed_sound zero dep n bd c d u e = let s = bind_ok (framed_header_of bd) (λ h. refuse OpaqueTooDeep) c e in absurd (let k = s.3 in cc)
framed_sound (suc left) dep n bd c d u e =
    let s = bind_ok (framed_header_of bd) _ c e in
    let h = s.0 in
    let m = s.1 in
    let k = head_of bd c m h s.2 in
    let i = h.ident ∷ k.more in
    let l = k.sizes in
    elim (branch (eqb ((h.ident / 32) % 2) 1) (to_end_of (framed_of left) h.inner) (counted_of h.inner h.len >>= λ octets. give tt) m (okay (u, d)) s.3) [
      | inl x ↦
          let p = all_sound (framed_of left) (suc dep) (framed_sound left (suc dep) (omega arith)) (suc (m.limit - m.at)) h.inner m d u x.1 in
          let end : d.at ≡ m.at + k.size = some_of (sym p.3 ∙ ap (λ (b : Bound). b.end) k.inner) in
          let size : k.size ≡ length p.0 = omega (arith, p.1.at, end) in
          let whole : (i ++ l) ++ p.0 ≡ i ++ (l ++ p.0) = append_assoc i l p.0 in (
            (i ++ l) ++ p.0,
            moves_then k.moves p.1,
            subst (λ z. IsFramed z dep) (sym whole)
                (constructed (omega (arith, n)) k.is_ident (eqb-true ((h.ident / 32) % 2) 1 x.0) k.form
                (subst (λ z. IsShortLength l z) size k.is_short) p.2),
          )
      | inr x ↦
          let t = bind_ok (counted_of h.inner h.len) (λ octets. give tt) m x.1 in
          let p = counted_sound bd c t.1 m h k t.0 t.2 in
          let whole : (i ++ l) ++ t.0 ≡ i ++ (l ++ t.0) = append_assoc i l t.0 in (
            (i ++ l) ++ t.0,
            subst (λ z. Moves c ((i ++ l) ++ t.0) z) (ok_place t.3) (moves_then k.moves p.0),
            subst (λ z. IsFramed z dep) (sym whole) (primitive t.0 dep (omega (arith, n)) k.is_ident k.not_0
                (λ z. differ x.0 (eqb_yes ((h.ident / 32) % 2) 1 z)) k.form (subst (λ z. IsShortLength l z) (sym p.2) k.is_short) p.1),
          )
    ]

-- behind a header that is complete
contents_of : (left : ℕ) (bd : Bound) (t n : ℕ) (i l x : List ℕ) (c d : Cursor) (z : Result (Unit {0} × Cursor) Stop) → IsIdentifier t i
    → t ≢ 0 → HasItsForm t → IsShortLength l n → n ≡ length x → Moves c (i ++ (l ++ x)) d
    → Room bd.end c.limit c.at (length (i ++ (l ++ x))) → (let m = midway c (i ++ l) x d in let h = sized bd m.at t n (shortest_by l n) in
    (cond (eqb ((t / 32) % 2) 1) (to_end_of (framed_of left) h.inner) (counted_of h.inner h.len >>= λ octets. give tt)) m ≡ z)
    → framed_of (suc left) bd c ≡ z
unfolding framed_of
contents_of left bd t n i l x c d z id not_0 form k size p r e =
    let p' : Moves c ((i ++ l) ++ x) d = subst (λ w. Moves c w d) (sym (append_assoc i l x)) p in
    let m = midway c (i ++ l) x d in
    let one =
    head_complete bd t n i l c m id not_0 form k (moves_prefix (i ++ l) x p')
    (room_less bd.end c.limit c.at (length (i ++ (l ++ x))) (length (i ++ l) + n)
    (omega (arith, size, length-append i (l ++ x), length-append l x, length-append i l)) r) in
    bound_again (framed_header_of bd) _ c (sized bd m.at t n (shortest_by l n)) m one ∙ e

pub framed_complete : (left dep : ℕ) → left + dep ≡ 65 → (bd : Bound) (c d : Cursor) (b : List ℕ) → IsFramed b dep → Moves c b d
    → Room bd.end c.limit c.at (length b) → framed_of left bd c ≡ Ok (tt, d)
unfolding to_end_of
framed_complete zero dep n bd c d b (primitive x _ h _ _ _ _ _ _) p r = absurd (omega (arith, n, h))
framed_complete zero dep n bd c d b (constructed h _ _ _ _ _) p r = absurd (omega (arith, n, h))
framed_complete (suc left) dep n bd c d b (primitive {t = t} {i = i} {l = l} x _ h id not_0 prim form k o) p r =
    let m = midway c (i ++ l) x d in
    let len = length x in
    let bd' = (sized bd m.at t len (shortest_by l len)).inner in
    let at : d.at ≡ m.at + len = p.at ∙ omega (arith, length-append i (l ++ x), length-append l x, length-append i l) in
    let p' : Moves c ((i ++ l) ++ x) d = subst (λ w. Moves c w d) (sym (append_assoc i l x)) p in
    let two =
    octets_complete bd'.end x m d (moves_suffix (i ++ l) x p') o
    (omega arith, omega (arith, r.1, length-append i (l ++ x), length-append l x, length-append i l)) in
    let three : (octets_of bd'.end len >>= λ octets. give tt) m ≡ okay (tt, d) = bound_again (octets_of bd'.end len) (λ octets. give tt) m x d two in
    let no' = eqb_no ((t / 32) % 2) 1 prim in
    contents_of left bd t len i l x c d (okay (tt, d)) id not_0 form k refl p r (rw no' three)
framed_complete (suc left) dep n bd c d b (constructed {t = t} {i = i} {l = l} {c = x} h id con form k inner) p r =
    let m = midway c (i ++ l) x d in
    let len = length x in
    let bd' = (sized bd m.at t len (shortest_by l len)).inner in
    let parts : length (i ++ (l ++ x)) ≡ length (i ++ l) + len = omega (arith, length-append i (l ++ x), length-append l x, length-append i l) in
    let at : d.at ≡ m.at + len = p.at ∙ omega (arith, parts) in
    let p' : Moves c ((i ++ l) ++ x) d = subst (λ w. Moves c w d) (sym (append_assoc i l x)) p in
    let within : d.at ≤ c.limit = omega (arith, p.at, r.1) in
    let two =
    all_complete (framed_of left) (suc dep) (framed_complete left (suc dep) (omega arith)) x inner (suc (m.limit - m.at)) bd' m d
    (omega (arith, at, within)) (moves_suffix (i ++ l) x p') (ap Some (sym at)) refl within in
    let yes = eqb_yes ((t / 32) % 2) 1 con in
    contents_of left bd t len i l x c d (okay (tt, d)) id (λ z. omega (arith, con, z)) form k refl p r (rw yes two)

framed_cut : (left dep : ℕ) → left + dep ≡ 65 → (bd : Bound) (c : Cursor) {at : ℕ} → framed_of left bd c ≡ Err (stop Truncated at)
    → CutField c.rest × Room bd.end c.limit c.at (length c.rest + 1)
unfolding framed_of to_end_of
framed_cut zero dep n bd c e = elim (bind_err (framed_header_of bd) (λ h. refuse OpaqueTooDeep) c e) [
  | inl x ↦ framed_header_cut bd c x
  | inr x ↦ absurd (let k = x.3 in cc)
]
framed_cut (suc left) dep n bd c {at = at} e = elim (bind_err (framed_header_of bd) _ c e) [
  | inl x ↦ framed_header_cut bd c x
  | inr s ↦
      let h = s.0 in
      let m = s.1 in
      let k = head_of bd c m h s.2 in
      elim (branch (eqb ((h.ident / 32) % 2) 1) (to_end_of (framed_of left) h.inner) (counted_of h.inner h.len >>= λ octets. give tt) m
      (bad (stop Truncated at)) s.3) [
        | inl x ↦
            let room =
            all_cut (framed_of left) (suc dep) (framed_sound left (suc dep) (omega arith))
            (λ bd c at e. framed_cut left (suc dep) (omega arith) bd c e) (suc (m.limit - m.at)) h.inner m x.1 in
            let room' : Room (Some (m.at + k.size)) m.limit m.at (length m.rest + 1) =
            subst (λ (b : Bound). Room b.end m.limit m.at (length m.rest + 1)) k.inner room in
            head_cut bd c m h k (omega (arith, room'.0))
        | inr x ↦ elim (bind_err (counted_of h.inner h.len) (λ octets. give tt) m x.1) [
          | inl y ↦ head_cut bd c m h k (counted_cut bd c m h k y)
          | inr y ↦ absurd (let z = y.3 in cc)
        ]
      ]
]

-- Opaque values.
framed_reads : {m : Rules} → Reads m (λ b u. IsFramed b 1) (framed_of 64)
framed_reads = record {
  sound = λ bd c d u i e. framed_sound 64 1 refl bd c d u e;
  complete = λ bd c d b u i p s r. framed_complete 64 1 refl bd c d b s p r;
  cut = λ bd c at i e. framed_cut 64 1 refl bd c e;
}

pub opaque_cut : (bd : Bound) (c : Cursor) (x : Stop) → opaque_of bd c ≡ Err x → framed_of 64 bd c ≡ Err x
unfolding opaque_of
opaque_cut bd c x e = elim (bind_err (taking (framed_of 64) bd) (λ p. give p.0) c e) [
  | inl p ↦ taking_cut (framed_of 64) bd c x p
  | inr p ↦ absurd (let z = p.3 in cc)
]

pub opaque_reads : {m : Rules} → Reads m opaque opaque_of
unfolding opaque_of
opaque_reads {m = m} = given_reads (λ p. p.0) (λ b p s. (s.1, s.0)) (λ b v s. ((v, tt), (s.1, s.0), refl)) (taking_reads (framed_reads {m = m}))

pub framed_frame : {b : List ℕ} {dep : ℕ} → IsFramed b dep → Frame b
framed_frame (primitive c dep h id not_0 prim form k o) = definite c id k.is
framed_frame (constructed {c = c} h id con form k inner) = definite c id k.is

-- a field that begins with any octet but 00
pub opaque_field : IsField (λ t. t ≢ 0) opaque
opaque_field = record {
  frame = λ b v s. framed_frame s.0;
  starts = λ b v s. let t = framed_two s.0 in (t.0, t.1, t.2, t.3, t.3);
  same = λ b v w s t. sym s.1 ∙ t.1;
}

-- Its clauses.
pub opaque_found : (bd : Bound) (old new : State) (r : Result Span Fault) → Refines seen (opaque_of bd) old new r
    → OnOk r (new.ahead ≡ None) → IfOk r (λ s. Found opaque old new (seen new s))
opaque_found bd old new r g n = ok_clause (opaque_reads {m = rules_of bd.strict}) bd (follows bd) seen old new r g (on_if (new.ahead ≡ None) r n)
  where
    on_if : (P : Type 0) (r : Result Span Fault) → OnOk r P → IfOk r (λ v. P)
    on_if P (Ok v) p = p
    on_if P (Err e) p = tt

pub opaque_faults : (bd : Bound) (old new : State) (r : Result Span Fault) → Refines seen (opaque_of bd) old new r → IfErr r (Faults opaque bd old new)
opaque_faults bd old new r g = err_clause (opaque_reads {m = rules_of bd.strict}) bd (follows bd) seen old new r g
