-- No octet past the innermost definite end is read.
use Rattle.std.proofs.Common.{◌≡◌, ◌⊎◌, inl, inr, ℕ, zero, suc, ◌+◌, ◌/◌, ◌%◌, ◌≤◌, true, cond, eqb, not, ◌&&◌, List, [], ◌∷◌, length, Option, Some, None, Result, Ok, Err, sym, ap, subst, ◌∙◌, arith}
use Rattle.std.specs.Prelude.{OnOk, ◌++◌}
use Rattle.cms_tlv.specs.declared.fault.Reason.TheVariants.{UnexpectedElement}
use Rattle.cms_tlv.specs.declared.bound.Bound.{Bound}
use Rattle.cms_tlv.specs.declared.bound.Header.{Header}
use Rattle.cms_tlv.specs.Clauses.{EndsBefore, IsWithin}
use Rattle.cms_tlv.specs.State.{State}
use Rattle.cms_tlv.specs.declared.fault.Fault.{Fault}
use Rattle.cms_tlv.specs.Refines.{cursor, Refines}
use Rattle.cms_tlv.specs.Reading.{Cursor, Stop, stop, Reader, and_octets, taking, enter_of, primitive_of, opaque_of, ◌>>=◌, give, refuse, octet_of, rest_of_tag, header_of, expected_of, end_in, close_of, is_zeros, ends_here, is_at, counted_of, all_of, to_end_of, framed_header_of, framed_of}
use Rattle.std.proofs.lemmas.Bool.{eqb-true}
use Rattle.cms_tlv.proofs.Inverse.{okay, chosen, ok_same, ok_place, branch, bind_ok, passed, and_second}
use Rattle.cms_tlv.proofs.OctetReads.{octet_sound, octets_sound}
use Rattle.cms_tlv.proofs.HeaderReads.{HasLength, after_sound, header_sound}
use Rattle.cms_tlv.proofs.OpaqueReads.{head_of}

pub sooner : (end : Option ℕ) (a b : ℕ) → a ≤ b → EndsBefore end b → EndsBefore end a
sooner None a b l h = tt
sooner (Some e) a b l h = omega arith

-- contents that end at the second place lie in those that end at the first
abbrev pub Inside : Option ℕ → Option ℕ → Type 0
Inside None inner = Unit {0}
Inside (Some e) None = ⊥
Inside (Some e) (Some f) = f ≤ e

pub inside_same : (end : Option ℕ) → Inside end end
inside_same None = tt
inside_same (Some e) = omega arith

pub inside_at : (end : Option ℕ) (n : ℕ) → EndsBefore end n → Inside end (Some n)
inside_at None n h = tt
inside_at (Some e) n h = h

pub from_inside : (end inner : Option ℕ) (at : ℕ) → Inside end inner → EndsBefore inner at → EndsBefore end at
from_inside None inner at i h = tt
from_inside (Some e) None at i h = absurd i
from_inside (Some e) (Some f) at i h = omega arith

pub header_within : (bd : Bound) (c d : Cursor) (h : Header) → header_of bd c ≡ Ok (h, d) → EndsBefore bd.end d.at
unfolding header_of
header_within bd c d h e =
    let s = bind_ok (octet_of bd.end) _ c e in
    let one = octet_sound bd.end c s.1 s.0 s.2 in
    let t = bind_ok (rest_of_tag bd.end s.0) _ s.1 s.3 in
    let u = bind_ok (octet_of bd.end) _ t.1 t.3 in
    let three = octet_sound bd.end t.1 u.1 u.0 u.2 in
    let four = after_sound bd s.0 u.0 u.1 d h three.octet u.3 in
    go u.0 four.more u.1 t.1.at three.room.0 three.moves.at four.moves.at h.len four.has
  where
    go : (f : ℕ) (more : List ℕ) (m : Cursor) (at : ℕ) → EndsBefore bd.end (at + 1) → m.at ≡ at + 1 → d.at ≡ m.at + length more
        → (len : Option ℕ) → HasLength bd d.at d.limit (f ∷ more) h len → EndsBefore bd.end d.at
    go f more m at r p q None k = sooner bd.end _ _ (omega (arith, ap length k.0, p, q)) r
    go f more m at r p q (Some n) k = sooner bd.end _ _ (omega arith) k.2.0

pub expected_within : (bd : Bound) (c d : Cursor) (h : Header) → expected_of bd c ≡ Ok (h, d) → EndsBefore bd.end d.at
unfolding expected_of
expected_within bd c d h e = header_within bd c d h (passed (ends_here bd c.at) (stop UnexpectedElement c.at) (header_of bd c) h d e).1

-- where the contents of a header end
pub inner_inside : (bd : Bound) (at limit : ℕ) (l : List ℕ) (h : Header) (len : Option ℕ) → HasLength bd at limit l h len → Inside bd.end h.inner.end
inner_inside bd at limit l h None k = subst (λ (x : Header). Inside bd.end x.inner.end) k.3 (inside_same bd.end)
inner_inside bd at limit l h (Some n) k = subst (λ (x : Header). Inside bd.end x.inner.end) k.3 (inside_at bd.end (at + n) k.2.0)

-- the contents of a header
pub counted_within : (bd : Bound) (c d : Cursor) (l v : List ℕ) (h : Header) (len : Option ℕ) → HasLength bd c.at c.limit l h len
    → counted_of h.inner len c ≡ Ok (v, d) → EndsBefore bd.end d.at
counted_within bd c d l v h None k e = absurd (let z = e in cc)
counted_within bd c d l v h (Some n) k e = let p = octets_sound h.inner.end n c d v e in sooner bd.end _ _ (omega (arith, p.0.at, p.2)) k.2.0

pub close_within : (bd : Bound) (c d : Cursor) (u : Unit {0}) → close_of bd c ≡ Ok (u, d) → (c ≡ d) ⊎ EndsBefore bd.end d.at
unfolding close_of end_in
close_within bd c d u e = elim (chosen (ends_here bd c.at) (okay (tt, c)) (end_in bd c) (okay (u, d)) e) [
  | inl x ↦ inl (ok_place x.1)
  | inr x ↦
      let s = bind_ok (expected_of bd) _ c x.1 in
      elim (branch (bd.indefinite && is_zeros s.0) (give tt) (refuse UnexpectedElement) s.1 (okay (u, d)) s.3) [
        | inl y ↦ inr (subst (λ (m : Cursor). EndsBefore bd.end m.at) (ok_place y.1) (expected_within bd c s.1 s.0 s.2))
        | inr y ↦ absurd (let z = y.1 in cc)
      ]
]

at_end : (end : Option ℕ) (at : ℕ) → is_at end at ≡ true → end ≡ Some at
at_end None at e = absurd cc
at_end (Some f) at e = ap Some (sym (eqb-true at f e))

-- elements up to a definite end were read, and it is here
all_ends : (count : ℕ) (f : Bound → Reader (Unit {0})) (bd : Bound) (c d : Cursor) (u : Unit {0}) → all_of count f bd c ≡ Ok (u, d) → ends_here bd d.at ≡ true
unfolding all_of
all_ends zero f bd c d u e = absurd (let z = e in cc)
all_ends (suc count) f bd c d u e = elim (chosen (ends_here bd c.at) (okay (tt, c)) ((f bd >>= λ u. all_of count f bd) c) (okay (u, d)) e) [
  | inl x ↦ subst (λ (m : Cursor). ends_here bd m.at ≡ true) (ok_place x.1) x.0
  | inr x ↦ let s = bind_ok (f bd) (λ u. all_of count f bd) c x.1 in all_ends count f bd s.1 d u s.3
]

pub framed_within : (levels : ℕ) (bd : Bound) (c d : Cursor) (u : Unit {0}) → framed_of levels bd c ≡ Ok (u, d) → EndsBefore bd.end d.at
unfolding framed_of to_end_of
framed_within zero bd c d u e = absurd (let s = bind_ok (framed_header_of bd) _ c e in let z = s.3 in cc)
framed_within (suc levels) bd c d u e =
    let s = bind_ok (framed_header_of bd) _ c e in
    let h = s.0 in
    let k = head_of bd c s.1 h s.2 in
    elim (branch (eqb ((h.ident / 32) % 2) 1) (to_end_of (framed_of levels) h.inner) (counted_of h.inner h.len >>= λ octets. give tt) s.1 (okay (u, d)) s.3) [
      | inl x ↦
          let ends =
          at_end h.inner.end d.at (and_second (not h.inner.indefinite) (is_at h.inner.end d.at)
          (all_ends _ (framed_of levels) h.inner s.1 d u x.1)) in
          sooner bd.end _ _ (omega (arith, some_same (sym (ap (λ (b : Bound). b.end) k.inner) ∙ ends))) k.room.0
      | inr x ↦
          let t = bind_ok (counted_of h.inner h.len) (λ octets. give tt) s.1 x.1 in
          let p = octets_sound h.inner.end k.size s.1 t.1 t.0 (subst (λ len. counted_of h.inner len s.1 ≡ Ok (t.0, t.1)) k.len t.2) in
          subst (λ (m : Cursor). EndsBefore bd.end m.at) (ok_place t.3) (sooner bd.end _ _ (omega (arith, p.0.at, p.2)) k.room.0)
    ]
  where
    some_same : {m n : ℕ} → Option.Some m ≡ Some n → m ≡ n
    some_same e = cc

-- Calls.

pub enter_within : (id : ℕ) (bd : Bound) (c d : Cursor) (inner : Bound) → enter_of id bd c ≡ Ok (inner, d) → EndsBefore bd.end d.at
unfolding enter_of
enter_within id bd c d inner e =
    let s = bind_ok (expected_of bd) (λ h. cond (eqb h.ident id) (give h.inner) (refuse UnexpectedElement)) c e in
    elim (branch (eqb s.0.ident id) (give s.0.inner) (refuse UnexpectedElement) s.1 (okay (inner, d)) s.3) [
      | inl x ↦ subst (λ (m : Cursor). EndsBefore bd.end m.at) (ok_place x.1) (expected_within bd c s.1 s.0 s.2)
      | inr x ↦ absurd (let z = x.1 in cc)
    ]

pub primitive_within : (id : ℕ) (bd : Bound) (c d : Cursor) (v : List ℕ) → primitive_of id bd c ≡ Ok (v, d) → EndsBefore bd.end d.at
unfolding primitive_of
primitive_within id bd c d v e =
    let s = bind_ok (expected_of bd) (λ h. cond (eqb h.ident id) (counted_of h.inner h.len) (refuse UnexpectedElement)) c e in
    let k = header_sound bd c s.1 s.0 s.2 in
    elim (branch (eqb s.0.ident id) (counted_of s.0.inner s.0.len) (refuse UnexpectedElement) s.1 (okay (v, d)) s.3) [
      | inl x ↦ counted_within bd s.1 d k.sizes v s.0 s.0.len k.has x.1
      | inr x ↦ absurd (let z = x.1 in cc)
    ]

pub taken_goes : {A : Type 0} (c d : Cursor) (r : Result (A × Cursor) Stop) (v : List ℕ × A) → and_octets c r ≡ Ok (v, d) → r ≡ Ok (v.1, d)
taken_goes {A = A} c d (Ok p) v e = ap (λ z. okay {A = A} (z.0.1, z.1)) (ok_same e)
taken_goes c d (Err x) v e = absurd cc

pub opaque_within : (bd : Bound) (c d : Cursor) (v : List ℕ) → opaque_of bd c ≡ Ok (v, d) → EndsBefore bd.end d.at
unfolding opaque_of taking
opaque_within bd c d v e =
    let s = bind_ok (taking (framed_of 64) bd) (λ p. give p.0) c e in
    subst (λ (m : Cursor). EndsBefore bd.end m.at) (ok_place s.3) (framed_within 64 bd c s.1 s.0.1 (taken_goes c s.1 (framed_of 64 bd c) s.0 s.2))

pub consumed_within : {A V : Type 0} (view : State → V → A) {f : Reader A} (bd : Bound)
    → ((c d : Cursor) (v : A) → f c ≡ Ok (v, d) → EndsBefore bd.end d.at) → (old new : State) (r : Result V Fault)
    → Refines view f old new r → OnOk r (IsWithin bd new)
consumed_within view bd h old new (Ok v) g = h (cursor old (g.reaches.more ++ [])) (cursor new []) (view new v) (g.reaches.refines [])
consumed_within view bd h old new (Err e) g = tt
