-- What the steps of an opaque element give.
use Rattle.std.proofs.Common.{◌≡◌, ◌≢◌, ℕ, zero, suc, ◌+◌, ◌-◌, ◌<◌, ◌≤◌, ◌/◌, ◌%◌, Bool, true, false, cond, if◌then◌else◌, eqb, ◌&&◌, List, [], ◌++◌, length, Option, Some, None, Result, Ok, Err, refl, sym, ap, subst, ◌∙◌, arith, inl, inr, IfSome, OnOk}
use Rattle.cms_tlv.specs.declared.fault.Fault.{Fault}
use Rattle.cms_tlv.specs.declared.fault.Reason.TheVariants.{Truncated, UnexpectedElement, OpaqueNotDer, OpaqueTooDeep}
use Rattle.cms_tlv.specs.declared.bound.Bound.{Bound}
use Rattle.cms_tlv.specs.declared.bound.Header.{Header}
use Rattle.cms_tlv.specs.declared.span.Span.{Span}
use Rattle.cms_tlv.specs.State.{State, position}
use Rattle.cms_tlv.specs.Reading.{Cursor, Reader, ◌>>=◌, give, refuse, octets_of, expected_of, counted_of, ends_here, is_framed, framing_fault, framed_header_of, all_of, to_end_of, framed_of, opaque_of}
use Rattle.cms_tlv.specs.Refines.{NeedsNoOctets, cursor, Simulates, RefinesWithValue, Failed, Refines, plain, seen}
use Rattle.cms_tlv.proofs.Inverse.{okay, ok_value, ok_place, branch, bind_ok, and_first}
use Rattle.cms_tlv.proofs.HeaderReads.{HasLength, header_sound}
use Rattle.cms_tlv.proofs.FieldGives.{contents_within}
use Rattle.cms_tlv.proofs.Bind.{reaches_same, reaches_then, reaches_bind, then_reaches, fails, fails_then, gave}
use Rattle.cms_tlv.proofs.OctetsTaken.{taking_failed, taking_gave}

-- The header.
unfoldable pub header_next : Bound → Header → Reader Header
header_next bd h = if is_framed h then give h else refuse (framing_fault bd h.ident)

pub header_bind : (bd : Bound) → framed_header_of bd ≡ (expected_of bd >>= header_next bd)
unfolding framed_header_of header_next
header_bind bd = refl

pub header_same : (bd : Bound) (h : Header) → is_framed h ≡ true → header_next bd h ≡ give h
unfolding header_next
header_same bd h e = rw e refl

pub header_other : (bd : Bound) (h : Header) → is_framed h ≡ false → header_next bd h ≡ refuse (framing_fault bd h.ident)
unfolding header_next
header_other bd h e = rw e refl

pub no_cut : (bd : Bound) (ident : ℕ) → framing_fault bd ident ≢ Truncated
no_cut bd ident = go (bd.indefinite && eqb ident 0)
  where
    go : (b : Bool) → cond b UnexpectedElement OpaqueNotDer ≢ Truncated
    go true e = absurd cc
    go false e = absurd cc

-- whatever precedes it
pub framing_free : (bd : Bound) (ident limit at : ℕ) → NeedsNoOctets limit at (framing_fault bd ident)
framing_free bd ident limit at = go (bd.indefinite && eqb ident 0)
  where
    go : (b : Bool) → NeedsNoOctets limit at (cond b UnexpectedElement OpaqueNotDer)
    go true = tt
    go false = tt

-- a header of this framing is one that was expected
pub framed_header : (bd : Bound) (c d : Cursor) (h : Header) → framed_header_of bd c ≡ Ok (h, d) → (expected_of bd c ≡ Ok (h, d)) × (is_framed h ≡ true)
unfolding framed_header_of
framed_header bd c d h e =
    let s = bind_ok (expected_of bd) (λ h. cond (is_framed h) (give h) (refuse (framing_fault bd h.ident))) c e in
    elim (branch (is_framed s.0) (give s.0) (refuse (framing_fault bd s.0.ident)) s.1 (okay (h, d)) s.3) [
      | inl x ↦
          let v : s.0 ≡ h = ok_value x.1 in
          let p : s.1 ≡ d = ok_place x.1 in
          (s.2 ∙ ap (λ t. okay (t, s.1)) v ∙ ap (λ t. okay (h, t)) p, ap is_framed (sym v) ∙ x.0)
      | inr x ↦ absurd (let k = x.1 in cc)
    ]

pub expected_gave : (bd : Bound) {a b : State} {h : Header} → RefinesWithValue plain (framed_header_of bd) a b h → RefinesWithValue plain (expected_of bd) a b h
expected_gave bd {a = a} {b = b} {h = h} g = record {
  reaches =
      record {
        more = g.reaches.more;
        took = g.reaches.took;
        refines = λ ys.
            (framed_header bd (cursor a (g.reaches.more ++ ys)) (cursor b ys) h (g.reaches.refines ys)).0;
      };
  sound = g.sound;
  lasts = g.lasts;
}

sized_header : (bd : Bound) (at limit : ℕ) (l : List ℕ) (h : Header) (len : Option ℕ) → HasLength bd at limit l h len → h.shortest ≡ true
    → (n : ℕ) × (len ≡ Some n)
sized_header bd at limit l h None (p, k, s, q) e = absurd (let z = ap (λ (x : Header). x.shortest) q ∙ e in cc)
sized_header bd at limit l h (Some n) k e = (n, refl)

-- and its length is definite
pub framed_sized : (bd : Bound) {a b : State} {h : Header} → RefinesWithValue plain (framed_header_of bd) a b h → (n : ℕ) × (h.len ≡ Some n)
framed_sized bd {a = a} {b = b} {h = h} g =
    let k = framed_header bd (cursor a (g.reaches.more ++ [])) (cursor b []) h (g.reaches.refines []) in
    let s = header_sound bd (cursor a (g.reaches.more ++ [])) (cursor b []) h k.0 in
    sized_header bd (length b.done) b.limit s.sizes h h.len s.has (and_first h.shortest _ k.1)

-- The element.
unfoldable pub framed_next : ℕ → Header → Reader (Unit {0})
framed_next zero h = refuse OpaqueTooDeep
framed_next (suc left) h =
    if eqb ((h.ident / 32) % 2) 1 then to_end_of (framed_of left) h.inner
    else (counted_of h.inner h.len >>= λ octets. give tt)

pub framed_bind : (levels : ℕ) (bd : Bound) → framed_of levels bd ≡ (framed_header_of bd >>= framed_next levels)
unfolding framed_of framed_next
framed_bind zero bd = refl
framed_bind (suc left) bd = refl

pub framed_deep : (levels : ℕ) (h : Header) → levels ≡ 0 → framed_next levels h ≡ refuse OpaqueTooDeep
unfolding framed_next
framed_deep levels h e = rw e refl

pub framed_inside : (levels : ℕ) (h : Header) → levels ≢ 0 → eqb ((h.ident / 32) % 2) 1 ≡ true
    → framed_next levels h ≡ to_end_of (framed_of (levels - 1)) h.inner
unfolding framed_next
framed_inside levels h n e =
    let k : levels ≡ suc (levels - 1) = omega arith in
    ap (λ t. framed_next t h) k ∙ (rw e refl)

pub framed_counted : (levels n : ℕ) (h : Header) → levels ≢ 0 → eqb ((h.ident / 32) % 2) 1 ≡ false → h.len ≡ Some n
    → framed_next levels h ≡ (octets_of h.inner.end n >>= λ octets. give tt)
unfolding framed_next
framed_counted levels n h k e l =
    let s : levels ≡ suc (levels - 1) = omega arith in
    ap (λ t. framed_next t h) s ∙ (rw (e, l) refl)

-- Elements to the end.
module _ (f : Bound → Reader (Unit {0})) (bd : Bound) where
  -- elements were read, and others may follow
  pub record HasPassed (s0 s1 : State) : Type 0 where
    pub left : ℕ
    pub enough : s1.limit ≤ length s1.done + left
    pub sound : s1.fault ≡ None
    pub so_far : Simulates (to_end_of f bd) s0 (all_of (suc left) f bd) s1

  pub none_passed : (s : State) → s.fault ≡ None → HasPassed s s
  unfolding to_end_of
  none_passed s h = record { left = s.limit - length s.done; enough = omega arith; sound = h; so_far = reaches_same s (λ ys. refl) }

  all_end : (n : ℕ) (c : Cursor) → ends_here bd c.at ≡ true → all_of (suc n) f bd c ≡ Ok (tt, c)
  unfolding all_of
  all_end n c e = rw e refl

  all_more : (n : ℕ) (c : Cursor) → ends_here bd c.at ≡ false → all_of (suc n) f bd c ≡ (f bd >>= λ u. all_of n f bd) c
  unfolding all_of
  all_more n c e = rw e refl

  on : (n : ℕ) (s : State) → ends_here bd (length s.done) ≡ false → Simulates (all_of (suc n) f bd) s (f bd >>= λ u. all_of n f bd) s
  on n s e = reaches_same s (λ ys. all_more n (cursor s ys) e)

  pub all_passed : {s0 s1 : State} → HasPassed s0 s1 → ends_here bd (length s1.done) ≡ true → RefinesWithValue plain (to_end_of f bd) s0 s1 tt
  all_passed {s1 = s1} p e = gave tt (reaches_then p.so_far (reaches_same s1 (λ ys. all_end p.left (cursor s1 ys) e))) refl p.sound (λ d k. refl)

  pub one_fails : {s0 s1 s2 : State} {x : Fault} → HasPassed s0 s1 → ends_here bd (length s1.done) ≡ false → Failed (f bd) s1 s2 x
      → Failed (to_end_of f bd) s0 s2 x
  one_fails {s1 = s1} p e q = fails_then (reaches_then p.so_far (on p.left s1 e)) (fails _ q)

  by_left : (left : ℕ) (s0 s1 s2 : State) → s1.limit ≤ length s1.done + left → Simulates (to_end_of f bd) s0 (all_of (suc left) f bd) s1
      → ends_here bd (length s1.done) ≡ false → length s1.done < length s2.done → length s1.done < s1.limit
      → RefinesWithValue plain (f bd) s1 s2 tt → HasPassed s0 s2
  by_left zero s0 s1 s2 enough so_far e moved room g = absurd (omega arith)
  by_left (suc left) s0 s1 s2 enough so_far e moved room g =
      let l : s2.limit ≡ s1.limit = g.reaches.took.limit in
      record {
        left = left;
        enough = omega (arith, l);
        sound = g.sound;
        so_far = reaches_then so_far (reaches_then (on (suc left) s1 e) (reaches_bind (λ u. all_of (suc left) f bd) g.reaches));
      }

  pub one_passed : {s0 s1 s2 : State} → HasPassed s0 s1 → ends_here bd (length s1.done) ≡ false → length s1.done < length s2.done
      → length s1.done < s1.limit → RefinesWithValue plain (f bd) s1 s2 tt → HasPassed s0 s2
  one_passed {s0 = s0} {s1 = s1} {s2 = s2} p e moved room g = by_left p.left s0 s1 s2 p.enough p.so_far e moved room g

-- what is read of counted contents
pub counted_gives : (bd : Bound) (n : ℕ) (h : Header) {a b : State} (c : State) (r : Result Span Fault)
    → RefinesWithValue plain (framed_header_of bd) a b h → h.len ≡ Some n → Refines seen (octets_of None n) b c r
    → Refines seen (octets_of h.inner.end n) b c r
counted_gives bd n h {a = a} {b = b} c r g l p = contents_within bd n h a b c r (expected_gave bd g) l p

-- an octet was due before the limit
pub before_limit : (bd : Bound) {a b : State} (h : Header) → RefinesWithValue plain (framed_header_of bd) a b h
    → length a.done < length b.done → IfSome h.len (λ n. position b + n ≤ b.limit) → length a.done < a.limit
before_limit bd {b = b} h g moved r = let s = framed_sized bd g in let q : position b + s.0 ≤ b.limit =
    subst (λ (t : Option ℕ). IfSome t (λ n. position b + n ≤ b.limit)) s.1 r in omega (arith, q, moved, g.reaches.took.limit)

pub ok_of : {A E : Type 0} {P : Type 0} (r : Result A E) → P → OnOk r P
ok_of (Ok v) p = p
ok_of (Err e) p = tt

-- The octets of the element.
pub taken_failed : (bd : Bound) {a b : State} {e : Fault} → Failed (framed_of 64 bd) a b e → Failed (opaque_of bd) a b e
unfolding opaque_of
taken_failed bd p = fails _ (taking_failed (framed_of 64) bd p)

pub taken_gave : (bd : Bound) {a b : State} {start end : ℕ} {u : Unit {0}} → start ≡ length a.done → end ≡ length b.done → b.ahead ≡ None
    → RefinesWithValue plain (framed_of 64 bd) a b u → RefinesWithValue seen (opaque_of bd) a b (record { start = start; end = end })
unfolding opaque_of
taken_gave bd {b = b} s t none g =
    let p = taking_gave (framed_of 64) bd s t none g in
    gave _ (then_reaches (λ p. give p.0) p (reaches_same b (λ ys. refl))) refl p.sound (λ later k. ap (λ p. p.0) (p.lasts later k))
