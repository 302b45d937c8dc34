-- What the steps of a header give.
use Rattle.std.proofs.Common.{◌≡◌, ◌≢◌, ℕ, suc, ◌+◌, ◌-◌, ◌*◌, ◌<◌, ◌≤◌, Bool, true, false, not, ◌/◌, ◌%◌, if◌then◌else◌, eqb, ltb, ◌&&◌, List, length, Option, Some, None, Result, Ok, Err, OnOk, length-append, refl, sym, ap, subst, ◌∙◌, arith}
use Rattle.cms_tlv.specs.declared.fault.Fault.{Fault}
use Rattle.cms_tlv.specs.declared.fault.Fault.TheVariants as faults
use Rattle.cms_tlv.specs.declared.fault.Reason.{Reason}
use Rattle.cms_tlv.specs.declared.fault.Reason.TheVariants.{Truncated, TooLarge, LengthReserved, LengthTooLong, IndefinitePrimitive, Overrun, UnexpectedElement, SignedAttrsNotDer}
use Rattle.cms_tlv.specs.declared.bound.Bound.{Bound}
use Rattle.cms_tlv.specs.declared.bound.Header.{Header}
use Rattle.cms_tlv.specs.State.{State, position}
use Rattle.cms_tlv.specs.Reading.{Cursor, stop, Reader, ◌>>=◌, give, refuse, octet_of, tag_of, number_of, rest_of_tag, is_over, definite_length_of, indefinite_length_of, long_of, after_first, ends_here, header_of, expected_of, is_zeros, end_in, close_of}
use Rattle.cms_tlv.specs.Refines.{Settled, cursor, Simulates, RefinesWithValue, Failed, Refines, plain}
use Rattle.cms_tlv.proofs.Inverse.{ltb_yes, ltb_no, eqb_yes, eqb_no, and_both}
use Rattle.cms_tlv.proofs.Steps.{with_fault}
use Rattle.cms_tlv.proofs.Bind.{reaches_same, reaches_then, reaches_bind, fails, fails_then, gave, refuses}
use Rattle.cms_tlv.proofs.HeaderReads.{sized, opened}

-- A reading that goes on with an octet.
pub step_gave : {A : Type 0} {f g : Reader A} (end : Option ℕ) (h : ℕ → Reader A) {a b c : State} {x : ℕ} → Simulates f a g b
    → g ≡ (octet_of end >>= h) → RefinesWithValue plain (octet_of end) b c x → Simulates f a (h x) c
step_gave {f = f} end h {a = a} {b = b} p e q = reaches_then (subst (λ r. Simulates f a r b) e p) (reaches_bind h q.reaches)

pub step_failed : {A : Type 0} {f g : Reader A} (end : Option ℕ) (h : ℕ → Reader A) {a b c : State} {x : Fault} → Simulates f a g b
    → g ≡ (octet_of end >>= h) → Failed (octet_of end) b c x → Failed f a c x
step_failed {f = f} end h {a = a} {b = b} p e q = fails_then (subst (λ r. Simulates f a r b) e p) (fails h q)

-- The octets of a number.
abbrev pub number_next : Option ℕ → ℕ → ℕ → ℕ → Reader ℕ
number_next end left n b = number_of end left (256 * n + b)

pub number_step : (end : Option ℕ) (count i n : ℕ) → i < count → number_of end (count - i) n ≡ (octet_of end >>= number_next end (count - (i + 1)) n)
unfolding number_of
number_step end count i n h =
    let k : count - i ≡ suc (count - (i + 1)) = omega arith in
    rw k refl

pub number_none : (end : Option ℕ) (count i n : ℕ) → count ≤ i → number_of end (count - i) n ≡ give n
unfolding number_of
number_none end count i n h = let z : count - i ≡ 0 = omega arith in rw z refl

-- The octets of a high tag number.
unfoldable pub tag_next : Option ℕ → ℕ → ℕ → ℕ → Reader (Unit {0})
tag_next end left n b =
    if ltb b 128 then (if ltb (n * 128 + b) 31 then refuse UnexpectedElement else give tt)
    else if eqb b 128 && eqb n 0 then refuse UnexpectedElement
    else tag_of end left (n * 128 + (b - 128))

pub tag_step : (end : Option ℕ) (i n : ℕ) → i < 4 → tag_of end (4 - i) n ≡ (octet_of end >>= tag_next end (4 - (i + 1)) n)
unfolding tag_of tag_next
tag_step end i n h =
    let k : 4 - i ≡ suc (4 - (i + 1)) = omega arith in
    rw k refl

pub tag_none : (end : Option ℕ) (i n : ℕ) → 4 ≤ i → tag_of end (4 - i) n ≡ refuse UnexpectedElement
unfolding tag_of
tag_none end i n h = let z : 4 - i ≡ 0 = omega arith in rw z refl

pub tag_low : (end : Option ℕ) (left n b : ℕ) → b < 128 → n * 128 + b < 31 → tag_next end left n b ≡ refuse UnexpectedElement
unfolding tag_next
tag_low end left n b l m = let x = ltb_yes b 128 l in let y = ltb_yes (n * 128 + b) 31 m in rw (x, y) refl

pub tag_ends : (end : Option ℕ) (left n b : ℕ) → b < 128 → 31 ≤ n * 128 + b → tag_next end left n b ≡ give tt
unfolding tag_next
tag_ends end left n b l m = let x = ltb_yes b 128 l in let y = ltb_no (n * 128 + b) 31 m in rw (x, y) refl

pub tag_zero : (end : Option ℕ) (left n b : ℕ) → b ≡ 128 → n ≡ 0 → tag_next end left n b ≡ refuse UnexpectedElement
unfolding tag_next
tag_zero end left n b l m =
    let x = ltb_no b 128 (omega arith) in
    let y = and_both (eqb_yes b 128 l) (eqb_yes n 0 m) in
    rw (x, y) refl

pub tag_more : (end : Option ℕ) (left n b : ℕ) → 128 ≤ b → ((eqb b 128 && eqb n 0) ≡ false) → tag_next end left n b ≡ tag_of end left (n * 128 + (b - 128))
unfolding tag_next
tag_more end left n b l e = let x = ltb_no b 128 l in rw (x, e) refl

-- A refusal where reading came to.
pub refused_at : {A : Type 0} {f g : Reader A} {a b c : State} {e : Fault} (reason : Reason) → b.fault ≡ None → reason ≢ Truncated → Settled reason b
    → Simulates f a g b → ((ys : List ℕ) → g (cursor b ys) ≡ Err (stop reason (length b.done))) → c ≡ with_fault b (Some e)
    → e ≡ faults.Refused reason (position b) → Failed f a c e
refused_at {f = f} {a = a} {b = b} {c = c} {e = e} reason sound n settled p k s t =
    let at : Fault = faults.Refused reason (position b) in
    let h : Failed f a (with_fault b (Some at)) at = fails_then p (refuses b reason sound n settled k) in
    let w : c ≡ with_fault b (Some at) = s ∙ ap (λ (x : Fault). with_fault b (Some x)) t in
    subst (λ (x : Fault). Failed f a c x) (sym t) (subst (λ (x : State). Failed f a x at) (sym w) h)

-- A reader that refuses everything.
pub refused_as : {A : Type 0} {f g : Reader A} {a b c : State} {e : Fault} (reason : Reason) → b.fault ≡ None → reason ≢ Truncated → Settled reason b
    → Simulates f a g b → g ≡ refuse reason → c ≡ with_fault b (Some e) → e ≡ faults.Refused reason (position b) → Failed f a c e
refused_as {b = b} reason sound n settled p k s t = refused_at reason sound n settled p (λ ys. ap (λ r. r (cursor b ys)) k) s t

pub here : {A : Type 0} (f : Reader A) (s : State) → Simulates f s f s
here f s = reaches_same s (λ ys. refl)

-- a value that shows itself
pub gave_plain : {A : Type 0} {f g : Reader A} {a b : State} (v : A) → Simulates f a g b
    → ((ys : List ℕ) → g (cursor b ys) ≡ Ok (v, cursor b ys)) → b.fault ≡ None → RefinesWithValue plain f a b v
gave_plain v p e n = gave v (reaches_then p (reaches_same _ e)) refl n (λ later k. refl)

pub gave_give : {A : Type 0} {f g : Reader A} {a b : State} (v : A) → Simulates f a g b → g ≡ give v → b.fault ≡ None → RefinesWithValue plain f a b v
gave_give {b = b} v p e n = gave_plain v p (λ ys. ap (λ r. r (cursor b ys)) e) n

-- A definite length.
pub sized_over : (bd : Bound) (ident n : ℕ) (shortest : Bool) (c : Cursor) → is_over bd.end c.at n ≡ true
    → definite_length_of bd ident shortest n c ≡ Err (stop Overrun c.at)
unfolding definite_length_of
sized_over bd ident n shortest c e = rw e refl

pub sized_large : (bd : Bound) (ident n : ℕ) (shortest : Bool) (c : Cursor) → is_over bd.end c.at n ≡ false → c.limit < c.at + n
    → definite_length_of bd ident shortest n c ≡ Err (stop TooLarge c.at)
unfolding definite_length_of
sized_large bd ident n shortest c e l = let x = ltb_yes c.limit (c.at + n) l in rw (e, x) refl

pub sized_strict : (bd : Bound) (ident n : ℕ) (shortest : Bool) (c : Cursor) → is_over bd.end c.at n ≡ false → c.at + n ≤ c.limit
    → (bd.strict && not shortest) ≡ true → definite_length_of bd ident shortest n c ≡ Err (stop SignedAttrsNotDer c.at)
unfolding definite_length_of
sized_strict bd ident n shortest c e l s = let x = ltb_no c.limit (c.at + n) l in rw (e, x, s) refl

pub sized_ok : (bd : Bound) (ident n : ℕ) (shortest : Bool) (c : Cursor) → is_over bd.end c.at n ≡ false → c.at + n ≤ c.limit
    → (bd.strict && not shortest) ≡ false → definite_length_of bd ident shortest n c ≡ Ok (sized bd c.at ident n shortest, c)
unfolding definite_length_of
sized_ok bd ident n shortest c e l s = let x = ltb_no c.limit (c.at + n) l in rw (e, x, s) refl

-- An indefinite length.
pub open_primitive : (bd : Bound) (ident : ℕ) → (ident / 32) % 2 ≡ 0 → indefinite_length_of bd ident ≡ refuse IndefinitePrimitive
unfolding indefinite_length_of
open_primitive bd ident e = let x = eqb_yes ((ident / 32) % 2) 0 e in rw x refl

pub open_strict : (bd : Bound) (ident : ℕ) → (ident / 32) % 2 ≢ 0 → bd.strict ≡ true → indefinite_length_of bd ident ≡ refuse SignedAttrsNotDer
unfolding indefinite_length_of
open_strict bd ident n e = let x = eqb_no ((ident / 32) % 2) 0 n in rw (x, e) refl

pub open_ok : (bd : Bound) (ident : ℕ) → (ident / 32) % 2 ≢ 0 → bd.strict ≡ false → indefinite_length_of bd ident ≡ give (opened bd ident)
unfolding indefinite_length_of
open_ok bd ident n e = let x = eqb_no ((ident / 32) % 2) 0 n in rw (x, e) refl

-- The first length octet.
pub first_short : (bd : Bound) (ident first : ℕ) → first < 128 → after_first bd ident first ≡ definite_length_of bd ident true first
unfolding after_first
first_short bd ident first l = let x = ltb_yes first 128 l in rw x refl

pub first_open : (bd : Bound) (ident first : ℕ) → first ≡ 128 → after_first bd ident first ≡ indefinite_length_of bd ident
unfolding after_first
first_open bd ident first e = let x = ltb_no first 128 (omega arith) in let y = eqb_yes first 128 e in rw (x, y) refl

pub first_reserved : (bd : Bound) (ident first : ℕ) → first ≡ 255 → after_first bd ident first ≡ refuse LengthReserved
unfolding after_first
first_reserved bd ident first e = let x = ltb_no first 128 (omega arith) in let y = eqb_no first 128 (λ k. omega arith) in let z =
    eqb_yes first 255 e in rw (x, y, z) refl

pub first_too_long : (bd : Bound) (ident first : ℕ) → 136 < first → first ≢ 255 → after_first bd ident first ≡ refuse LengthTooLong
unfolding after_first
first_too_long bd ident first l n = let x = ltb_no first 128 (omega arith) in let y = eqb_no first 128 (λ k. omega arith) in let z =
    eqb_no first 255 n in let w = ltb_yes 136 first l in rw (x, y, z, w) refl

pub first_long : (bd : Bound) (ident first : ℕ) → 128 < first → first ≤ 136 → after_first bd ident first ≡ long_of bd ident (first - 128)
unfolding after_first
first_long bd ident first l m = let x = ltb_no first 128 (omega arith) in let y = eqb_no first 128 (λ k. omega arith) in let z =
    eqb_no first 255 (λ k. omega arith) in let w = ltb_no 136 first m in rw (x, y, z, w) refl

-- What follows an identifier octet.
pub tag_low_number : (end : Option ℕ) (ident : ℕ) → ident % 32 ≢ 31 → rest_of_tag end ident ≡ give tt
unfolding rest_of_tag
tag_low_number end ident n = let x = eqb_no (ident % 32) 31 n in rw x refl

pub tag_high_number : (end : Option ℕ) (ident : ℕ) → ident % 32 ≡ 31 → rest_of_tag end ident ≡ tag_of end 4 0
unfolding rest_of_tag
tag_high_number end ident e = let x = eqb_yes (ident % 32) 31 e in rw x refl

-- A header that is expected.
pub expected_missing : (bd : Bound) (c : Cursor) → ends_here bd c.at ≡ true → expected_of bd c ≡ Err (stop UnexpectedElement c.at)
unfolding expected_of
expected_missing bd c e = rw e refl

pub expected_there : (bd : Bound) (c : Cursor) → ends_here bd c.at ≡ false → expected_of bd c ≡ header_of bd c
unfolding expected_of
expected_there bd c e = rw e refl

-- The end of contents.
unfoldable pub end_next : Bound → Header → Reader (Unit {0})
end_next bd h = if bd.indefinite && is_zeros h then give tt else refuse UnexpectedElement

pub end_bind : (bd : Bound) → end_in bd ≡ (expected_of bd >>= end_next bd)
unfolding end_in end_next
end_bind bd = refl

pub end_there : (bd : Bound) (h : Header) → (bd.indefinite && is_zeros h) ≡ true → end_next bd h ≡ give tt
unfolding end_next
end_there bd h e = rw e refl

pub end_not_there : (bd : Bound) (h : Header) → (bd.indefinite && is_zeros h) ≡ false → end_next bd h ≡ refuse UnexpectedElement
unfolding end_next
end_not_there bd h e = rw e refl

pub close_here : (bd : Bound) (c : Cursor) → ends_here bd c.at ≡ true → close_of bd c ≡ Ok (tt, c)
unfolding close_of
close_here bd c e = rw e refl

pub close_there : (bd : Bound) (c : Cursor) → ends_here bd c.at ≡ false → close_of bd c ≡ end_in bd c
unfolding close_of
close_there bd c e = rw e refl

-- Octets that were consumed stay so.
pub grows_by : {A : Type 0} {f g : Reader A} {a b : State} → Simulates f a g b → length a.done ≤ length b.done
grows_by {a = a} {b = b} p = omega (arith, ap length p.took.done, length-append a.done p.took.read)

pub moved_then : {V W : Type 0} (view : State → V → W) (f : Reader W) (a b c : State) (r : Result V Fault) → length a.done < length b.done
    → Refines view f b c r → OnOk r (length a.done < length c.done)
moved_then view f a b c (Ok v) l g = let h = grows_by g.reaches in omega arith
moved_then view f a b c (Err e) l g = tt
