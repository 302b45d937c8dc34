-- What peeking gives.
use Rattle.std.proofs.Common.{◌≡◌, ℕ, true, false, length, Option, Some, None, Ok, refl}
use Rattle.cms_tlv.specs.declared.fault.Fault.{Fault}
use Rattle.cms_tlv.specs.declared.bound.Bound.{Bound}
use Rattle.cms_tlv.specs.State.{State}
use Rattle.cms_tlv.specs.Reading.{Reader, Cursor, ◌>>=◌, give, look_of, ends_here, unless_end, peek_of}
use Rattle.cms_tlv.specs.Refines.{cursor, RefinesWithValue, Failed, plain}
use Rattle.cms_tlv.proofs.Bind.{reaches_same, reaches_then, fails, fails_then, then_reaches, gave}
use Rattle.cms_tlv.proofs.Exits.{at_last}

abbrev goes_on : Bound → Reader (Option ℕ)
goes_on bd = look_of bd.end >>= λ b. give (unless_end bd.indefinite (Some b))

at_end : (bd : Bound) (c : Cursor) → ends_here bd c.at ≡ true → peek_of bd c ≡ Ok (None, c)
unfolding peek_of
at_end bd c e = rw e refl

before_end : (bd : Bound) (c : Cursor) → ends_here bd c.at ≡ false → peek_of bd c ≡ goes_on bd c
unfolding peek_of
before_end bd c e = rw e refl

pub peek_none : (bd : Bound) (s : State) → ends_here bd (length s.done) ≡ true → s.fault ≡ None → RefinesWithValue plain (peek_of bd) s s None
peek_none bd s e h = gave None (reaches_same s (λ ys. at_end bd (cursor s ys) e)) refl h (λ d k. refl)

pub peek_fault : (bd : Bound) (a b : State) (f : Fault) → ends_here bd (length a.done) ≡ false → Failed (look_of bd.end) a b f → Failed (peek_of bd) a b f
peek_fault bd a b f e q = fails_then (reaches_same {g = goes_on bd} a (λ ys. before_end bd (cursor a ys) e)) (fails _ q)

pub peek_saw : (bd : Bound) (a b : State) (t : ℕ) (o : Option ℕ) → ends_here bd (length a.done) ≡ false
    → unless_end bd.indefinite (Some t) ≡ o → RefinesWithValue plain (look_of bd.end) a b t → RefinesWithValue plain (peek_of bd) a b o
peek_saw bd a b t o e u q =
    gave o (reaches_then (reaches_same {g = goes_on bd} a (λ ys. before_end bd (cursor a ys) e)) (then_reaches _ q (at_last b))) u q.sound
    (λ d k. refl)
