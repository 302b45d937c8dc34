-- The exits of readers.
use Rattle.std.proofs.Common.{◌≡◌, ℕ, Bool, true, false, cond, Option, Some, None, Result, Ok, Err, refl, sym, ap, subst, ◌∙◌}
use Rattle.std.specs.Prelude.{option_map}
use Rattle.cms_tlv.specs.declared.fault.Fault.{Fault}
use Rattle.cms_tlv.specs.declared.fault.Fault.TheVariants as faults
use Rattle.cms_tlv.specs.declared.bound.Bound.{Bound}
use Rattle.cms_tlv.specs.State.{State, FailsWith, Answers}
use Rattle.cms_tlv.specs.Reading.{Reader, ◌>>=◌, give, may_be, peek_of, optional_of}
use Rattle.cms_tlv.specs.Refines.{Simulates, Kept, RefinesWithValue, Failed, Refines, plain}
use Rattle.cms_tlv.proofs.Bind.{reaches_same, fails, then_fails, then_reaches, gave, kept_then}

-- nothing is left to read
pub at_last : {A : Type 0} {f : Reader A} (s : State) → Simulates f s f s
at_last s = reaches_same s (λ ys. refl)

-- what a value showed, it shows later
pub later : {V W : Type 0} {view : State → V → W} {f : Reader W} {a b c : State} {v : V} → RefinesWithValue view f a b v → Kept b c → view b v ≡ view c v
later {c = c} g k = sym (g.lasts c k)

pub still : {V W : Type 0} {view : State → V → W} {f : Reader W} {a b c d : State} {v : V} → RefinesWithValue view f a b v → Kept b c
    → Kept c d → view d v ≡ view c v
still {c = c} {d = d} g k l = g.lasts d (kept_then k l) ∙ sym (g.lasts c k)

-- what a call gives says what it does
pub stops_of : {A : Type 0} {f : Reader A} {old new : State} (e : Fault) → Failed f old new e → FailsWith old new e
stops_of (faults.Refused reason at) p = record { accounts = record { more = p.reaches.more; took = p.reaches.took }; sticky = p.sticky; tells = p.explained.0 }
stops_of faults.Read p = record { accounts = record { more = p.reaches.more; took = p.reaches.took }; sticky = p.sticky; tells = p.explained }
stops_of (faults.Write written) p = absurd p.explained
stops_of faults.OutOfMemory p = record { accounts = record { more = p.reaches.more; took = p.reaches.took }; sticky = p.sticky; tells = tt }

pub answers_of : {V W : Type 0} (view : State → V → W) (f : Reader W) (old new : State) (r : Result V Fault) → Refines view f old new r → Answers old new r
answers_of view f old new (Ok v) g = record { accounts = record { more = g.reaches.more; took = g.reaches.took }; sound = g.sound }
answers_of view f old new (Err e) g = stops_of e g

-- An optional field.
pub optional_fails : {W : Type 0} (p : ℕ → Bool) (f : Bound → Reader W) (bd : Bound) {a b c : State} {x : Option ℕ} {e : Fault}
    → RefinesWithValue plain (peek_of bd) a b x → may_be p x ≡ true → Failed (f bd) b c e → Failed (optional_of p f bd) a c e
unfolding optional_of
optional_fails p f bd g t q = then_fails _ g (rw t (fails _ q))

pub optional_some :
    {V W : Type 0} (view : State → V → W) (p : ℕ → Bool) (f : Bound → Reader W) (bd : Bound) {a b c : State} {x : Option ℕ} {v : V}
    → RefinesWithValue plain (peek_of bd) a b x → may_be p x ≡ true → RefinesWithValue view (f bd) b c v
    → RefinesWithValue (λ s o. option_map (view s) o) (optional_of p f bd) a c (Some v)
unfolding optional_of
optional_some {W = W} view p f bd {b = b} {c = c} {x = x} {v = v} g t q =
    let h : Reader (Option W) = f bd >>= λ v. give (Some v) in
    let e : (cond (may_be p x) h (give None)) ≡ h = rw t refl in
    gave (Some v) (then_reaches _ g (subst (λ r. Simulates r b (give (Some (view c v))) c) (sym e) (then_reaches _ q (at_last c)))) refl
    q.sound (λ d k. ap Some (q.lasts d k))

pub optional_none : {V W : Type 0} (view : State → V → W) (p : ℕ → Bool) (f : Bound → Reader W) (bd : Bound) {a b : State} {x : Option ℕ}
    → RefinesWithValue plain (peek_of bd) a b x → may_be p x ≡ false → RefinesWithValue (λ s o. option_map (view s) o) (optional_of p f bd) a b None
unfolding optional_of
optional_none {W = W} view p f bd {b = b} {x = x} g t =
    let h : Reader (Option W) = f bd >>= λ v. give (Some v) in
    let e : (cond (may_be p x) h (give None)) ≡ give None = rw t refl in
    gave None (then_reaches _ g (subst (λ r. Simulates r b (give None) b) (sym e) (at_last b))) refl g.sound (λ d k. refl)
