-- One reading after another.
use Rattle.std.proofs.Common.{◌≡◌, ◌≢◌, inl, inr, ℕ, ◌≤◌, List, [], ◌++◌, length, Some, None, Result, Ok, Err, refl, ap, subst, ◌∙◌, arith, append_assoc}
use Rattle.cms_tlv.specs.declared.fault.Fault.{Fault}
use Rattle.cms_tlv.specs.declared.fault.Fault.TheVariants as faults
use Rattle.cms_tlv.specs.declared.fault.Reason.{Reason}
use Rattle.cms_tlv.specs.declared.fault.Reason.TheVariants.{Truncated}
use Rattle.cms_tlv.specs.State.{State, position}
use Rattle.cms_tlv.specs.Reading.{stop, Reader, ◌>>=◌, then_read, give}
use Rattle.cms_tlv.proofs.Steps.{Advance-then, Advance-fault, with_fault, not_read}
use Rattle.cms_tlv.specs.Refines.{Settled, cursor, Simulates, Kept, RefinesWithValue, Failed, Explains, Refines}

pub reaches_then : {A : Type 0} {f g h : Reader A} {a b c : State} → Simulates f a g b → Simulates g b h c → Simulates f a h c
reaches_then {f = f} {a = a} p q = record {
  more = p.more ++ q.more;
  took = Advance-then p.took q.took;
  refines = λ ys. ap (λ (t : List ℕ). f (cursor a t)) (append_assoc p.more q.more ys) ∙ p.refines (q.more ++ ys) ∙ q.refines ys;
}

-- two readers that read alike at a state
pub reaches_same : {A : Type 0} {f g : Reader A} (s : State) → ((ys : List ℕ) → f (cursor s ys) ≡ g (cursor s ys)) → Simulates f s g s
reaches_same s e = record { more = []; took = Advance-fault s s.fault (λ e. e) (λ e. e); refines = e }

-- inside a reading that goes on
pub reaches_inside : {A B : Type 0} {f g : Reader A} (h : A → Reader B) {a b : State} → Simulates f a g b → Simulates (f >>= h) a (g >>= h) b
unfolding ◌>>=◌
reaches_inside h p = record { more = p.more; took = p.took; refines = λ ys. ap (λ r. then_read r h) (p.refines ys) }

-- a value was read, and the rest is left
pub reaches_bind : {A B : Type 0} {f : Reader A} (h : A → Reader B) {a b : State} {x : A} → Simulates f a (give x) b → Simulates (f >>= h) a (h x) b
unfolding ◌>>=◌
reaches_bind h p = record { more = p.more; took = p.took; refines = λ ys. ap (λ r. then_read r h) (p.refines ys) }

explained_inside : {A B : Type 0} (g : Reader A) (h : A → Reader B) (old new : State) (e : Fault) → Explains g old new e → Explains (g >>= h) old new e
unfolding ◌>>=◌
explained_inside g h old new (faults.Refused reason at) q = (q.0, q.1, (λ ys m. ap (λ r. then_read r h) (q.2 ys m)), q.3)
explained_inside g h old new faults.Read q = q
explained_inside g h old new (faults.Write written) q = absurd q
explained_inside g h old new faults.OutOfMemory q = tt

explained_earlier : {A : Type 0} (g : Reader A) (old mid new : State) (e : Fault) → old.failures ≤ mid.failures → Explains g mid new e → Explains g old new e
explained_earlier g old mid new (faults.Refused reason at) l q = q
explained_earlier g old mid new faults.Read l (inl q) = inl (omega arith)
explained_earlier g old mid new faults.Read l (inr q) = inr q
explained_earlier g old mid new (faults.Write written) l q = absurd q
explained_earlier g old mid new faults.OutOfMemory l q = tt

pub fails_then : {A : Type 0} {f g : Reader A} {a b c : State} {e : Fault} → Simulates f a g b → Failed g b c e → Failed f a c e
fails_then {a = a} {b = b} {c = c} {e = e} p q = record {
  next = q.next;
  reaches = reaches_then p q.reaches;
  sticky = q.sticky;
  explained = explained_earlier q.next a b c e p.took.failures q.explained;
}

-- At an exit by `?`: `fails` for the call that failed, behind one `then_fails` for each call before it.
pub fails : {A B : Type 0} {f : Reader A} (h : A → Reader B) {a b : State} {e : Fault} → Failed f a b e → Failed (f >>= h) a b e
fails h {a = a} {b = b} {e = e} p = record {
  next = p.next >>= h;
  reaches = reaches_inside h p.reaches;
  sticky = p.sticky;
  explained = explained_inside p.next h a b e p.explained;
}

pub then_fails : {V A B : Type 0} {view : State → V → A} {f : Reader A} (h : A → Reader B) {a b c : State} {v : V} {e : Fault}
    → RefinesWithValue view f a b v → Failed (h (view b v)) b c e → Failed (f >>= h) a c e
then_fails h p q = fails_then (reaches_bind h p.reaches) q

-- At an Ok: `then_reaches` for each call.
pub then_reaches : {V A B : Type 0} {view : State → V → A} {f : Reader A} (h : A → Reader B) {g : Reader B} {a b c : State} {v : V}
    → RefinesWithValue view f a b v → Simulates (h (view b v)) b g c → Simulates (f >>= h) a g c
then_reaches h p q = reaches_then (reaches_bind h p.reaches) q

pub gives_then : {V W : Type 0} (view : State → V → W) {f g : Reader W} {a b : State} (c : State) (r : Result V Fault) → Simulates f a g b
    → Refines view g b c r → Refines view f a c r
gives_then view c (Ok v) p q = record { reaches = reaches_then p q.reaches; sound = q.sound; lasts = q.lasts }
gives_then view c (Err e) p q = fails_then p q

pub gives_bind :
    {V U A W : Type 0} {seen : State → U → A} (view : State → V → W) {f : Reader A} (h : A → Reader W) {a b : State} (c : State) {u : U}
    (r : Result V Fault) → RefinesWithValue seen f a b u → Refines view (h (seen b u)) b c r → Refines view (f >>= h) a c r
gives_bind view h c r p q = gives_then view c r (reaches_bind h p.reaches) q

-- a value that is left to give
pub gave : {V W : Type 0} {view : State → V → W} {f : Reader W} {a b : State} {w : W} (v : V) → Simulates f a (give w) b → w ≡ view b v
    → b.fault ≡ None → ((later : State) → Kept b later → view later v ≡ view b v) → RefinesWithValue view f a b v
gave {f = f} {a = a} {b = b} v p e k l = record { reaches = subst (λ w. Simulates f a (give w) b) e p; sound = k; lasts = l }

-- a refusal here
pub refuses : {A : Type 0} {f : Reader A} (s : State) (reason : Reason) → s.fault ≡ None → reason ≢ Truncated → Settled reason s
    → ((ys : List ℕ) → f (cursor s ys) ≡ Err (stop reason (length s.done)))
    → Failed f s (with_fault s (Some (faults.Refused reason (position s)))) (faults.Refused reason (position s))
refuses {f = f} s reason sound n settled e = record {
  next = f;
  reaches = record { more = []; took = Advance-fault s _ (λ _. sound) (λ _. not_read sound); refines = λ ys. refl };
  sticky = refl;
  explained = (refl, (λ t. absurd (n t)), (λ ys _. e ys), settled);
}

pub kept_by : {A : Type 0} {f g : Reader A} {a b : State} → Simulates f a g b → Kept a b
kept_by p = record { octets = p.took.read; done = p.took.done }

pub kept_then : {a b c : State} → Kept a b → Kept b c → Kept a c
kept_then {a = a} p q = record {
  octets = p.octets ++ q.octets;
  done = q.done ∙ ap (λ (t : List ℕ). t ++ q.octets) p.done ∙ append_assoc a.done p.octets q.octets;
}
