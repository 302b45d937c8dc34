-- One call on a source after another.
use Rattle.std.proofs.Common.{◌≡◌, ◌≢◌, inl, inr, ℕ, ◌≤◌, List, [], ◌++◌, Option, Some, None, refl, sym, ap, ◌∙◌, arith, append_assoc}
use Rattle.std.specs.Io.KnownBytes.{Consumes}
use Rattle.std.proofs.lemmas.List.{append-nil}
use Rattle.cms_tlv.specs.declared.fault.Fault.{Fault}
use Rattle.cms_tlv.specs.declared.fault.Fault.TheVariants as faults
use Rattle.cms_tlv.specs.Streams.{Rose}
use Rattle.cms_tlv.specs.State.{State, Advance, Accounts, FailsWith, FaultIsExact, as_list}

Consumes-then : (a b c : Option (List ℕ)) (x y : List ℕ) → Consumes a b x → Consumes b c y → Consumes a c (x ++ y)
Consumes-then None b c x y p q = tt
Consumes-then (Some a) None c x y p q = absurd p
Consumes-then (Some a) (Some b) None x y p q = absurd q
Consumes-then (Some a) (Some b) (Some c) x y p q = p ∙ ap (λ (t : List ℕ). x ++ t) q ∙ sym (append_assoc x y c)

pub Consumes-nothing : (a : Option (List ℕ)) → Consumes a a []
Consumes-nothing None = tt
Consumes-nothing (Some a) = refl

pub Advance-then : {a b c : State} {x y : List ℕ} → Advance a b x → Advance b c y → Advance a c (x ++ y)
Advance-then {a = a} {b = b} {c = c} {x = x} {y = y} p q = record {
  read = p.read ++ q.read;
  done = q.done ∙ ap (λ (t : List ℕ). t ++ q.read) p.done ∙ append_assoc a.done p.read q.read;
  order = sym (append_assoc (as_list a.ahead) x y) ∙ ap (λ (t : List ℕ). t ++ y) p.order ∙ append_assoc p.read (as_list b.ahead) y
      ∙ ap (λ (t : List ℕ). p.read ++ t) q.order ∙ sym (append_assoc p.read q.read (as_list c.ahead));
  left = Consumes-then a.left b.left c.left x y p.left q.left;
  limit = q.limit ∙ p.limit;
  failures = omega (arith, p.failures, q.failures);
  sound = λ n. p.sound (q.sound n);
  unfailed = λ n. let v = q.unfailed n in let u = p.unfailed v.0 in (u.0, v.1 ∙ u.1);
}

-- where no fault stands, the reader's does not
pub not_read : {f : Option Fault} → f ≡ None → f ≢ Some faults.Read
not_read n r = (let e = sym n ∙ r in cc)

-- a state with another fault
abbrev pub with_fault : State → Option Fault → State
with_fault s f = record { done = s.done; ahead = s.ahead; left = s.left; failures = s.failures; limit = s.limit; fault = f }

pub Advance-fault : (s : State) (f : Option Fault) → (f ≡ None → s.fault ≡ None) → (f ≢ Some faults.Read → s.fault ≢ Some faults.Read)
    → Advance s (with_fault s f) []
Advance-fault s f n r =
    record {
      read = [];
      done = sym (append-nil s.done);
      order = append-nil (as_list s.ahead);
      left = Consumes-nothing s.left;
      limit = refl;
      failures = omega arith;
      sound = n;
      unfailed = λ e. (r e, refl);
    }

pub accounts_then : {a b c : State} → Accounts a b → Accounts b c → Accounts a c
accounts_then p q = record { more = p.more ++ q.more; took = Advance-then p.took q.took }

-- nothing happened, except that a fault may have been stored
pub accounts_fault : (s : State) (f : Option Fault) → s.fault ≡ None → Accounts s (with_fault s f)
accounts_fault s f n = record { more = []; took = Advance-fault s f (λ _. n) (λ _. not_read n) }

Rose-since : (a b c : ℕ) → a ≤ b → Rose b c → Rose a c
Rose-since a b c l (inl r) = inl (omega arith)
Rose-since a b c l (inr r) = inr r

pub FaultIsExact-since : (a b c : State) (e : Fault) → a.failures ≤ b.failures → FaultIsExact b c e → FaultIsExact a c e
FaultIsExact-since a b c (faults.Refused reason at) l t = t
FaultIsExact-since a b c faults.Read l t = Rose-since a.failures b.failures c.failures l t
FaultIsExact-since a b c (faults.Write written) l t = t
FaultIsExact-since a b c faults.OutOfMemory l t = t

-- a fault at the present position
pub stops_here : (s : State) (f : Fault) → s.fault ≡ None → FaultIsExact s (with_fault s (Some f)) f → FailsWith s (with_fault s (Some f)) f
stops_here s f n t = record { accounts = accounts_fault s (Some f) n; sticky = refl; tells = t }
