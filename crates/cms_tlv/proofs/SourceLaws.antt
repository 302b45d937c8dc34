-- Calls on a source one after another: the laws that the crates above cite.
use Rattle.std.proofs.Common.{◌≡◌, ◌≤◌, ◌++◌, ℕ, [], length, length-append, append_assoc, Option, Some, None, true, Ok, Err, refl, sym, ◌∙◌, ap, arith}
use Rattle.std.proofs.lemmas.List.{append-nil}
use Rattle.std.proofs.KnownBytes.{Consumes-trans}
use Rattle.std.specs.Prelude.{IfSome}
use Rattle.cms_tlv.specs.declared.bound.Bound.{Bound}
use Rattle.cms_tlv.specs.declared.fault.Fault.{Fault}
use Rattle.cms_tlv.specs.declared.fault.Fault.TheVariants as faults
use Rattle.cms_tlv.specs.declared.fault.Reason.TheVariants as reasons
use Rattle.cms_tlv.specs.Clauses.{Found}
use Rattle.cms_tlv.specs.Refines.{Simulates, Failed}
use Rattle.cms_tlv.specs.Reading.{Reader, ◌>>=◌, octet_of, header_of, expected_of, enter_of}
use Rattle.cms_tlv.specs.Spelling.{Spelling}
use Rattle.cms_tlv.specs.State.{State, Succeeds, Progresses, FaultIsSticky, Looked, NoOctet, EndUnknown, FailsWith, as_list, position}
use Rattle.cms_tlv.proofs.OctetGives.{FailsAs, stops}
use Rattle.cms_tlv.proofs.Steps.{accounts_then, not_read}

-- a call after others
pub then_goes : {a b c : State} → Succeeds a b → Succeeds b c → Succeeds a c
then_goes p q = record { accounts = accounts_then p.accounts q.accounts; sound = q.sound }

-- no octet that was consumed is given back
pub grows : {a b : State} → Succeeds a b → length a.done ≤ length b.done
grows {a = a} {b = b} p = omega (arith, ap length p.accounts.took.done, length-append a.done p.accounts.took.read)

pub passes_then : {a b c : State} → Progresses a b → Succeeds b c → Progresses a c
passes_then p q = record { goes = then_goes p.goes q; some = (let h = grows q in let k = p.some in omega arith) }

pub passes_behind : {a b c : State} → Succeeds a b → Progresses b c → Progresses a c
passes_behind p q = record { goes = then_goes p q.goes; some = (let h = grows p in let k = q.some in omega arith) }

-- no fault stood before a call that succeeds
pub no_fault : {V : Type 0} (a b : State) (v : V) → FaultIsSticky a b (Ok v) → a.fault ≡ None
no_fault a b v = go a.fault
  where
    go : (o : Option Fault) → IfSome o (λ f. (Ok v ≡ Err f) × (b ≡ a)) → o ≡ None
    go None h = refl
    go (Some f) h = absurd (let e = h.0 in cc)

-- An octet was looked at, before what is read.

-- what is read is the same
pub looked_reaches : {V : Type 0} (f : Reader V) {old new : State} → old.fault ≡ None → Looked old new → Simulates f old f new
looked_reaches f {old = old} {new = new} n l = record {
  more = l.more;
  took =
      record {
        read = [];
        done = l.done ∙ sym (append-nil old.done);
        order = l.order;
        left = l.left;
        limit = l.limit;
        failures = l.failures;
        sound = λ f. n;
        unfailed = λ r. (not_read n, l.unfailed r);
      };
  refines = λ ys.
      let octets : as_list old.ahead ++ (l.more ++ ys) ≡ as_list new.ahead ++ ys = sym (append_assoc (as_list old.ahead) l.more ys)
      ∙ ap (λ t. t ++ ys) l.order in
      rw (l.done, l.limit, octets) refl;
}

pub looked_found : {V : Type 0} {R : Spelling V} {old mid new : State} {v : V} → Looked old mid → Found R mid new v → Found R old new v
looked_found {old = old} {mid = mid} {new = new} l f = record {
  octets = f.octets;
  taken = record {
    more = l.more ++ f.taken.more;
    order = f.taken.order ∙ ap (λ t. t ++ f.taken.more) (sym l.order) ∙ append_assoc (as_list old.ahead) l.more f.taken.more;
    left = Consumes-trans old.left mid.left new.left l.more f.taken.more l.left f.taken.left;
    limit = f.taken.limit ∙ l.limit;
    whole = f.taken.whole ∙ ap (λ t. t ++ f.octets) l.done;
  };
  kept = f.kept ∙ ap (λ t. t ++ f.octets) l.done;
  spells = f.spells;
}

-- It is not known whether the input has ended: then what needs an octet fails by the same fault.

no_octet : (e : Fault) (old new : State) → position old ≡ 0 → EndUnknown old new e → NoOctet None old new e
no_octet (faults.Refused reasons.TooLarge at) old new p h = (omega (arith, h.0, p), omega (arith, h.1), tt)
no_octet (faults.Refused reason at) old new p h = absurd h
no_octet faults.Read old new p h = h
no_octet (faults.Write written) old new p h = absurd h
no_octet faults.OutOfMemory old new p h = h

pub unknown_fails : {V : Type 0} {f : Reader V} {old new : State} (e : Fault) → FailsAs None f → position old ≡ 0 → old.fault ≡ None → Looked old new
    → new.ahead ≡ old.ahead → FailsWith old new e → EndUnknown old new e → Failed f old new e
unknown_fails {f = f} {old = old} {new = new} e k p n l a s h = stops None f k e old new n l s.sticky a (no_octet e old new p h)

-- an element outside of every definite one needs an octet
pub enter_needs : {V : Type 0} (id : ℕ) (bd : Bound) (g : Bound → Reader V) → bd.indefinite ≡ true → bd.end ≡ None → FailsAs None (enter_of id bd >>= g)
unfolding enter_of expected_of header_of ◌>>=◌
enter_needs id bd g i n c e h =
    let no : octet_of bd.end c ≡ Err e = ap (λ end. octet_of end c) n ∙ h in
    rw (i, no) refl
