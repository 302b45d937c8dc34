-- The public clauses of a reading call, from what it gives and the law of its reader.
use Rattle.std.proofs.Common.{◌≡◌, ◌≢◌, ℕ, ◌+◌, [], ◌++◌, length, None, Result, Ok, Err, refl, sym, ap, subst, ◌∙◌, append_assoc}
use Rattle.std.specs.Prelude.{IfOk, IfErr}
use Rattle.std.proofs.lemmas.List.{append-nil}
use Rattle.cms_tlv.specs.declared.fault.Fault.{Fault}
use Rattle.cms_tlv.specs.declared.fault.Fault.TheVariants as faults
use Rattle.cms_tlv.specs.declared.fault.Reason.{Reason}
use Rattle.cms_tlv.specs.declared.fault.Reason.TheVariants.{Truncated}
use Rattle.cms_tlv.specs.declared.bound.Bound.{Bound}
use Rattle.cms_tlv.specs.State.{State, as_list}
use Rattle.cms_tlv.specs.Spelling.{Rules, Spelling}
use Rattle.cms_tlv.specs.Reading.{place, stop, Reader}
use Rattle.cms_tlv.specs.Refines.{cursor, Simulates, RefinesWithValue, Failed, Refines}
use Rattle.cms_tlv.specs.Clauses.{Room, IsCut, OctetsTaken, Found, Refuses, Ends, Faults}
use Rattle.cms_tlv.proofs.Inverse.{both}
use Rattle.cms_tlv.proofs.ReadingLaws.{Follows, Reads}

taken : {A : Type 0} {f g : Reader A} {old new : State} (r : Simulates f old g new) → OctetsTaken old new (as_list old.ahead ++ r.more)
taken {old = old} {new = new} r = record {
  more = r.more;
  order = refl;
  left = r.took.left;
  limit = r.took.limit;
  whole = ap (λ t. t ++ as_list new.ahead) r.took.done ∙ append_assoc old.done r.took.read (as_list new.ahead)
      ∙ ap (λ t. old.done ++ t) (sym r.took.order);
}

module _ {A : Type 0} {m : Rules} {R : Spelling A} {f : Bound → Reader A} (h : Reads m R f) (bd : Bound) (i : Follows m bd) where
  -- At an exit with a value.
  pub found : {V : Type 0} (view : State → V → A) (old new : State) (v : V) → RefinesWithValue view (f bd) old new v → new.ahead ≡ None
      → Found R old new (view new v)
  found view old new v g none =
      let r = g.reaches in
      let e = r.refines [] in
      let s = h.sound bd (cursor old (r.more ++ [])) (cursor new []) (view new v) i e in
      let order : as_list old.ahead ++ r.more ≡ r.took.read = r.took.order ∙ ap (λ t. r.took.read ++ as_list t) none ∙ append-nil r.took.read in
      let rest : as_list old.ahead ++ (r.more ++ []) ≡ s.0 = s.1.rest ∙ ap (λ t. s.0 ++ (as_list t ++ [])) none ∙ append-nil s.0 in
      let same : r.took.read ≡ s.0 = sym order ∙ ap (λ t. as_list old.ahead ++ t) (sym (append-nil r.more)) ∙ rest in
      record {
        octets = r.took.read;
        taken =
            record {
              more = r.more;
              order = sym order;
              left = r.took.left;
              limit = r.took.limit;
              whole = ap (λ t. new.done ++ as_list t) none ∙ append-nil new.done ∙ r.took.done;
            };
        kept = r.took.done;
        spells = subst (λ t. R t (view new v)) (sym same) s.2;
      }

  hopeless : (old new : State) (reason : Reason) (at : ℕ) → reason ≢ Truncated → Failed (f bd) old new (faults.Refused reason at) → Refuses R bd old new
  hopeless old new reason at n p = record {
    octets = as_list old.ahead ++ p.reaches.more;
    taken = taken p.reaches;
    hopeless = λ x b y v room parts spelled.
        let no : f bd (cursor old (p.reaches.more ++ x)) ≡ Err (stop reason (length new.done)) = p.reaches.refines x ∙ p.explained.2 x (λ t. absurd (n t)) in
        let rest : as_list old.ahead ++ (p.reaches.more ++ x) ≡ b ++ y = sym (append_assoc (as_list old.ahead) p.reaches.more x) ∙ parts in
        let yes =
        h.complete bd (cursor old (p.reaches.more ++ x)) (place (length old.done + length b) old.limit y) b v i
        (record { rest = rest; at = refl; limit = refl }) spelled room in
        both yes no;
  }

  cut_short : (old new : State) (at : ℕ) → Failed (f bd) old new (faults.Refused Truncated at) → Ends bd old new
  cut_short old new at p =
      let more = p.reaches.more in
      let no : f bd (cursor old (more ++ [])) ≡ Err (stop Truncated (length new.done)) = p.reaches.refines [] ∙ p.explained.2 [] (λ t. refl) in
      let c = h.cut bd (cursor old (more ++ [])) (length new.done) i no in
      let same : as_list old.ahead ++ (more ++ []) ≡ as_list old.ahead ++ more = ap (λ t. as_list old.ahead ++ t) (append-nil more) in
      record {
        octets = as_list old.ahead ++ more;
        taken = taken p.reaches;
        at_end = (p.explained.1 refl).0;
        room = subst (λ t. Room bd.end old.limit (length old.done) (length t + 1)) same c.1;
        cut = subst IsCut same (c.0.rest, c.0.proper, c.0.frame);
      }

  -- At an exit with a fault.
  pub faults_of : (e : Fault) (old new : State) → Failed (f bd) old new e → Faults R bd old new e
  faults_of (faults.Refused reason at) old new p = (
    p.explained.0,
    (λ n. hopeless old new reason at n p),
    λ e.
        cut_short old new at (subst (λ t. Failed (f bd) old new (faults.Refused t at)) e p),
  )
  faults_of faults.Read old new p = p.explained
  faults_of (faults.Write written) old new p = p.explained
  faults_of faults.OutOfMemory old new p = tt

  -- The two clauses of a public reading function.
  pub ok_clause : {V : Type 0} (view : State → V → A) (old new : State) (r : Result V Fault) → Refines view (f bd) old new r
      → IfOk r (λ v. new.ahead ≡ None) → IfOk r (λ v. Found R old new (view new v))
  ok_clause view old new (Ok v) g n = found view old new v g n
  ok_clause view old new (Err e) g n = tt

  pub err_clause : {V : Type 0} (view : State → V → A) (old new : State) (r : Result V Fault) → Refines view (f bd) old new r → IfErr r (Faults R bd old new)
  err_clause view old new (Ok v) g = tt
  err_clause view old new (Err e) g = faults_of e old new g
