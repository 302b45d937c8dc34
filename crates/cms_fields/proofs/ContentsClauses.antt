-- The public clauses of a call that reads contents with their end.
use Rattle.std.proofs.Common.{◌≡◌, ◌≢◌, ℕ, ◌+◌, [], ◌++◌, length, None, Result, Ok, Err, IfErr, refl, sym, ap, subst, ◌∙◌, append_assoc}
use Rattle.std.proofs.lemmas.List.{append-nil}
use Rattle.cms_tlv.specs.declared.fault.Fault.{Fault}
use Rattle.cms_tlv.specs.declared.fault.Fault.TheVariants as faults
use Rattle.cms_tlv.specs.declared.fault.Reason.{Reason}
use Rattle.cms_tlv.specs.declared.fault.Reason.TheVariants.{Truncated}
use Rattle.cms_tlv.specs.declared.bound.Bound.{Bound}
use Rattle.cms_tlv.specs.State.{State, as_list}
use Rattle.cms_tlv.specs.Spelling.{Rules, Spelling}
use Rattle.cms_tlv.specs.Reading.{place, stop, Reader}
use Rattle.cms_tlv.specs.Refines.{cursor, Simulates, RefinesWithValue, Failed, Refines}
use Rattle.cms_tlv.specs.Clauses.{Room, OctetsTaken, Found, Refuses}
use Rattle.cms_tlv.proofs.Inverse.{both}
use Rattle.cms_tlv.specs.Law.{CutContents, Ended, Follows, ReadsTo}
use Rattle.cms_fields.specs.Contents.{with_end, EndsIn, FaultsIn}

taken : {A : Type 0} {f g : Reader A} {old new : State} (r : Simulates f old g new) → OctetsTaken old new (as_list old.ahead ++ r.more)
taken {old = old} {new = new} r = record {
  more = r.more;
  order = refl;
  left = r.took.left;
  limit = r.took.limit;
  whole = ap (λ t. t ++ as_list new.ahead) r.took.done ∙ append_assoc old.done r.took.read (as_list new.ahead)
      ∙ ap (λ t. old.done ++ t) (sym r.took.order);
}

module _ {A : Type 0} {m : Rules} {S : Spelling A} {g : Bound → Reader A} (h : ReadsTo m S (λ v. v) g) (bd : Bound) (i : Follows m bd) where
  pub found_in : {V : Type 0} (view : State → V → A) (old new : State) (v : V) → RefinesWithValue view (g bd) old new v → new.ahead ≡ None
      → Found (with_end S bd (length old.done)) old new (view new v)
  found_in view old new v given none =
      let r = given.reaches in
      let s = h.sound bd (cursor old (r.more ++ [])) (cursor new []) (view new v) i (r.refines []) in
      let order : as_list old.ahead ++ r.more ≡ r.took.read = r.took.order ∙ ap (λ t. r.took.read ++ as_list t) none ∙ append-nil r.took.read in
      let rest : as_list old.ahead ++ (r.more ++ []) ≡ s.2 = s.4.rest ∙ ap (λ t. s.2 ++ (as_list t ++ [])) none ∙ append-nil s.2 in
      let same : r.took.read ≡ s.2 = sym order ∙ ap (λ t. as_list old.ahead ++ t) (sym (append-nil r.more)) ∙ rest in
      record {
        octets = r.took.read;
        taken =
            record {
              more = r.more;
              order = sym order;
              left = r.took.left;
              limit = r.took.limit;
              whole = ap (λ t. new.done ++ as_list t) none ∙ append-nil new.done ∙ r.took.done;
            };
        kept = r.took.done;
        spells = (s.1, subst (Ended bd (length old.done) s.1) (sym same) s.3, subst (S s.1) s.6 s.5);
      }

  hopeless : (old new : State) (reason : Reason) (at : ℕ) → reason ≢ Truncated → Failed (g bd) old new (faults.Refused reason at)
      → Refuses (with_end S bd (length old.done)) bd old new
  hopeless old new reason at n p = record {
    octets = as_list old.ahead ++ p.reaches.more;
    taken = taken p.reaches;
    hopeless = λ x b y v room parts spelled.
        let no : g bd (cursor old (p.reaches.more ++ x)) ≡ Err (stop reason (length new.done)) = p.reaches.refines x ∙ p.explained.2 x (λ t. absurd (n t)) in
        let rest : as_list old.ahead ++ (p.reaches.more ++ x) ≡ b ++ y = sym (append_assoc (as_list old.ahead) p.reaches.more x) ∙ parts in
        let yes =
        h.complete bd (cursor old (p.reaches.more ++ x)) (place (length old.done + length b) old.limit y) spelled.0 b v i
        (record { rest = rest; at = refl; limit = refl }) spelled.2 spelled.1 room in
        both yes no;
  }

  cut_short : (old new : State) (at : ℕ) → Failed (g bd) old new (faults.Refused Truncated at) → EndsIn bd old new
  cut_short old new at p =
      let more = p.reaches.more in
      let no : g bd (cursor old (more ++ [])) ≡ Err (stop Truncated (length new.done)) = p.reaches.refines [] ∙ p.explained.2 [] (λ t. refl) in
      let c = h.cut bd (cursor old (more ++ [])) (length new.done) i no in
      let same : as_list old.ahead ++ (more ++ []) ≡ as_list old.ahead ++ more = ap (λ t. as_list old.ahead ++ t) (append-nil more) in
      record {
        octets = as_list old.ahead ++ more;
        taken = taken p.reaches;
        at_end = (p.explained.1 refl).0;
        room = subst (λ t. Room bd.end old.limit (length old.done) (length t + 1)) same c.1;
        cut = λ k. subst CutContents same (c.0 k);
      }

  pub faults_in : (e : Fault) (old new : State) → Failed (g bd) old new e → FaultsIn S bd old new e
  faults_in (faults.Refused reason at) old new p = (
    p.explained.0,
    (λ n. hopeless old new reason at n p),
    λ e.
        cut_short old new at (subst (λ t. Failed (g bd) old new (faults.Refused t at)) e p),
  )
  faults_in faults.Read old new p = p.explained
  faults_in (faults.Write written) old new p = p.explained
  faults_in faults.OutOfMemory old new p = tt

  pub err_in : {V : Type 0} (view : State → V → A) (old new : State) (r : Result V Fault) → Refines view (g bd) old new r → IfErr r (FaultsIn S bd old new)
  err_in view old new (Ok v) given = tt
  err_in view old new (Err e) given = faults_in e old new given
