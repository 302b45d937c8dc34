-- What was read passes a test, or it is refused.
use Rattle.std.proofs.Common.{◌≡◌, ◌≢◌, inl, inr, ℕ, List, Bool, true, false, cond, Some, refl, ap, subst, ◌∙◌}
use Rattle.cms_tlv.specs.declared.fault.Fault.{Fault}
use Rattle.cms_tlv.specs.declared.fault.Fault.TheVariants as faults
use Rattle.cms_tlv.specs.declared.fault.Reason.{Reason}
use Rattle.cms_tlv.specs.declared.fault.Reason.TheVariants.{Truncated}
use Rattle.cms_tlv.specs.State.{State, position}
use Rattle.cms_tlv.specs.declared.bound.Bound.{Bound}
use Rattle.cms_tlv.specs.Spelling.{Rules, Spelling, ◌where_value◌}
use Rattle.cms_tlv.specs.Reading.{stop, Reader, ◌>>=◌, give, refuse, give_if}
use Rattle.cms_tlv.specs.Refines.{Settled, Simulates, RefinesWithValue, Failed}
use Rattle.cms_tlv.proofs.Steps.{with_fault}
use Rattle.cms_tlv.proofs.Bind.{reaches_bind}
use Rattle.cms_tlv.proofs.HeaderGives.{refused_as}
use Rattle.cms_tlv.proofs.Inverse.{okay, bad, ok_value, ok_place, branch, bind_ok, bind_err, bound_again}
use Rattle.cms_tlv.proofs.ReadingLaws.{Moves, Follows, Reads}

module _ {V A : Type 0} {view : State → V → A} {f : Reader A} (test : A → Bool) (reason : Reason) {a b : State} {v : V}
    (g : RefinesWithValue view f a b v) where
  pub judged_passes : test (view b v) ≡ true → Simulates (f >>= give_if test reason) a (give (view b v)) b
  unfolding give_if
  judged_passes t =
      let e : (cond (test (view b v)) (give (view b v)) (refuse reason)) ≡ give (view b v) = rw t refl in
      subst (λ r. Simulates (f >>= give_if test reason) a r b) e (reaches_bind (give_if test reason) g.reaches)

  pub judged_refuses : {c : State} {e : Fault} → reason ≢ Truncated → Settled reason b → test (view b v) ≡ false
      → c ≡ with_fault b (Some e) → e ≡ faults.Refused reason (position b) → Failed (f >>= give_if test reason) a c e
  unfolding give_if
  judged_refuses n settled t p q = refused_as reason g.sound n settled (reaches_bind (give_if test reason) g.reaches) (rw t refl) p q

-- what was read is refused, whatever it is
pub refused_behind :
    {V A : Type 0} (B : Type 0) {view : State → V → A} {f : Reader A} {a b c : State} {v : V} {e : Fault} (reason : Reason)
    → reason ≢ Truncated → Settled reason b → RefinesWithValue view f a b v → c ≡ with_fault b (Some e)
    → e ≡ faults.Refused reason (position b) → Failed {V = B} (f >>= λ x. refuse reason) a c e
refused_behind B reason n settled g p q = refused_as reason g.sound n settled (reaches_bind (λ x. refuse reason) g.reaches) refl p q

-- a field of which Q is true, decided by a test that may depend on its end
pub where_reads_in :
    {V : Type 0} {m : Rules} {R : Spelling V} {f : Bound → Reader V} {Q : V → Type 0} (test : Bound → V → Bool) (reason : Reason)
    → reason ≢ Truncated → ((bd : Bound) (b : List ℕ) (v : V) → Follows m bd → R b v → test bd v ≡ true → Q v)
    → ((bd : Bound) (b : List ℕ) (v : V) → Follows m bd → R b v → Q v → test bd v ≡ true) → Reads m R f
    → Reads m (R where_value Q) (λ bd. f bd >>= give_if (test bd) reason)
unfolding give_if
where_reads_in {R = R} {f = f} {Q = Q} test reason known there back r = record {
  sound = λ bd c d v i e.
      let s = bind_ok (f bd) (give_if (test bd) reason) c e in
      elim (branch (test bd s.0) (give s.0) (refuse reason) s.1 (okay (v, d)) s.3) [
        | inl x ↦
            let p = r.sound bd c s.1 s.0 i s.2 in
            (p.0, subst (λ z. Moves c p.0 z) (ok_place x.1) p.1, subst (λ z. R p.0 z × Q z) (ok_value x.1) (p.2, there bd p.0 s.0 i p.2 x.0))
        | inr x ↦ absurd (let z = x.1 in cc)
      ];
  complete = λ bd c d b v i p s room. bound_again (f bd) (give_if (test bd) reason) c v d (r.complete bd c d b v i p s.0 room)
      ∙ ap (λ t. (cond t (give v) (refuse reason)) d) (back bd b v i s.0 s.1);
  cut = λ bd c at i e. elim (bind_err (f bd) (give_if (test bd) reason) c e) [
    | inl x ↦ r.cut bd c at i x
    | inr s ↦ elim (branch (test bd s.0) (give s.0) (refuse reason) s.1 (bad (stop Truncated at)) s.3) [
      | inl y ↦ absurd (let z = y.1 in cc)
      | inr y ↦ absurd (known (let z = y.1 in cc))
    ]
  ];
}

-- a field of which Q is true
pub where_reads : {V : Type 0} {m : Rules} {R : Spelling V} {f : Bound → Reader V} {Q : V → Type 0} (test : V → Bool) (reason : Reason)
    → reason ≢ Truncated → ((b : List ℕ) (v : V) → R b v → test v ≡ true → Q v) → ((b : List ℕ) (v : V) → R b v → Q v → test v ≡ true)
    → Reads m R f → Reads m (R where_value Q) (λ bd. f bd >>= give_if test reason)
where_reads test reason known there back r = where_reads_in (λ bd. test) reason known (λ bd b v i. there b v) (λ bd b v i. back b v) r

-- what is read, seen as another value
pub given_reads : {V W : Type 0} {m : Rules} {R : Spelling V} {S : Spelling W} {f : Bound → Reader V} (k : V → W)
    → ((b : List ℕ) (v : V) → R b v → S b (k v)) → ((b : List ℕ) (w : W) → S b w → (v : V) × R b v × (k v ≡ w)) → Reads m R f
    → Reads m S (λ bd. f bd >>= λ v. give (k v))
given_reads {S = S} {f = f} k there back r = record {
  sound = λ bd c d w i e.
      let s = bind_ok (f bd) (λ v. give (k v)) c e in
      let p = r.sound bd c s.1 s.0 i s.2 in
      (p.0, subst (λ z. Moves c p.0 z) (ok_place s.3) p.1, subst (λ z. S p.0 z) (ok_value s.3) (there p.0 s.0 p.2));
  complete = λ bd c d b w i p s room.
      let v = back b w s in
      bound_again (f bd) (λ v. give (k v)) c v.0 d (r.complete bd c d b v.0 i p v.1 room) ∙ ap (λ z. okay (z, d)) v.2;
  cut = λ bd c at i e. elim (bind_err (f bd) (λ v. give (k v)) c e) [
    | inl x ↦ r.cut bd c at i x
    | inr x ↦ absurd (let z = x.3 in cc)
  ];
}
