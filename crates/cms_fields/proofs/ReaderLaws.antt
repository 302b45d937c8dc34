-- The laws of the readers of records, put together from those of their parts.
use Rattle.std.proofs.Common.{◌≡◌, ◌↔◌, ◌≢◌, ℕ, Bool, true, false, not, cond, ◌&&◌, eqb, List, [], ◌∷◌, ◌++◌, length, Option, None, Some, is_some, Result, Ok, Err, refl, sym, ap, subst, ◌∙◌, inl, inr, arith}
use Rattle.std.specs.Prelude.{◌||◌, IfOk, OnOk, IfSome, option_map, bytes_eq}
use Rattle.cms_tlv.specs.declared.fault.Fault.{Fault}
use Rattle.cms_tlv.specs.declared.fault.Reason.{Reason}
use Rattle.cms_tlv.specs.State.{State, FaultIsSticky, Succeeds}
use Rattle.cms_tlv.specs.Refines.{cursor, RefinesWithValue, Refines, plain}
use Rattle.cms_tlv.specs.Clauses.{Found, IsWithin}
use Rattle.cms_tlv.specs.RefusalReasons.{Explained}
use Rattle.cms_tlv.proofs.Why.{ends_within}
use Rattle.cms_tlv.proofs.Public.{found}
use Rattle.cms_tlv.proofs.SourceLaws.{no_fault}
use Rattle.cms_tlv.proofs.Exits.{at_last}
use Rattle.cms_tlv.proofs.Ends.{peek_same, frames_octet}
use Rattle.cms_fields.specs.FirstOctets.{are_apart}
use Rattle.cms_fields.proofs.FirstOctetLaws.{apart_at}
use Rattle.std.proofs.lemmas.Slice.Eq.{bytes_eq-Decides}
use Rattle.cms_tlv.specs.Opaque.{IsOpaque}
use Rattle.cms_tlv.proofs.OpaqueReads.{opaque_reads, opaque_field}
use Rattle.cms_fields.specs.Received.{as_received}
use Rattle.cms_fields.specs.Writing.{IsWritten}
use Rattle.std.proofs.lemmas.List.{append-nil}
use Rattle.cms_tlv.specs.declared.fault.Reason.TheVariants.{Truncated}
use Rattle.cms_tlv.specs.declared.bound.Bound.{Bound}
use Rattle.cms_tlv.specs.Spelling.{Rules, Spelling, element, ◌⨟◌, optional, ◌where_value◌}
use Rattle.cms_tlv.specs.Reading.{Cursor, Reader, stop, ◌>>=◌, give, refuse, give_if, peek_of, look_of, ends_here, unless_end, opaque_of}
use Rattle.cms_tlv.proofs.SpellingLaws.{IsField, IsFieldOctet, IsContents, Avoids, constructed_field}
use Rattle.cms_tlv.proofs.Inverse.{okay, bad, branch, chosen, ok_value, ok_place, bind_ok, bind_err, bound_again, eqb_yes}
use Rattle.cms_tlv.proofs.ReadingLaws.{Moves, Follows, Reads, ReadsTo}
use Rattle.cms_tlv.proofs.Sequences.{then_reads}
use Rattle.cms_tlv.proofs.Elements.{element_reads}
use Rattle.cms_tlv.proofs.Fields.{maybe_reads}
use Rattle.cms_fields.specs.Readers.{Begins, holding, then_of, optional_then_of, constrained_of}

-- what is made of what was read
pub mapped_reads : {W A B : Type 0} {m : Rules} {S : Spelling W} {k : W → A} {g : Bound → Reader A} (h : A → B) → ReadsTo m S k g
    → ReadsTo m S (λ w. h (k w)) (λ bd. g bd >>= λ a. give (h a))
mapped_reads {S = S} {k = k} {g = g} h r = record {
  sound = λ bd c d a i e.
      let s = bind_ok (g bd) _ c e in
      let p = r.sound bd c s.1 s.0 i s.2 in
      (p.0, p.1, p.2, p.3, subst (λ z. Moves c p.2 z) (ok_place s.3) p.4, p.5, ap h p.6 ∙ ok_value s.3);
  complete = λ bd c d b o w i u s e room. bound_again (g bd) _ c (k w) d (r.complete bd c d b o w i u s e room);
  cut = λ bd c at i e. elim (bind_err (g bd) _ c e) [
    | inl x ↦ r.cut bd c at i x
    | inr x ↦ absurd (let z = x.3 in cc)
  ];
}

-- an element's first octet
pub begins_as : {V : Type 0} {R : Spelling V} (id : ℕ) → IsField (λ t. t ≡ id) R → IsField (λ t. eqb t id ≡ true) R
begins_as id f = record { frame = f.frame; starts = λ b v r. (let h = f.starts b v r in (h.0, h.1, h.2, h.3, eqb_yes h.0 id h.4)); same = f.same }

pub tagged_field : {V : Type 0} {R : Spelling V} (m : Rules) (id : ℕ) → IsFieldOctet id → IsContents R → IsField (λ t. eqb t id ≡ true) (element m id R)
tagged_field m id o h = begins_as id (constructed_field m id o h)

pub tagged_reads : {V : Type 0} {m : Rules} {R : Spelling V} {g : Bound → Reader V} (id : ℕ) → IsFieldOctet id → ReadsTo m R (λ v. v) g
    → Reads m (element m id R) (holding id g)
unfolding holding
tagged_reads id o r = element_reads id o (λ v. v) (λ w. refl) (λ a. refl) r

-- the one, then the others
pub both_read : {V W : Type 0} {m : Rules} {P : ℕ → Type 0} {R : Spelling V} {S : Spelling W} {f : Bound → Reader V} {g : Bound → Reader W}
    → IsField P R → Reads m R f → ReadsTo m S (λ w. w) g → ReadsTo m (R ⨟ S) (λ v. v) (then_of f g)
unfolding then_of
both_read {V = V} {W = W} {g = g} h r t = then_reads {k = λ (x : V × W). x} h r (λ v. mapped_reads (λ w. (v, w)) t)

pub field_begins : {V : Type 0} {P : ℕ → Type 0} {R : Spelling V} → IsField P R → (b x : List ℕ) (v : V) (t : ℕ) (r : List ℕ) → R b v → b ++ x ≡ t ∷ r → P t
field_begins {P = P} h b x v t r s e = let k = h.starts b v s in let j : k.0 ∷ (k.1 ++ x) ≡ t ∷ r = sym (ap (λ z. z ++ x) k.2) ∙ e in
    let d : k.0 ≡ t = cc in subst P d k.4

pub then_begins : {V W : Type 0} {P : ℕ → Type 0} {R : Spelling V} (S : Spelling W) → IsField P R → Begins P (R ⨟ S)
then_begins S h = record { begins = λ b v t r s e. field_begins h s.0 s.1 v.0 t r s.3 (sym s.2 ∙ e) }

pub optional_begins : {V : Type 0} {P : ℕ → Type 0} {R : Spelling V} → IsField P R → Begins P (optional R)
optional_begins {V = V} {P = P} {R = R} h = record { begins = go }
  where
    go : (b : List ℕ) (o : Option V) (t : ℕ) (r : List ℕ) → optional R b o → b ≡ t ∷ r → P t
    go b None t r s e = absurd (let z : [] ≡ t ∷ r = sym s ∙ e in cc)
    go b (Some v) t r s e = field_begins h b [] v t r s (append-nil b ∙ e)

pub yes_left : (a b : Bool) → a ≡ true → (a || b) ≡ true
yes_left true b e = refl
yes_left false b e = absurd cc

pub yes_right : (a b : Bool) → b ≡ true → (a || b) ≡ true
yes_right true b e = refl
yes_right false b e = e

module _ {V W : Type 0} {p q : ℕ → Bool} {R : Spelling V} {S : Spelling W} (h : IsField (λ t. p t ≡ true) R) (k : IsContents S)
    (j : Begins (λ t. q t ≡ true) S) (apart : are_apart 0x100 p q ≡ true) where
  pub avoids : Avoids (λ t. p t ≡ true) S
  avoids = record { avoids = λ b w t r s e y. apart_at 0x100 p q apart t (frames_octet t r (k.frames b w s) e) y (j.begins b w t r s e) }

  -- one that may be there, then the others
  pub maybe_both_read : {m : Rules} {f : Bound → Reader V} {g : Bound → Reader W} → Reads m R f → ReadsTo m S (λ w. w) g
      → ReadsTo m (optional R ⨟ S) (λ v. v) (optional_then_of p f g)
  unfolding optional_then_of
  maybe_both_read r t = maybe_reads h (record { yes = λ t e. e; so = λ t e. e }) r k avoids (λ o. mapped_reads (λ w. (o, w)) t)

  pub maybe_begins : Begins (λ t. (p t || q t) ≡ true) (optional R ⨟ S)
  maybe_begins = record { begins = λ b v t r s e. go v.0 v.1 s.0 s.1 t r s.3 s.4 (sym s.2 ∙ e) }
    where
      go : (o : Option V) (w : W) (b c : List ℕ) (t : ℕ) (r : List ℕ) → optional R b o → S c w → b ++ c ≡ t ∷ r → (p t || q t) ≡ true
      go None w b c t r s z e = yes_right (p t) (q t) (j.begins c w t r z (sym (ap (λ y. y ++ c) s) ∙ e))
      go (Some v) w b c t r s z e = yes_left (p t) (q t) (field_begins h b c v t r s e)

pub pairs : {A B : Type 0} {x x' : A} {y y' : B} → x ≡ x' → y ≡ y' → ◌≡◌ {A = A × B} (x, y) (x', y')
pairs p q = λ i. (p i, q i)

-- The public clauses of a field.
pub found_of : {V A : Type 0} {m : Rules} {R : Spelling A} {f : Bound → Reader A} (h : Reads m R f) (bd : Bound) → Follows m bd
    → (view : State → V → A) (old new : State) (r : Result V Fault) → FaultIsSticky old new r
    → (old.fault ≡ None → Refines view (f bd) old new r) → OnOk r (new.ahead ≡ None) → IfOk r (λ v. Found R old new (view new v))
found_of h bd i view old new (Ok v) s g n = found h bd i view old new v (g (no_fault old new v s)) n
found_of h bd i view old new (Err e) s g n = tt

pub within_of : {paths : Bool} {V A : Type 0} {K : Reason → List ℕ → Type 0} {bd : Bound} {f : Reader A} → Explained paths K 1 bd f
    → (view : State → V → A) (old new : State) (r : Result V Fault) → FaultIsSticky old new r
    → (old.fault ≡ None → Refines view f old new r) → OnOk r (IsWithin bd new)
within_of h view old new (Ok v) s g = ends_within view h (omega arith) old new (Ok v) (g (no_fault old new v s))
within_of h view old new (Err e) s g = tt

-- at a definite end
pub at_no_octet : (bd : Bound) (c d : Cursor) → bd.indefinite ≡ false → peek_of bd c ≡ Ok (None, d) → ends_here bd c.at ≡ true
unfolding peek_of look_of
at_no_octet bd c d i e =
    elim (chosen (ends_here bd c.at) (okay (None, c)) ((look_of bd.end >>= λ b. give (unless_end bd.indefinite (Some b))) c) (okay (None, d)) e) [
      | inl x ↦ x.0
      | inr x ↦ let s = bind_ok (look_of bd.end) _ c x.1 in let k : unless_end bd.indefinite (Some s.0) ≡ None = ok_value s.3 in let j :
          unless_end false (Some s.0) ≡ None = ap (λ t. unless_end t (Some s.0)) (sym i) ∙ k in absurd cc
    ]

pub no_octet_at : (bd : Bound) (c d : Cursor) (o : Option ℕ) → ends_here bd c.at ≡ true → peek_of bd c ≡ Ok (o, d) → (o ≡ None) × (bd.indefinite ≡ false)
unfolding peek_of
no_octet_at bd c d o t e =
    elim (chosen (ends_here bd c.at) (okay (None, c)) ((look_of bd.end >>= λ b. give (unless_end bd.indefinite (Some b))) c) (okay (o, d)) e) [
      | inl x ↦ (sym (ok_value x.1), definite bd.indefinite _ t)
      | inr x ↦ absurd (let z : true ≡ false = sym t ∙ x.0 in cc)
    ]
  where
    definite : (i r : Bool) → (not i && r) ≡ true → i ≡ false
    definite true r e = absurd cc
    definite false r e = refl

-- nothing was taken
pub goes_nowhere : (s : State) → s.fault ≡ None → Succeeds s s
goes_nowhere s h = (let r = at_last {f = give {A = Unit {0}} tt} s in record { accounts = record { more = r.more; took = r.took }; sound = h })

module _ {x : Option ℕ} {a b : State} (bd : Bound) (g : RefinesWithValue plain (peek_of bd) a b x) where
  looked : (cursor a (g.reaches.more ++ []) ≡ cursor b [])
  looked = peek_same bd (cursor a (g.reaches.more ++ [])) (cursor b []) x (g.reaches.refines [])

  -- nothing was consumed
  pub same_place : length b.done ≡ length a.done
  same_place = sym (ap (λ (c : Cursor). c.at) looked)

  pub ends_where : x ≡ None → bd.indefinite ≡ false → ends_here bd (length a.done) ≡ true
  ends_where e i = at_no_octet bd (cursor a (g.reaches.more ++ [])) (cursor b []) i (g.reaches.refines [] ∙ ap (λ t. okay (t, cursor b [])) e)

  pub none_where : ends_here bd (length a.done) ≡ true → (x ≡ None) × (bd.indefinite ≡ false)
  none_where t = no_octet_at bd (cursor a (g.reaches.more ++ [])) (cursor b []) x t (g.reaches.refines [])

  -- no octet is kept at the end, where none was before
  pub still_clear : (x ≡ None → bd.indefinite ≡ false → b ≡ a) → (ends_here bd (length a.done) ≡ true → a.ahead ≡ None)
      → ends_here bd (length b.done) ≡ true → b.ahead ≡ None
  still_clear at_end before here =
      let there : ends_here bd (length a.done) ≡ true = subst (λ n. ends_here bd n ≡ true) same_place here in
      let none = none_where there in
      ap (λ (s : State). s.ahead) (at_end none.0 none.1) ∙ before there

-- opaque values as they were received
pub opaque_as_received : {m : Rules} → Reads m (as_received IsOpaque) opaque_of
opaque_as_received {m} = (let r = opaque_reads {m = m} in record {
  sound = λ bd c d v i e. (let p = r.sound bd c d v i e in (p.0, p.1, (p.2.1, p.2.0)));
  complete = λ bd c d b v i p s room. r.complete bd c d b v i p (s.1, s.0) room;
  cut = r.cut;
})

pub opaque_is_field : IsField (λ t. true ≡ true) (as_received IsOpaque)
opaque_is_field = (let f = opaque_field in record {
  frame = λ b v r. f.frame b v (r.1, r.0);
  starts = λ b v r. (let h = f.starts b v (r.1, r.0) in (h.0, h.1, h.2, h.3, refl));
  same = λ b v w r q. f.same b v w (r.1, r.0) (q.1, q.0);
})

pub where_field : {V : Type 0} {P : ℕ → Type 0} {R : Spelling V} (Q : V → Type 0) → IsField P R → IsField P (R where_value Q)
where_field Q f = record { frame = λ b v r. f.frame b v r.0; starts = λ b v r. f.starts b v r.0; same = λ b v w r q. f.same b v w r.0 q.0 }

-- what is the same as a value with Q has Q, and so has what is written for it
module _ {V : Type 0} {R : Spelling V} {s : V → V → Bool} (Q : V → Type 0) (v : V) (keeps : (w : V) → s v w ≡ true → Q w) where
  where_written : {o : List ℕ} → IsWritten R s v o → IsWritten (R where_value Q) s v o
  where_written w = record { value = w.value; spells = (w.spells, keeps w.value w.same); same = w.same }

  pub where_alike : (o : List ℕ) → IsWritten R s v o ↔ IsWritten (R where_value Q) s v o
  where_alike o = (λ h. where_written h, λ h. record { value = h.value; spells = h.spells.0; same = h.same })

-- octets that are the same are equal
pub keeps_octets : (Q : List ℕ → Type 0) (v : List ℕ) → Q v → (w : List ℕ) → bytes_eq v w ≡ true → Q w
keeps_octets Q v is w e = subst Q ((bytes_eq-Decides v w).0 e) is

-- contents of which Q is true
pub where_reads_to : {V : Type 0} {m : Rules} {S : Spelling V} {g : Bound → Reader V} {Q : V → Type 0} (test : V → Bool) (reason : Reason)
    → reason ≢ Truncated → ((v : V) → test v ≡ true → Q v) → ((v : V) → Q v → test v ≡ true) → ReadsTo m S (λ v. v) g
    → ReadsTo m (S where_value Q) (λ v. v) (constrained_of test reason g)
unfolding constrained_of give_if
where_reads_to {g = g} {Q = Q} test reason known there back r = record {
  sound = λ bd c d v i e.
      let s = bind_ok (g bd) (give_if test reason) c e in
      elim (branch (test s.0) (give s.0) (refuse reason) s.1 (okay (v, d)) s.3) [
        | inl x ↦ let p =
            r.sound bd c s.1 s.0 i s.2 in (
              p.0,
              p.1,
              p.2,
              p.3,
              subst (λ z. Moves c p.2 z) (ok_place x.1) p.4,
              (p.5, subst Q (sym p.6) (there s.0 x.0)),
              p.6 ∙ ok_value x.1,
            )
        | inr x ↦ absurd (let z = x.1 in cc)
      ];
  complete = λ bd c d b o w i u s e room. bound_again (g bd) (give_if test reason) c w d (r.complete bd c d b o w i u s.0 e room)
      ∙ ap (λ t. (cond t (give w) (refuse reason)) d) (back w s.1);
  cut = λ bd c at i e. elim (bind_err (g bd) (give_if test reason) c e) [
    | inl x ↦ r.cut bd c at i x
    | inr s ↦ elim (branch (test s.0) (give s.0) (refuse reason) s.1 (bad (stop Truncated at)) s.3) [
      | inl y ↦ absurd (let z = y.1 in cc)
      | inr y ↦ absurd (known (let z = y.1 in cc))
    ]
  ];
}

pub where_begins : {V : Type 0} {P : ℕ → Type 0} {S : Spelling V} (Q : V → Type 0) → Begins P S → Begins P (S where_value Q)
where_begins Q h = record { begins = λ b v t r s e. h.begins b v t r s.0 e }

-- what a part that may be there shows holds
pub known_part : {X V : Type 0} (R : Spelling V) (f : X → V) (P : X → Type 0) → ((b : List ℕ) (x : X) → R b (f x) → P x)
    → (b : List ℕ) (o : Option X) → optional R b (option_map f o) → IfSome o P
known_part R f P h b None s = tt
known_part R f P h b (Some x) s = h b x s

-- whether an octet was seen
pub some_seen : (bd : Bound) {a b : State} (o : Option ℕ) → is_some o ≡ true → RefinesWithValue plain (peek_of bd) a b o
    → (t : ℕ) × RefinesWithValue plain (peek_of bd) a b (Some t)
some_seen bd None e g = absurd cc
some_seen bd (Some t) e g = (t, g)

pub none_seen : (o : Option ℕ) → is_some o ≡ false → o ≡ None
none_seen None e = refl
none_seen (Some t) e = absurd cc
