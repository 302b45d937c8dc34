-- The laws of opaque elements with one of several identifiers.
use Rattle.std.proofs.Common.{◌≡◌, ℕ, Bool, true, false, cond, List, ◌∷◌, ◌++◌, length, Option, Some, None, Ok, Err, sym, ap, subst, ◌∙◌, ◌+◌, inl, inr}
use Rattle.cms_tlv.specs.declared.fault.Fault.{Fault}
use Rattle.cms_tlv.specs.declared.fault.Fault.TheVariants as faults
use Rattle.cms_tlv.specs.declared.fault.Reason.TheVariants.{Truncated, UnexpectedElement}
use Rattle.cms_tlv.specs.declared.bound.Bound.{Bound}
use Rattle.cms_tlv.specs.State.{State, position}
use Rattle.cms_tlv.specs.Spelling.{Rules}
use Rattle.cms_tlv.specs.Reading.{Cursor, stop, refuse, may_be, peek_of, enter_of, opaque_of}
use Rattle.cms_tlv.specs.Clauses.{Room}
use Rattle.cms_tlv.specs.Refines.{Simulates, RefinesWithValue, Failed, plain}
use Rattle.cms_tlv.specs.Law.{Moves, CutField, Reads, IsField}
use Rattle.cms_tlv.proofs.Bind.{reaches_bind, fails, fails_then}
use Rattle.cms_tlv.proofs.Judged.{refused_behind}
use Rattle.cms_tlv.proofs.Inverse.{okay, bad, branch, bind_ok, bind_err, bound_again}
use Rattle.cms_tlv.proofs.Elements.{enter_cut}
use Rattle.cms_tlv.proofs.Ends.{peek_same, peek_cut, peek_room}
use Rattle.cms_fields.specs.Canonical.{IsDerFramed}
use Rattle.cms_fields.specs.Readers.{unexpected_of, opaque_among_of}
use Rattle.cms_fields.specs.Received.{as_received, IsOpaqueAmong}
use Rattle.cms_fields.proofs.ReaderLaws.{opaque_as_received, opaque_is_field}
use Rattle.cms_fields.proofs.CanonicalLaws.{opaque_framed}
use Rattle.cms_fields.proofs.ChoiceLaws.{next_seen}

heads : {t u : ℕ} {r q : List ℕ} → t ∷ r ≡ u ∷ q → t ≡ u
heads e = cc

unexpected_not : {A : Type 0} (bd : Bound) (c d : Cursor) (v : A) → unexpected_of bd c ≡ Ok (v, d) → ⊥
unfolding unexpected_of
unexpected_not bd c d v e = let s = bind_ok (enter_of 0 bd) (λ inner. refuse UnexpectedElement) c e in (let z = s.3 in cc)

unexpected_cut : {A : Type 0} (bd : Bound) (c : Cursor) {at : ℕ} → unexpected_of {A = A} bd c ≡ Err (stop Truncated at)
    → CutField c.rest × Room bd.end c.limit c.at (length c.rest + 1)
unfolding unexpected_of
unexpected_cut bd c e = elim (bind_err (enter_of 0 bd) (λ inner. refuse UnexpectedElement) c e) [
  | inl x ↦ enter_cut 0 bd c x
  | inr x ↦ absurd (let z = x.3 in cc)
]

module _ (p : ℕ → Bool) where
  pub among_field : IsField (λ t. p t ≡ true) (as_received (IsOpaqueAmong p))
  among_field = record {
    frame = λ b v s. opaque_is_field.frame b v (s.0, s.1.0);
    starts = λ b v s. (let z = opaque_is_field.starts b v (s.0, s.1.0) in (z.0, z.1, z.2, z.3, subst (λ t. p t ≡ true) (heads (sym s.1.3 ∙ z.2)) s.1.4));
    same = λ b v w s t. sym s.0 ∙ t.0;
  }

  pub among_framed : IsDerFramed (as_received (IsOpaqueAmong p))
  among_framed = record { framed = λ b v s. opaque_framed.framed b v (s.0, s.1.0) }

  -- the octet that was seen is the first
  first_of : (bd : Bound) (c : Cursor) (o : Option ℕ) → peek_of bd c ≡ Ok (o, c) → may_be p o ≡ true → (t : ℕ) × (r : List ℕ) × (c.rest ≡ t ∷ r) × (p t ≡ true)
  first_of bd c None e h = absurd cc
  first_of bd c (Some t) e h = let k = peek_room bd c c t e in (t, k.2.0, k.2.1, h)

  pub among_reads : {m : Rules} → Reads m (as_received (IsOpaqueAmong p)) (opaque_among_of p)
  unfolding opaque_among_of
  among_reads {m = m} = record {
    sound = λ bd c d v i e.
        let s = bind_ok (peek_of bd) _ c e in
        let at = peek_same bd c s.1 s.0 s.2 in
        elim (branch (may_be p s.0) (opaque_of bd) (unexpected_of bd) s.1 (okay (v, d)) s.3) [
          | inl x ↦
              let n = (opaque_as_received {m = m}).sound bd s.1 d v i x.1 in
              let moves : Moves c n.0 d = subst (λ z. Moves z n.0 d) (sym at) n.1 in
              let z = opaque_is_field.starts n.0 v n.2 in
              let k = first_of bd c s.0 (s.2 ∙ ap (λ q. okay (s.0, q)) (sym at)) x.0 in
              let same : k.0 ≡ z.0 = heads (sym k.2 ∙ moves.rest ∙ ap (λ q. q ++ d.rest) z.2) in
              (n.0, moves, (n.2.0, (n.2.1, z.0, z.1, z.2, subst (λ t. p t ≡ true) same k.3)))
          | inr x ↦ absurd (unexpected_not bd s.1 d v x.1)
        ];
    complete = λ bd c d b v i n s room.
        let z = next_seen among_field bd c d b v n s room in
        bound_again (peek_of bd) _ c (Some z.0) c z.3 ∙ ap (λ t. (cond t (opaque_of bd) (unexpected_of bd)) c) z.2
        ∙ (opaque_as_received {m = m}).complete bd c d b v i n (s.0, s.1.0) room;
    cut = λ bd c at i e. elim (bind_err (peek_of bd) _ c e) [
      | inl x ↦ peek_cut bd c x
      | inr s ↦
          let here = peek_same bd c s.1 s.0 s.2 in
          elim (branch (may_be p s.0) (opaque_of bd) (unexpected_of bd) s.1 (bad (stop Truncated at)) s.3) [
            | inl x ↦ (opaque_as_received {m = m}).cut bd c at i (ap (opaque_of bd) here ∙ x.1)
            | inr x ↦ unexpected_cut bd c (ap (unexpected_of bd) here ∙ x.1)
          ]
    ];
  }

  -- The exits of its reader, after the look at the next octet.
  module _ (bd : Bound) {a b : State} {o : Option ℕ} (next : RefinesWithValue plain (peek_of bd) a b o) where
    pub is_among : may_be p o ≡ true → Simulates (opaque_among_of p bd) a (opaque_of bd) b
    unfolding opaque_among_of
    is_among t = subst (λ r. Simulates (opaque_among_of p bd) a r b) (ap (λ k. cond k (opaque_of bd) (unexpected_of bd)) t) (reaches_bind _ next.reaches)

    is_other : may_be p o ≡ false → Simulates (opaque_among_of p bd) a (unexpected_of bd) b
    unfolding opaque_among_of
    is_other t = subst (λ r. Simulates (opaque_among_of p bd) a r b) (ap (λ k. cond k (opaque_of bd) (unexpected_of bd)) t) (reaches_bind _ next.reaches)

    pub header_fails : {c : State} {e : Fault} → may_be p o ≡ false → Failed (enter_of 0 bd) b c e → Failed (opaque_among_of p bd) a c e
    unfolding unexpected_of
    header_fails t q = fails_then (is_other t) (fails _ q)

    pub header_refused : {c d : State} {e : Fault} {inner : Bound} → may_be p o ≡ false → RefinesWithValue plain (enter_of 0 bd) b c inner
        → d ≡ record c { fault = Some e } → e ≡ faults.Refused UnexpectedElement (position c) → Failed (opaque_among_of p bd) a d e
    unfolding unexpected_of
    header_refused t q k l = fails_then (is_other t) (refused_behind (List ℕ) UnexpectedElement (λ e. absurd cc) (inl tt) q k l)
