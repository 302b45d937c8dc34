-- The octets before each refusal of a pure reader say why, for each combinator.
use Rattle.std.proofs.Common.{◌≡◌, inl, inr, ℕ, zero, suc, ◌+◌, ◌-◌, ◌≤◌, Bool, true, false, cond, eqb, List, [], ◌∷◌, ◌++◌, Option, Some, None, Result, Ok, Err, refl, sym, ap, subst, ◌∙◌, append_assoc, length, length-append, arith}
use Rattle.cms_tlv.specs.declared.fault.Reason.{Reason}
use Rattle.cms_tlv.specs.declared.fault.Reason.TheVariants.{UnexpectedElement, SignedAttrsNotDer}
use Rattle.cms_tlv.specs.declared.bound.Bound.{Bound}
use Rattle.cms_tlv.specs.declared.bound.Header.{Header}
use Rattle.cms_tlv.specs.Reading.{Cursor, stop, Reader, ◌>>=◌, give, refuse, peek_of, close_of, enter_of, expected_of, primitive_of, give_if, scalar_of, may_be, optional_of, many_of, all_by, taking, opaque_of, member_of, members_of, row_of, rows_of}
use Rattle.cms_tlv.proofs.Inverse.{okay, bad, branch, ok_value, ok_place, bind_ok, bind_err}
use Rattle.cms_tlv.proofs.FrameLaws.{identifier_some}
use Rattle.cms_tlv.specs.Law.{rules_of}
use Rattle.cms_tlv.specs.Clauses.{Contains, EndsBefore, IsWithin}
use Rattle.cms_tlv.specs.Frames.{IsPath, start}
use Rattle.cms_tlv.specs.Headers.{AreOctets, IsHeader}
use Rattle.cms_tlv.specs.Law.{EndedBy}
use Rattle.std.proofs.lemmas.Bool.{eqb-true}
use Rattle.cms_tlv.proofs.Within.{sooner, Inside, from_inside, expected_within, inner_inside, close_within, primitive_within, opaque_within, taken_goes}
use Rattle.cms_tlv.proofs.Rules.{follows}
use Rattle.cms_tlv.proofs.ReadingLaws.{Moves, moves_nothing, moves_then}
use Rattle.cms_tlv.proofs.Ends.{peek_same, close_sound}
use Rattle.cms_tlv.proofs.HeaderReads.{Head, header_sound, header_is}
use Rattle.cms_tlv.proofs.PrimitiveClauses.{primitive_spells}
use Rattle.cms_tlv.specs.RefusalReasons.{IsPathIf, HasCause, Explained, IsFree, SaysWhy, says_nothing, says_element, says_malformed, either_says, says_later, says_then, says_inside}
use Rattle.cms_tlv.specs.declared.fault.Fault.{Fault}
use Rattle.cms_tlv.specs.declared.fault.Fault.TheVariants as faults
use Rattle.cms_tlv.specs.State.{State, as_list}
use Rattle.cms_tlv.specs.Refines.{NeedsNoOctets, cursor, Simulates, Failed, Refines}
use Rattle.std.specs.Prelude.{IfErr, OnOk}
use Rattle.cms_tlv.proofs.Lists.{same_prefixes}
use Rattle.cms_tlv.proofs.Ties.{at_once, stop_reason, stop_place, tied, close_ties, peek_ties, enter_ties, primitive_ties}
use Rattle.cms_tlv.proofs.OpaqueReads.{opaque_reads, opaque_field}
use Rattle.cms_tlv.proofs.OpaqueTies.{after_path, opaque_ties}
use Rattle.cms_tlv.proofs.Paths.{path_if, path_then_if, element_path, end_path, framed_path}
use Rattle.cms_tlv.proofs.OctetsTaken.{taking_cut}

-- nothing was taken past the bound by the one reader, nor by the next
both_within : (end : Option ℕ) (b c : List ℕ) {m d : Cursor} → Moves m c d → (1 ≤ length b → EndsBefore end m.at)
    → (1 ≤ length c → EndsBefore end d.at) → 1 ≤ length (b ++ c) → EndsBefore end d.at
both_within end b [] {m = m} {d = d} p h k l = sooner end d.at m.at (omega (arith, p.at)) (h (omega (arith, length-append b [])))
both_within end b (x ∷ c) p h k l = k (omega arith)

-- after octets that were read well
cause_after : {paths : Bool} {K : Reason → List ℕ → Type 0} {c m : Cursor} {b : List ℕ} (reason : Reason) (at : ℕ) → IsPathIf paths b → Moves c b m → HasCause paths K m reason at
    → HasCause paths (says_later paths K) c reason at
cause_after reason at q p (inl x) = inl (after_path q p x)
cause_after {b = b} reason at q p (inr x) = inr (record {
  octets = b ++ x.octets;
  after = x.after;
  moves = moves_then p x.moves;
  here = x.here;
  malformed = (b, x.octets, refl, q, x.malformed);
})

-- What is said of fewer octets is said of more.
cause_wider : {paths : Bool} {K L : Reason → List ℕ → Type 0} → ((reason : Reason) (b : List ℕ) → K reason b → L reason b) → (c : Cursor) (reason : Reason) (at : ℕ)
    → HasCause paths K c reason at → HasCause paths L c reason at
cause_wider w c reason at (inl x) = inl x
cause_wider w c reason at (inr x) =
    inr (record { octets = x.octets; after = x.after; moves = x.moves; here = x.here; malformed = w reason x.octets x.malformed })

pub wider : {paths : Bool} {K L : Reason → List ℕ → Type 0} → ((reason : Reason) (b : List ℕ) → K reason b → L reason b)
    → {A : Type 0} {n : ℕ} {bd : Bound} {f : Reader A} → Explained paths K n bd f → Explained paths L n bd f
wider w p = record { goes = p.goes; cause = λ c reason at e. cause_wider w c reason at (p.cause c reason at e) }

-- What is a path of more records is one of fewer.
pub under_paths : {paths others : Bool} → ((b : List ℕ) → IsPathIf paths b → IsPathIf others b) → {K : Reason → List ℕ → Type 0} {A : Type 0} {n : ℕ} {bd : Bound} {f : Reader A}
    → Explained paths K n bd f → Explained others K n bd f
under_paths {paths = paths} {others = others} w {K = K} p = record {
  goes = λ c d v e. (let x = p.goes c d v e in (x.0, x.1, x.2, x.3, w x.0 x.4));
  cause = λ c reason at e. go c reason at (p.cause c reason at e);
}
  where
    go : (c : Cursor) (reason : Reason) (at : ℕ) → HasCause paths K c reason at → HasCause others K c reason at
    go c reason at (inl x) = inl (record { prefix = x.prefix; path = w x.prefix x.path; last = x.last; moves = x.moves; ties = x.ties })
    go c reason at (inr x) = inr x

-- after the header of an element
cause_inside : {paths : Bool} {K : Reason → List ℕ → Type 0} {c m : Cursor} {b : List ℕ} (id : ℕ) (reason : Reason) (at : ℕ) → IsHeader id b → IsPathIf paths b → Moves c b m
    → HasCause paths K m reason at → HasCause paths (says_inside id K) c reason at
cause_inside id reason at i k p (inl x) = inl (after_path k p x)
cause_inside {b = b} id reason at i k p (inr x) = inr (record {
  octets = b ++ x.octets;
  after = x.after;
  moves = moves_then p x.moves;
  here = x.here;
  malformed = (b, x.octets, refl, i, x.malformed);
})

-- after other octets that were read well
cause_later : {paths : Bool} {K : Reason → List ℕ → Type 0} {c m : Cursor} {b : List ℕ} (reason : Reason) (at : ℕ) → IsPathIf paths b → Moves c b m
    → HasCause paths (says_later paths K) m reason at → HasCause paths (says_later paths K) c reason at
cause_later {paths = paths} {K = K} {c = c} reason at q p k = cause_wider joined c reason at (cause_after reason at q p k)
  where
    joined : (r : Reason) (b : List ℕ) → says_later paths (says_later paths K) r b → says_later paths K r b
    joined r b x =
        let y = x.4 in (x.0 ++ y.0, y.1, x.2 ∙ ap (λ z. x.0 ++ z) y.2 ∙ sym (append_assoc x.0 y.0 y.1), path_then_if paths _ _ x.3 y.3, y.4)

by_ber : {id : ℕ} {b c : List ℕ} (strict : Bool) → Contains id strict b c → Contains id false b c
by_ber false h = h
by_ber true h = record {
  identifier = h.identifier;
  sizes = h.sizes;
  parts = h.parts;
  is_identifier = h.is_identifier;
  is_length = h.is_length.is;
  octets = h.octets;
}

-- Nothing is said of what comes later.
pub quiet : (paths : Bool) (K : Reason → List ℕ → Type 0) (reason : Reason) (b : List ℕ) → says_then paths K says_nothing reason b → K reason b
quiet paths K reason b (inl x) = x
quiet paths K reason b (inr x) = absurd x.4

ended_path : (i : Bool) (end : Option ℕ) (at : ℕ) (o : List ℕ) → EndedBy i end at [] o → IsPath o
ended_path true end at o e = subst IsPath (sym e) end_path
ended_path false end at o e = subst IsPath (sym e.0) start

-- the header that was read is one with the identifier octet that was tested
header_with : {bd : Bound} {c d : Cursor} {h : Header} {id : ℕ} (k : Head bd c d h) → eqb h.ident id ≡ true → IsHeader id ((h.ident ∷ k.more) ++ k.sizes)
header_with {h = h} {id = id} k e = subst (λ i. IsHeader i ((h.ident ∷ k.more) ++ k.sizes)) (eqb-true h.ident id e) (header_is k)

-- K says for which reason octets are refused
module _ {paths : Bool} (K : Reason → List ℕ → Type 0) where
  pub gives_explained : {A : Type 0} {bd : Bound} (x : A) → Explained paths K 0 bd (give x)
  gives_explained x =
      record {
        goes = λ c d v e. ([], subst (λ m. Moves c [] m) (ok_place e) (moves_nothing c), omega arith, λ l. absurd (omega arith), path_if paths start);
        cause = λ c reason at e. absurd (let k = e in cc);
      }

  pub refuses_explained : {A : Type 0} {bd : Bound} (reason : Reason) → IsFree reason → Explained paths K 1 bd (refuse {A = A} reason)
  refuses_explained {A = A} reason free = record {
    goes = λ c d v e. absurd (let k = e in cc);
    cause = λ c other at e. inl (at_once (inl (subst (NeedsNoOctets c.limit at) (stop_reason {A = A} e) (free c.limit at))));
  }

  pub bound_explained : {L : Reason → List ℕ → Type 0} {A B : Type 0} {bd : Bound} {m n : ℕ} {f : Reader A} {h : A → Reader B}
      → Explained paths K m bd f → ((x : A) → Explained paths L n bd (h x)) → Explained paths (says_then paths K L) (m + n) bd (f >>= h)
  bound_explained {bd = bd} {f = f} {h = h} p q = record {
    goes = λ c d v e.
        let s = bind_ok f h c e in
        let one = p.goes c s.1 s.0 s.2 in
        let two = (q s.0).goes s.1 d v s.3 in
        (one.0 ++ two.0, moves_then one.1 two.1, omega (arith, length-append one.0 two.0, one.2, two.2), both_within bd.end one.0 two.0 two.1 one.3 two.3, path_then_if paths _ _ one.4 two.4);
    cause = λ c reason at e. elim (bind_err f h c e) [
      | inl x ↦ cause_wider (λ r b. inl) c reason at (p.cause c reason at x)
      | inr s ↦ cause_wider (λ r b. inr) c reason at (let one = p.goes c s.1 s.0 s.2 in cause_after reason at one.4 one.1 ((q s.0).cause s.1 reason at s.3))
    ];
  }

  -- a value made of what was read
  pub made_explained : {A B : Type 0} {bd : Bound} {n : ℕ} {f : Reader A} (g : A → B) → Explained paths K n bd f → Explained paths K n bd (f >>= λ x. give (g x))
  made_explained {bd = bd} {f = f} g p = record {
    goes = λ c d v e.
        let s = bind_ok f (λ x. give (g x)) c e in
        let one = p.goes c s.1 s.0 s.2 in
        let here = ok_place s.3 in (
          one.0,
          subst (λ m. Moves c one.0 m) here one.1,
          one.2,
          subst (λ (m : Cursor). 1 ≤ length one.0 → EndsBefore bd.end m.at) here one.3,
          one.4,
        );
    cause = λ c reason at e. elim (bind_err f (λ x. give (g x)) c e) [
      | inl x ↦ p.cause c reason at x
      | inr s ↦ absurd (let z = s.3 in cc)
    ];
  }

  pub branch_explained : {A : Type 0} {bd : Bound} {n : ℕ} (b : Bool) {f g : Reader A} → Explained paths K n bd f → Explained paths K n bd g → Explained paths K n bd (cond b f g)
  branch_explained true p q = p
  branch_explained false p q = q

  pub fewer : {A : Type 0} {bd : Bound} {n : ℕ} {f : Reader A} → Explained paths K n bd f → Explained paths K 0 bd f
  fewer p = record { goes = λ c d v e. (let s = p.goes c d v e in (s.0, s.1, omega arith, s.3, s.4)); cause = p.cause }

  pub peek_explained : (bd : Bound) → Explained paths K 0 bd (peek_of bd)
  peek_explained bd =
      record {
        goes = λ c d o e. (
          [],
          subst (λ m. Moves c [] m) (peek_same bd c d o e) (moves_nothing c),
          omega arith,
          λ l. absurd (omega arith),
          path_if paths start,
        );
        cause = λ c reason at e. inl (at_once (peek_ties bd c e));
      }

  -- the next octet was looked at, which takes none
  pub peeked_explained : {A : Type 0} {n : ℕ} {bd : Bound} {h : Option ℕ → Reader A} → ((o : Option ℕ) → Explained paths K n bd (h o))
      → Explained paths K n bd (peek_of bd >>= h)
  peeked_explained {bd = bd} {h = h} q = record {
    goes = λ c d v e. let s = bind_ok (peek_of bd) h c e in (q s.0).goes c d v (ap (h s.0) (peek_same bd c s.1 s.0 s.2) ∙ s.3);
    cause = λ c reason at e. elim (bind_err (peek_of bd) h c e) [
      | inl x ↦ inl (at_once (peek_ties bd c x))
      | inr s ↦ (q s.0).cause c reason at (ap (h s.0) (peek_same bd c s.1 s.0 s.2) ∙ s.3)
    ];
  }

  pub close_explained : (bd : Bound) → Explained paths K 0 bd (close_of bd)
  close_explained bd = record {
    goes = λ c d u e. (let s = close_sound bd c d u e in (
      s.0,
      s.2,
      omega arith,
      λ l. elim (close_within bd c d u e) [
        | inl x ↦ absurd (omega (arith, s.2.at, ap (λ (m : Cursor). m.at) x, l))
        | inr x ↦ x
      ],
      path_if paths (ended_path bd.indefinite bd.end c.at s.0 s.1),
    ));
    cause = λ c reason at e. inl (at_once (close_ties bd c e));
  }

  -- the header of an element, and what it holds
  pub entered_explained : {A : Type 0} {n : ℕ} {g : Bound → Reader A} (id : ℕ) → ((b : List ℕ) → IsHeader id b → IsPathIf paths b) → (bd : Bound)
      → ((inner : Bound) → Explained paths K n inner (g inner)) → Explained paths (says_inside id K) 1 bd (enter_of id bd >>= g)
  unfolding enter_of
  entered_explained {g = g} id path bd h = record {
    goes = λ c d v e.
        let s = bind_ok (enter_of id bd) g c e in
        let t = bind_ok (expected_of bd) _ c s.2 in
        let k = header_sound bd c t.1 t.0 t.2 in
        elim (branch (eqb t.0.ident id) (give t.0.inner) (refuse UnexpectedElement) t.1 (okay (s.0, s.1)) t.3) [
          | inl x ↦
              let two = (h s.0).goes s.1 d v s.3 in
              let here = ok_place x.1 in
              let one : Moves c ((t.0.ident ∷ k.more) ++ k.sizes) s.1 = subst (λ m. Moves c ((t.0.ident ∷ k.more) ++ k.sizes) m) here k.moves in
              let inside : Inside bd.end s.0.end =
              subst (λ (b : Bound). Inside bd.end b.end) (ok_value x.1) (inner_inside bd t.1.at t.1.limit k.sizes t.0 t.0.len k.has) in
              let header : EndsBefore bd.end s.1.at = subst (λ (m : Cursor). EndsBefore bd.end m.at) here (expected_within bd c t.1 t.0 t.2) in (
                ((t.0.ident ∷ k.more) ++ k.sizes) ++ two.0,
                moves_then one two.1,
                omega (arith, length-append ((t.0.ident ∷ k.more) ++ k.sizes) two.0, length-append (t.0.ident ∷ k.more) k.sizes),
                both_within bd.end ((t.0.ident ∷ k.more) ++ k.sizes) two.0 two.1 (λ l. header)
                    (λ l. from_inside bd.end s.0.end d.at inside (two.3 l)),
                path_then_if paths _ _ (path _ (header_with k x.0)) two.4,
              )
          | inr x ↦ absurd (let z = x.1 in cc)
        ];
    cause = λ c reason at e. elim (bind_err (enter_of id bd) g c e) [
      | inl x ↦ inl (at_once (enter_ties id bd c x))
      | inr s ↦
          let t = bind_ok (expected_of bd) _ c s.2 in
          let k = header_sound bd c t.1 t.0 t.2 in
          elim (branch (eqb t.0.ident id) (give t.0.inner) (refuse UnexpectedElement) t.1 (okay (s.0, s.1)) t.3) [
            | inl x ↦ cause_inside id reason at (header_with k x.0) (path _ (header_with k x.0))
                (subst (λ m. Moves c ((t.0.ident ∷ k.more) ++ k.sizes) m) (ok_place x.1) k.moves) ((h s.0).cause s.1 reason at s.3)
            | inr x ↦ absurd (let z = x.1 in cc)
          ]
    ];
  }

  -- the header of an element, after which reading is refused
  pub entered_refused : {A : Type 0} (id : ℕ) (bd : Bound) (reason : Reason) → IsFree reason
      → Explained paths K 1 bd (enter_of id bd >>= λ inner. refuse {A = A} reason)
  entered_refused {A = A} id bd reason free = record {
    goes = λ c d v e. absurd (let s = bind_ok (enter_of id bd) _ c e in let z = s.3 in cc);
    cause = λ c other at e. elim (bind_err (enter_of id bd) _ c e) [
      | inl x ↦ inl (at_once (enter_ties id bd c x))
      | inr s ↦ inl (at_once (inl (subst (NeedsNoOctets c.limit at) (stop_reason {A = A} s.3) (free c.limit at))))
    ];
  }

  pub primitive_explained : (id : ℕ) (bd : Bound) → Explained paths K 1 bd (primitive_of id bd)
  primitive_explained id bd = record {
    goes =
        λ c d v e. (let k = primitive_spells id bd c d v e in (
          k.0,
          k.1,
          (let i = identifier_some k.2.is_identifier in omega (
            arith,
            ap length k.2.parts,
            length-append k.2.identifier (k.2.sizes ++ v),
            i,
          )),
          λ l. primitive_within id bd c d v e,
          path_if paths (element_path (by_ber bd.strict k.2)),
        ));
    cause = λ c reason at e. inl (at_once (primitive_ties id bd c e));
  }

  pub optional_explained : {A : Type 0} (p : ℕ → Bool) {f : Bound → Reader A} → ((bd : Bound) → Explained paths K 1 bd (f bd)) → (bd : Bound)
      → Explained paths K 0 bd (optional_of p f bd)
  unfolding optional_of
  optional_explained p h bd = peeked_explained (λ o. branch_explained (may_be p o) (fewer (made_explained Some (h bd))) (gives_explained None))

  pub taking_explained : {A : Type 0} {n : ℕ} (f : Bound → Reader A) (bd : Bound) → Explained paths K n bd (f bd) → Explained paths K n bd (taking f bd)
  unfolding taking
  taking_explained f bd h = record {
    goes = λ c d v e. h.goes c d v.1 (taken_goes c d (f bd c) v e);
    cause = λ c reason at e. h.cause c reason at (taking_cut f bd c (stop reason at) e);
  }

  module _ {S A : Type 0} {f : S → Bound → Reader (S × A)} (h : (s : S) (bd : Bound) → Explained paths K 1 bd (f s bd)) where
    many_goes : (count : ℕ) (s : S) (bd : Bound) (c d : Cursor) (vs : List A) → many_of count f s bd c ≡ Ok (vs, d)
        → (b : List ℕ) × Moves c b d × (1 ≤ length b → EndsBefore bd.end d.at) × IsPathIf paths b
    unfolding many_of
    many_goes zero s bd c d vs e = absurd (let z = e in cc)
    many_goes (suc count) s bd c d vs e = (
        let o = bind_ok (peek_of bd) _ c e in
        let first = (peek_explained bd).goes c o.1 o.0 o.2 in
        elim (branch (may_be (λ _. true) o.0) (f s bd >>= λ p. many_of count f p.0 bd >>= λ vs. give (p.1 ∷ vs))
        (close_of bd >>= λ u. give []) o.1 (okay (vs, d)) o.3) [
          | inl x ↦
              let t = bind_ok (f s bd) _ o.1 x.1 in
              let one = (h s bd).goes o.1 t.1 t.0 t.2 in
              let u = bind_ok (many_of count f t.0.0 bd) _ t.1 t.3 in
              let two = many_goes count t.0.0 bd t.1 u.1 u.0 u.2 in
              let goes = moves_then first.1 (moves_then one.1 two.1) in
              let ends = both_within bd.end first.0 (one.0 ++ two.0) (moves_then one.1 two.1) first.3 (both_within bd.end one.0 two.0 two.1 one.3 two.2) in
              let here = ok_place u.3 in (
                first.0 ++ (one.0 ++ two.0),
                subst (λ m. Moves c (first.0 ++ (one.0 ++ two.0)) m) here goes,
                subst (λ (m : Cursor). 1 ≤ length (first.0 ++ (one.0 ++ two.0)) → EndsBefore bd.end m.at) here ends,
                path_then_if paths _ _ first.4 (path_then_if paths _ _ one.4 two.3),
              )
          | inr x ↦
              let t = bind_ok (close_of bd) _ o.1 x.1 in
              let one = (close_explained bd).goes o.1 t.1 t.0 t.2 in
              let here = ok_place t.3 in (
                first.0 ++ one.0,
                subst (λ m. Moves c (first.0 ++ one.0) m) here (moves_then first.1 one.1),
                subst (λ (m : Cursor). 1 ≤ length (first.0 ++ one.0) → EndsBefore bd.end m.at) here
                    (both_within bd.end first.0 one.0 one.1 first.3 one.3),
                path_then_if paths _ _ first.4 one.4,
              )
        ])

    many_cause : (count : ℕ) (s : S) (bd : Bound) (c : Cursor) (reason : Reason) (at : ℕ) → c.limit ≤ c.at + count
        → many_of count f s bd c ≡ Err (stop reason at) → HasCause paths (says_later paths K) c reason at
    unfolding many_of
    many_cause zero s bd c reason at l e =
        let past : c.limit ≤ at = subst (λ n. c.limit ≤ n) (stop_place e) (omega arith) in
        inl (at_once (inl (subst (NeedsNoOctets c.limit at) (stop_reason e) past)))
    many_cause (suc count) s bd c reason at l e = elim (bind_err (peek_of bd) _ c e) [
      | inl x ↦ inl (at_once (peek_ties bd c x))
      | inr o ↦
          let first = (peek_explained bd).goes c o.1 o.0 o.2 in
          elim (branch (may_be (λ _. true) o.0) (f s bd >>= λ p. many_of count f p.0 bd >>= λ vs. give (p.1 ∷ vs))
          (close_of bd >>= λ u. give []) o.1 (bad (stop reason at)) o.3) [
            | inl x ↦ elim (bind_err (f s bd) _ o.1 x.1) [
              | inl y ↦ cause_after reason at first.4 first.1 ((h s bd).cause o.1 reason at y)
              | inr t ↦
                  let one = (h s bd).goes o.1 t.1 t.0 t.2 in
                  elim (bind_err (many_of count f t.0.0 bd) _ t.1 t.3) [
                    | inl y ↦ cause_later reason at (path_then_if paths _ _ first.4 one.4) (moves_then first.1 one.1)
                        (many_cause count t.0.0 bd t.1 reason at (omega (arith, first.1.at, first.1.limit, one.1.at, one.1.limit, one.2, l)) y)
                    | inr y ↦ absurd (let z = y.3 in cc)
                  ]
            ]
            | inr x ↦ elim (bind_err (close_of bd) _ o.1 x.1) [
              | inl y ↦ inl (after_path first.4 first.1 (at_once (close_ties bd o.1 y)))
              | inr y ↦ absurd (let z = y.3 in cc)
            ]
          ]
    ]

    pub all_explained : (s : S) (bd : Bound) → Explained paths (says_later paths K) 0 bd (all_by f s bd)
    unfolding all_by
    all_explained s bd = record {
      goes = λ c d vs e. (let p = many_goes (suc (c.limit - c.at)) s bd c d vs e in (p.0, p.1, omega arith, p.2, p.3));
      cause = λ c reason at e. many_cause (suc (c.limit - c.at)) s bd c reason at (omega arith) e;
    }

  -- a reason for which the octets before are never looked at
  pub given_explained : {A : Type 0} {bd : Bound} (test : A → Bool) (reason : Reason) → IsFree reason → (x : A) → Explained paths K 0 bd (give_if test reason x)
  unfolding give_if
  given_explained test reason free x = branch_explained (test x) (gives_explained x) (fewer (refuses_explained reason free))

  pub opaque_explained : (bd : Bound) → Explained paths K 1 bd (opaque_of bd)
  opaque_explained bd = record {
    goes = λ c d v e.
        let p = (opaque_reads {m = rules_of bd.strict}).sound bd c d v (follows bd) e in
        let h = opaque_field.starts p.0 v p.2 in
        (p.0, p.1, omega (arith, ap length h.2), λ l. opaque_within bd c d v e, path_if paths (framed_path p.2.0));
    cause = λ c reason at e. inl (opaque_ties bd c reason at e);
  }

-- Members, and elements in any order.
module _ {paths : Bool} (K : Reason → List ℕ → Type 0) {A : Type 0} {f : Bound → Reader A} (h : (bd : Bound) → Explained paths K 1 bd (f bd)) where
  pub members_explained : (bd : Bound) → Explained paths (says_later paths K) 0 bd (members_of f bd)
  unfolding member_of
  members_explained bd = all_explained K (λ last bd. made_explained K (λ p. (Some p.0, p.1))
      (wider (quiet paths K) (bound_explained K (taking_explained K f bd (h bd)) (given_explained says_nothing _ SignedAttrsNotDer (λ limit at. tt))))) None bd

  pub rows_explained : (bd : Bound) → Explained paths (says_later paths K) 0 bd (rows_of f bd)
  unfolding row_of
  rows_explained bd = all_explained K (λ u bd. made_explained K (λ v. (tt, v)) (h bd)) tt bd

-- Contents that do not pass a test.

-- what was read is the element
scalar_spells : (id : ℕ) (test : List ℕ → Bool) (malformed : Reason) (bd : Bound) (c d : Cursor) (v : List ℕ) → scalar_of id test malformed bd c ≡ Ok (v, d)
    → (b : List ℕ) × Moves c b d × Contains id false b v × (test v ≡ true)
unfolding scalar_of give_if
scalar_spells id test malformed bd c d v e =
    let s = bind_ok (primitive_of id bd) (give_if test malformed) c e in
    let k = primitive_spells id bd c s.1 s.0 s.2 in
    elim (branch (test s.0) (give s.0) (refuse malformed) s.1 (okay (v, d)) s.3) [
      | inl x ↦ (k.0, subst (λ m. Moves c k.0 m) (ok_place x.1) k.1, subst (λ w. Contains id false k.0 w) (ok_value x.1) (by_ber bd.strict k.2), subst (λ w. test w ≡ true) (ok_value x.1) x.0)
      | inr x ↦ absurd (let z = x.1 in cc)
    ]

module _ {paths : Bool} (id : ℕ) (P : List ℕ → Type 0) (test : List ℕ → Bool) (malformed : Reason) (known : (v : List ℕ) → test v ≡ false → P v → ⊥) where
  pub scalar_explained : (bd : Bound) → Explained paths (says_malformed id P malformed) 1 bd (scalar_of id test malformed bd)
  unfolding scalar_of give_if
  scalar_explained bd = record {
    goes = λ c d v e.
        let s = bind_ok (primitive_of id bd) (give_if test malformed) c e in
        let k = (primitive_explained {paths = paths} says_nothing id bd).goes c s.1 s.0 s.2 in
        elim (branch (test s.0) (give s.0) (refuse malformed) s.1 (okay (v, d)) s.3) [
          | inl x ↦ (
            k.0,
            subst (λ m. Moves c k.0 m) (ok_place x.1) k.1,
            k.2,
            subst (λ (m : Cursor). 1 ≤ length k.0 → EndsBefore bd.end m.at) (ok_place x.1) k.3,
            k.4,
          )
          | inr x ↦ absurd (let z = x.1 in cc)
        ];
    cause = λ c reason at e. elim (bind_err (primitive_of id bd) (give_if test malformed) c e) [
      | inl x ↦ inl (at_once (primitive_ties id bd c x))
      | inr s ↦
          let k = primitive_spells id bd c s.1 s.0 s.2 in
          elim (branch (test s.0) (give s.0) (refuse malformed) s.1 (bad (stop reason at)) s.3) [
            | inl x ↦ absurd (let z = x.1 in cc)
            | inr x ↦ inr (record {
              octets = k.0;
              after = s.1;
              moves = k.1;
              here = stop_place x.1;
              malformed = (s.0, sym (stop_reason x.1), by_ber bd.strict k.2, known s.0 x.0);
            })
          ]
    ];
  }

  -- a further test of those that pass the first
  pub constrained_explained : (passes : (v : List ℕ) → AreOctets v → test v ≡ true → P v) (Q : List ℕ → Type 0) (also : List ℕ → Bool) (refusal : Reason)
      → ((v : List ℕ) → P v → also v ≡ false → Q v → ⊥) → (bd : Bound)
      → Explained paths (either_says (says_malformed id P malformed) (says_element id (λ c. P c × (Q c → ⊥)) refusal)) 1 bd
      (scalar_of id test malformed bd >>= give_if also refusal)
  unfolding give_if
  constrained_explained passes Q also refusal more bd = record {
    goes = λ c d v e.
        let s = bind_ok (scalar_of id test malformed bd) (give_if also refusal) c e in
        let one = (scalar_explained bd).goes c s.1 s.0 s.2 in
        elim (branch (also s.0) (give s.0) (refuse refusal) s.1 (okay (v, d)) s.3) [
          | inl x ↦ (
            one.0,
            subst (λ m. Moves c one.0 m) (ok_place x.1) one.1,
            one.2,
            subst (λ (m : Cursor). 1 ≤ length one.0 → EndsBefore bd.end m.at) (ok_place x.1) one.3,
            one.4,
          )
          | inr x ↦ absurd (let z = x.1 in cc)
        ];
    cause = λ c reason at e. elim (bind_err (scalar_of id test malformed bd) (give_if also refusal) c e) [
      | inl x ↦ cause_wider (λ r b. inl) c reason at ((scalar_explained bd).cause c reason at x)
      | inr s ↦
          let k = scalar_spells id test malformed bd c s.1 s.0 s.2 in
          elim (branch (also s.0) (give s.0) (refuse refusal) s.1 (bad (stop reason at)) s.3) [
            | inl x ↦ absurd (let z = x.1 in cc)
            | inr x ↦ inr (record {
              octets = k.0;
              after = s.1;
              moves = k.1;
              here = stop_place x.1;
              malformed = (let p = passes s.0 k.2.octets k.3 in inr (s.0, sym (stop_reason x.1), k.2, (p, more s.0 p x.0)));
            })
          ]
    ];
  }

-- Calls.

consumed_to : {A : Type 0} {f next : Reader A} {old new : State} (p : Simulates f old next new) (b : List ℕ) (d : Cursor)
    → Moves (cursor old (p.more ++ [])) b d → d.at ≡ length new.done → new.done ≡ old.done ++ b
consumed_to {old = old} {new = new} p b d q here =
    let took = p.took in
    let count : length old.done + length b ≡ length new.done = sym q.at ∙ here in
    let same =
    same_prefixes took.read b (as_list new.ahead ++ []) d.rest
    (omega (arith, ap length took.done, length-append old.done took.read, count))
    (sym (append_assoc took.read (as_list new.ahead) []) ∙ ap (λ t. t ++ []) (sym took.order)
    ∙ append_assoc (as_list old.ahead) p.more [] ∙ q.rest) in
    took.done ∙ ap (λ t. old.done ++ t) same.0

module _ {paths : Bool} {K : Reason → List ℕ → Type 0} {A : Type 0} {f next : Reader A} {old new : State} (p : Simulates f old next new) (none : new.ahead ≡ None) where
  last_says : (reason : Reason) (at : ℕ) → HasCause paths K (cursor old (p.more ++ [])) reason (length new.done) → SaysWhy paths K old new (faults.Refused reason at)
  last_says reason at (inl x) = inl (x.prefix, x.path, tied p reason at (λ l. none) x.prefix x.last x.moves x.ties)
  last_says reason at (inr m) =
      inr (record { octets = m.octets; taken = consumed_to p m.octets m.after m.moves m.here; none_kept = none; says = m.malformed })

pub fault_says : {paths : Bool} {A : Type 0} {K : Reason → List ℕ → Type 0} {n : ℕ} {bd : Bound} {f : Reader A} → Explained paths K n bd f
    → (e : Fault) (old new : State) → Failed f old new e → SaysWhy paths K old new e
fault_says {paths = paths} h (faults.Refused reason at) old new g = elim g.explained.3 [
  | inl free ↦ inl ([], path_if paths start, inl (subst (λ n. NeedsNoOctets n (length new.done) reason) g.reaches.took.limit free))
  | inr none ↦ last_says g.reaches none reason at (h.cause (cursor old (g.reaches.more ++ [])) reason (length new.done)
      (g.reaches.refines [] ∙ g.explained.2 [] (λ _. refl)))
]
fault_says h faults.Read old new g = tt
fault_says h (faults.Write written) old new g = tt
fault_says h faults.OutOfMemory old new g = tt

pub says_why : {paths : Bool} {A V : Type 0} (view : State → V → A) {K : Reason → List ℕ → Type 0} {n : ℕ} {bd : Bound} {f : Reader A}
    → Explained paths K n bd f → (old new : State) (r : Result V Fault) → Refines view f old new r → IfErr r (SaysWhy paths K old new)
says_why view h old new (Ok v) g = tt
says_why view h old new (Err e) g = fault_says h e old new g

-- On success nothing past the bound was consumed.
pub ends_within : {paths : Bool} {A V : Type 0} (view : State → V → A) {K : Reason → List ℕ → Type 0} {n : ℕ} {bd : Bound} {f : Reader A}
    → Explained paths K n bd f → 1 ≤ n → (old new : State) (r : Result V Fault) → Refines view f old new r → OnOk r (IsWithin bd new)
ends_within view h l old new (Ok v) g =
    (let p = h.goes (cursor old (g.reaches.more ++ [])) (cursor new []) (view new v) (g.reaches.refines []) in p.3 (omega (arith, p.2)))
ends_within view h l old new (Err e) g = tt
