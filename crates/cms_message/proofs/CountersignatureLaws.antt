-- The countersignatures at the last depth, of which there are none.
use Rattle.cms_tlv.specs.RefusalReasons.{Explained, says_nothing}
use Rattle.cms_tlv.proofs.Why.{made_explained, peeked_explained, branch_explained, fewer, close_explained, entered_refused}
use Rattle.std.proofs.Common.{◌≡◌, bytes_eq, inl, inr, ℕ, ◌+◌, Bool, true, false, cond, List, [], ◌∷◌, length, Option, None, refl, sym, ap, subst, ◌∙◌}
use Rattle.std.specs.List.{AllZip}
use Rattle.cms_tlv.specs.declared.fault.Reason.TheVariants.{Truncated, CountersignTooDeep}
use Rattle.cms_tlv.specs.declared.bound.Bound.{Bound}
use Rattle.cms_tlv.specs.Spelling.{Rules, ber, minimal, der, join}
use Rattle.cms_tlv.specs.Reading.{Cursor, stop, Reader, ◌>>=◌, give, refuse, may_be, peek_of, enter_of, close_of}
use Rattle.cms_tlv.specs.Clauses.{Room}
use Rattle.cms_tlv.specs.State.{State}
use Rattle.cms_tlv.specs.Refines.{Simulates, RefinesWithValue, plain}
use Rattle.cms_tlv.specs.Law.{CutField, Ended, IsContents, ReadsTo}
use Rattle.cms_tlv.proofs.Bind.{reaches_bind}
use Rattle.cms_tlv.proofs.SpellingLaws.{members_contents}
use Rattle.cms_tlv.proofs.Inverse.{okay, bad, branch, bind_ok, bind_err, bound_again}
use Rattle.cms_tlv.proofs.Elements.{enter_cut}
use Rattle.cms_tlv.proofs.Ends.{close_complete, ends_reads, peek_same, peek_end, peek_cut}
use Rattle.cms_tlv.proofs.Sequences.{cut_first}
use Rattle.cms_fields.specs.Canonical.{IsByDer}
use Rattle.cms_fields.specs.Readers.{Begins}
use Rattle.cms_fields.specs.Sinks.{Taking, TakingLaws, Emits}
use Rattle.cms_setof.proofs.SameLaws.{members_equiv}
use Rattle.cms_message.specs.Countersignatures.{too_deep_of, no_countersignatures_of, no_countersignatures}

-- the empty set alone is spelled, by no octets
pub none_spelled : (m : Rules) → no_countersignatures.spelled m [] []
none_spelled ber = ([], refl, tt, tt)
none_spelled minimal = ([], refl, tt, tt)
none_spelled der = ([], refl, tt, tt)

only_none : (m : Rules) (b : List ℕ) (vs : List ⊥) → no_countersignatures.spelled m b vs → (b ≡ []) × (vs ≡ [])
only_none m b [] s = (s.1 ∙ none_joined s.0 s.2, refl)
  where
    none_joined : (bs : List (List ℕ)) → AllZip {A = List ℕ} {B = ⊥} (λ b v. ⊥) bs [] → join bs ≡ []
    none_joined [] z = refl
    none_joined (c ∷ bs) z = absurd z
only_none m b (v ∷ vs) s = absurd v

pub none_contents : (m : Rules) → IsContents (no_countersignatures.spelled m)
none_contents m = members_contents {P = λ t. ⊥} (record { frame = λ b v r. absurd r; starts = λ b v r. absurd r; same = λ b v w r q. absurd r }) m

pub none_begins : {P : ℕ → Type 0} (m : Rules) → Begins P (no_countersignatures.spelled m)
none_begins m = record { begins = λ b vs t r s e. absurd (let z : [] ≡ t ∷ r = sym (only_none m b vs s).0 ∙ e in cc) }

pub none_by_der : IsByDer no_countersignatures.same no_countersignatures.spelled
none_by_der = record {
  within = λ b vs s. (s.0, s.1, s.2, tt);
  canonical = record { alike = λ b c vs ws s t. alike b c vs ws (only_none der b vs s) (only_none der c ws t) };
  equivalence = members_equiv (record { refl = λ v. absurd v; symm = λ v w. absurd v; congr = λ v w u e. absurd v });
}
  where
    alike : (b c : List ℕ) (vs ws : List ⊥) → (b ≡ []) × (vs ≡ []) → (c ≡ []) × (ws ≡ []) → bytes_eq b c ≡ no_countersignatures.same vs ws
    alike b c vs ws (p, q) (r, s) = rw (p, q, r, s) refl

abbrev ended : Bound → Reader (List ⊥)
ended bd = close_of bd >>= λ u. give []

too_deep_not : {A : Type 0} (bd : Bound) (c d : Cursor) (v : A) → too_deep_of bd c ≡ okay (v, d) → ⊥
unfolding too_deep_of
too_deep_not bd c d v e = let s = bind_ok (enter_of 0x30 bd) (λ inner. refuse CountersignTooDeep) c e in (let z = s.3 in cc)

too_deep_cut : {A : Type 0} (bd : Bound) (c : Cursor) {at : ℕ} → too_deep_of {A = A} bd c ≡ bad (stop Truncated at)
    → CutField c.rest × Room bd.end c.limit c.at (length c.rest + 1)
unfolding too_deep_of
too_deep_cut bd c e = elim (bind_err (enter_of 0x30 bd) (λ inner. refuse CountersignTooDeep) c e) [
  | inl x ↦ enter_cut 0x30 bd c x
  | inr x ↦ absurd (let z = x.3 in cc)
]

abbrev any : ℕ → Bool
any t = true

pub none_reads : {m : Rules} → ReadsTo m (no_countersignatures.spelled m) (λ vs. vs) no_countersignatures_of
unfolding no_countersignatures_of
none_reads {m = m} = record {
  sound = λ bd c d a i e.
      let s = bind_ok (peek_of bd) _ c e in
      let at = peek_same bd c s.1 s.0 s.2 in
      elim (branch (may_be any s.0) (too_deep_of bd) (ended bd) s.1 (okay (a, d)) s.3) [
        | inl x ↦ absurd (too_deep_not bd s.1 d a x.1)
        | inr x ↦
            let n = (ends_reads {m = m} []).sound bd c d a i (ap (ended bd) at ∙ x.1) in
            ([], n.1, n.2, n.3, n.4, subst (λ b. no_countersignatures.spelled m b []) (sym n.5) (none_spelled m), n.6)
      ];
  complete = λ bd c d b o w i p s e room.
      let z = only_none m b w s in
      let here = subst (λ t. Ended bd c.at t o) z.0 e in
      bound_again (peek_of bd) _ c None c (peek_end bd c d o here p room)
      ∙ (bound_again (close_of bd) _ c tt d (close_complete bd c d o here p room) ∙ ap (λ t. okay (t, d)) (sym z.1));
  cut = λ bd c at i e. elim (bind_err (peek_of bd) _ c e) [
    | inl x ↦ let y = peek_cut bd c x in ((λ _. cut_first y.0), y.1)
    | inr s ↦
        let here = peek_same bd c s.1 s.0 s.2 in
        elim (branch (may_be any s.0) (too_deep_of bd) (ended bd) s.1 (bad (stop Truncated at)) s.3) [
          | inl x ↦ let y = too_deep_cut bd c (ap (too_deep_of bd) here ∙ x.1) in ((λ _. cut_first y.0), y.1)
          | inr x ↦ (ends_reads {m = m} []).cut bd c at i (ap (ended bd) here ∙ x.1)
        ]
  ];
}

-- The exits of its reader, after the look at the next octet.
module _ (bd : Bound) {a b : State} {o : Option ℕ} (next : RefinesWithValue plain (peek_of bd) a b o) where
  pub is_too_deep : may_be any o ≡ true → Simulates (no_countersignatures_of bd) a (too_deep_of bd) b
  unfolding no_countersignatures_of
  is_too_deep t = subst (λ r. Simulates (no_countersignatures_of bd) a r b) (ap (λ k. cond k (too_deep_of bd) (ended bd)) t) (reaches_bind _ next.reaches)

  pub is_end : may_be any o ≡ false → Simulates (no_countersignatures_of bd) a (close_of bd >>= λ u. give []) b
  unfolding no_countersignatures_of
  is_end t = subst (λ r. Simulates (no_countersignatures_of bd) a r b) (ap (λ k. cond k (too_deep_of bd) (ended bd)) t) (reaches_bind _ next.reaches)

pub none_emits : {S : Type 0} {t : Taking S} → TakingLaws t → (k : List ℕ) (a : S)
    → Emits t (no_countersignatures.spelled der) no_countersignatures.assembled no_countersignatures.same [] k a a
none_emits laws k a = record {
  octets = [];
  put = laws.nothing k a;
  written = record { value = []; spells = none_spelled der; same = refl };
  assembled = record { value = []; assembles = ([], refl, tt, tt); same = refl };
  each = λ b w. ap length (only_none der b w.value w.spells).0;
}

-- The octets before a refusal say why.
pub none_told : {paths : Bool} (bd : Bound) → Explained paths says_nothing 0 bd (no_countersignatures_of bd)
unfolding no_countersignatures_of too_deep_of
none_told bd =
    peeked_explained _ (λ o. branch_explained _ (may_be (λ t. true) o)
    (fewer _ (entered_refused _ 0x30 bd CountersignTooDeep (λ limit at. tt)))
    (made_explained _ (λ u. []) (close_explained _ bd)))
