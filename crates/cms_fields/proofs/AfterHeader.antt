-- The clauses of a call that reads fields that are never empty, so that reading them does not end where it began.
use Rattle.std.proofs.Common.{◌≡◌, ◌≢◌, ℕ, ◌+◌, ◌<◌, Bool, true, false, not, ◌&&◌, Option, None, Some, Result, Ok, Err, List, [], ◌∷◌, ◌++◌, length, refl, sym, ap, ◌∙◌, arith, length-append}
use Rattle.std.specs.Prelude.{IfOk, IfErr, OnOk}
use Rattle.cms_tlv.specs.declared.bound.Bound.{Bound}
use Rattle.cms_tlv.specs.State.{State, Answers, Succeeds, Progresses, FaultIsSticky}
use Rattle.cms_tlv.specs.Clauses.{Found}
use Rattle.cms_fields.specs.Contents.{with_end, FaultsIn}
use Rattle.cms_fields.specs.ReadingCalls.{ReadsContents}
use Rattle.cms_tlv.specs.declared.fault.Fault.{Fault}
use Rattle.cms_tlv.proofs.SourceLaws.{no_fault}
use Rattle.cms_fields.proofs.ContentsClauses.{found_in, err_in}
use Rattle.cms_tlv.specs.Spelling.{Rules, der, Spelling, IsElementBy}
use Rattle.cms_fields.specs.Grammar.{Grammar}
use Rattle.cms_tlv.proofs.Rules.{follows, not_der}
use Rattle.cms_tlv.specs.Reading.{Reader, is_at, ends_here}
use Rattle.cms_tlv.specs.Refines.{RefinesWithValue, Refines, cursor}
use Rattle.cms_tlv.specs.Law.{rules_of, EndedBy, Follows, ReadsTo}
use Rattle.cms_tlv.proofs.SpellingLaws.{element_starts, element_by}
use Rattle.std.proofs.lemmas.Bool.Decides.{Decides-eqb}

-- an element, and whatever follows
pub some_octets : (m : Rules) (id : ℕ) {b : List ℕ} (b₁ b₂ c : List ℕ) → IsElementBy m b₁ id c → b ≡ b₁ ++ b₂ → b ≢ []
some_octets m id b₁ b₂ c h s e =
    let k = element_starts (element_by m h) in
    let n : [] ≡ id ∷ (k.0 ++ b₂) = sym e ∙ s ∙ ap (λ z. z ++ b₂) k.1 in
    absurd cc

not_here : (i : Bool) (end : Option ℕ) (at : ℕ) (b o : List ℕ) → b ≢ [] → EndedBy i end at b o → (not i && is_at end at) ≡ true → ⊥
not_here true end at b o n p e = absurd cc
not_here false None at b o n p e = absurd cc
not_here false (Some x) at [] o n p e = n refl
not_here false (Some x) at (t ∷ b) o n p e =
    let here : at ≡ x = (Decides-eqb at x).0 e in
    let there : x ≡ at + length (t ∷ b) = (let q = p.1 in cc) in
    absurd (omega (arith, here, there))

some_taken : (i : Bool) (end : Option ℕ) (at : ℕ) (b o : List ℕ) → b ≢ [] → EndedBy i end at b o → 0 < length o
some_taken i end at [] o n p = absurd (n refl)
some_taken true end at (t ∷ b) o n p = omega (arith, ap length p)
some_taken false end at (t ∷ b) o n p = omega (arith, ap length p.0)

module _ {W : Type 0} {m : Rules} {S : Spelling W} {g : Bound → Reader W} (some : (b : List ℕ) (w : W) → S b w → b ≢ [])
    (h : ReadsTo m S (λ w. w) g) (inner : Bound) (i : Follows m inner) {V : Type 0} (view : State → V → W) (a b : State) where
  begins_before : {v : V} → RefinesWithValue view (g inner) a b v → ends_here inner (length a.done) ≡ true → ⊥
  begins_before k e =
      let s = h.sound inner (cursor a (k.reaches.more ++ [])) (cursor b []) _ i (k.reaches.refines []) in
      not_here inner.indefinite inner.end (length a.done) s.1 s.2 (some s.1 s.0 s.5) s.3 e

  moved : {v : W} → Found (with_end S inner (length a.done)) a b v → Succeeds a b → Progresses a b
  moved {v} f k =
      record {
        goes = k;
        some = omega (
          arith,
          ap length f.kept,
          length-append a.done f.octets,
          some_taken inner.indefinite inner.end (length a.done) f.spells.0 f.octets (some f.spells.0 v f.spells.2) f.spells.1,
        );
      }

  pub read_clear : (r : Result V Fault) → FaultIsSticky a b r → (a.fault ≡ None → Refines view (g inner) a b r)
      → OnOk r ((ends_here inner (length a.done) ≡ true → a.ahead ≡ None) → b.ahead ≡ None) → OnOk r (b.ahead ≡ None)
  read_clear (Ok v) s k n = n (λ here. absurd (begins_before (k (no_fault a b v s)) here))
  read_clear (Err e) s k n = tt

  pub read_found : (r : Result V Fault) → FaultIsSticky a b r → (a.fault ≡ None → Refines view (g inner) a b r) → OnOk r (b.ahead ≡ None)
      → IfOk r (λ v. Found (with_end S inner (length a.done)) a b (view b v))
  read_found (Ok v) s k n = found_in h inner i view a b v (k (no_fault a b v s)) n
  read_found (Err e) s k n = tt

  pub read_faults : (r : Result V Fault) → Refines view (g inner) a b r → IfErr r (FaultsIn S inner a b)
  read_faults r k = err_in h inner i view a b r k

  pub read_moved : (r : Result V Fault) → FaultIsSticky a b r → (a.fault ≡ None → Refines view (g inner) a b r) → OnOk r (b.ahead ≡ None)
      → (a.fault ≡ None → Answers a b r) → OnOk r (Progresses a b)
  read_moved (Ok v) s k n l = moved (read_found (Ok v) s k n) (l (no_fault a b v s))
  read_moved (Err e) s k n l = tt

-- All clauses of a call that reads such fields, from those of `read_after_header`.
pub reads_contents :
    {W : Type 0} (g : Grammar W) (some : (m : Rules) (b : List ℕ) (w : W) → g.spelled m b w → b ≢ [])
    (h : (m : Rules) → m ≢ der → ReadsTo m (g.spelled m) (λ w. w) g.reader) (inner : Bound) {V : Type 0} (value : List ℕ → V → W)
    (a b : State) (r : Result V Fault) → FaultIsSticky a b r → (a.fault ≡ None → Answers a b r)
    → OnOk r ((ends_here inner (length a.done) ≡ true → a.ahead ≡ None) → b.ahead ≡ None)
    → (a.fault ≡ None → Refines (λ s v. value s.done v) (g.reader inner) a b r) → ReadsContents g inner value a b r
reads_contents g some h inner value a b r sticky accounted clear refines =
    let m = rules_of inner.strict in
    let reads : ReadsTo m (g.spelled m) (λ w. w) g.reader = h m (not_der inner.strict) in
    let i = follows inner in
    let left_clear = read_clear (some m) reads inner i (λ s v. value s.done v) a b r sticky refines clear in
    record {
      sticky = sticky;
      accounted = accounted;
      ok = read_moved (some m) reads inner i (λ s v. value s.done v) a b r sticky refines left_clear accounted;
      clear = left_clear;
      refines = refines;
      found = read_found (some m) reads inner i (λ s v. value s.done v) a b r sticky refines left_clear;
      faults = λ none. read_faults (some m) reads inner i (λ s v. value s.done v) a b r (refines none);
    }
