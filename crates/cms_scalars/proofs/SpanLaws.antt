-- A span that shows some octets lies in what was kept.
use Rattle.std.proofs.Common.{◌≡◌, ◌≢◌, ℕ, ◌<◌, ◌≤◌, inl, inr, ◌⊎◌, Bool, true, false, List, [], length, Result, Ok, Err, refl, ◌∙◌, ◌&&◌}
use Rattle.std.specs.Prelude.{IfOk, nat_le}
use Rattle.std.proofs.lemmas.Bool.{cases_lt}
use Rattle.cms_tlv.proofs.Inverse.{leb_no}
use Rattle.cms_tlv.specs.declared.fault.Fault.{Fault}
use Rattle.cms_tlv.specs.declared.span.Span.{Span}
use Rattle.cms_tlv.specs.State.{State}
use Rattle.cms_tlv.specs.Spans.{octets_in, LiesIn}
use Rattle.cms_tlv.specs.Spelling.{Rules, element}
use Rattle.cms_tlv.specs.Refines.{seen}
use Rattle.cms_tlv.specs.Clauses.{Found}
use Rattle.cms_fields.specs.Received.{as_received}

and_no : (b : Bool) → (b && false) ≡ false
and_no true = refl
and_no false = refl

lies : (k : List ℕ) (s e : ℕ) → octets_in k s e ≢ [] → (s ≤ e) × (e ≤ length k)
lies k s e n = (order (cases_lt e s), within (cases_lt (length k) e))
  where
    order : (e < s) ⊎ (s ≤ e) → s ≤ e
    order (inl l) = absurd (n (rw (leb_no s e l) refl))
    order (inr h) = h

    within : (length k < e) ⊎ (e ≤ length k) → e ≤ length k
    within (inl l) = absurd (n (rw (leb_no e (length k) l, and_no (nat_le s e)) refl))
    within (inr h) = h

pub lies_in : {V : Type 0} {P : List ℕ → Type 0} (m : Rules) (id : ℕ) → ((c : List ℕ) → P c → c ≢ [])
    → (span : V → Span) (a b : State) (r : Result V Fault) → IfOk r (λ v. Found (element m id (as_received P)) a b (seen b (span v)))
    → IfOk r (λ v. LiesIn (span v) b)
lies_in m id some span a b (Ok v) f = lies b.done (span v).start (span v).end (λ e. some f.spells.0 f.spells.2.1 (f.spells.2.0 ∙ e))
lies_in m id some span a b (Err e) f = tt
