-- What was read and written where the octets are known.
use Rattle.std.proofs.Common.{◌≡◌, inl, inr, arith, ℕ, List, [], Some, true, Result, Ok, IfOk, refl, sym, ap, subst, ◌∙◌, ◌++◌}
use Rattle.cms_tlv.specs.declared.fault.Fault.{Fault}
use Rattle.std.proofs.lemmas.List.{append-nil}
use Rattle.cms_tlv.specs.Spelling.{ber, der}
use Rattle.cms_canon.specs.declared.message.Tail.TheVariants.{Refuse}
use Rattle.cms_canon.specs.declared.convert.Done.{Done}
use Rattle.cms_canon.specs.Conversions.{IsCanonicalised}
use Rattle.cms_canon.specs.Denotes.{IsAcceptedAs}
use Rattle.cms_canon.specs.Kinds.{MessageValue, whole_message, same_message}
use Rattle.cms_canon.specs.Received.{KeepsReceived}
use Rattle.cms_fields.specs.Writing.{Writes}
use Rattle.cms_tlv.specs.declared.fault.Fault.TheVariants as faults
use Rattle.cms_canon.specs.Messages.{IsRead, MessageFaults, FaultOf}
use Rattle.cms_canon.specs.Streams.{between}
use Rattle.cms_canon.specs.Whole.{Whole}

-- the input was one message, and the output is what is written for it
pub of_memory : (input rest output : List ℕ) (a b c d limit : ℕ) (done : Done)
    → IsCanonicalised (record { left_before = Some input; left_after = Some rest; failures_before = a; failures_after = b })
    (record { contents_before = Some []; contents_after = Some output; failures_before = c; failures_after = d }) limit Refuse done
    → IsAcceptedAs whole_message same_message limit input output
of_memory input rest output a b c d limit done h =
    let all : h.message.octets ≡ input = sym (h.is_read.taken ∙ ap (λ t. h.message.octets ++ t) (h.is_read.ended refl) ∙ append-nil h.message.octets) in
    rw (← all, h.written_all.0) h.is_written

-- the input was one message, and the output is its DER
pub of_message : (input rest before output : List ℕ) (limit : ℕ) (m : Whole) → IsRead (between (Some input) 0 (Some rest) 0) limit Refuse m
    → before ≡ [] → Writes (whole_message der) same_message m.value before output → IsAcceptedAs whole_message same_message limit input output
of_message input rest before output limit m h none w =
    let all : m.octets ≡ input = sym (h.taken ∙ ap (λ t. m.octets ++ t) (h.ended refl) ∙ append-nil m.octets) in
    rw (← all, w.appended, none) record {
      read = m.value;
      spells = h.message.0;
      short = h.message.1;
      written = w.written.value;
      der_spells = w.written.spells;
      is_same = w.written.same;
      der_short = h.writable.1 w.octets w.written;
    }

-- what was read of a reader of the input
pub read_of : (input given rest : List ℕ) (limit : ℕ) (m : Whole) (r : Result Whole Fault) → given ≡ input → r ≡ Ok m
    → IfOk r (IsRead (between (Some given) 0 (Some rest) 0) limit Refuse) → IsRead (between (Some input) 0 (Some rest) 0) limit Refuse m
read_of input given rest limit m r e is h =
    subst (λ o. IsRead (between (Some o) 0 (Some rest) 0) limit Refuse m) e
    (subst (λ x. IfOk x (IsRead (between (Some given) 0 (Some rest) 0) limit Refuse)) is h)

-- what a fault of reading them says of octets in memory
pub fault_of : (limit : ℕ) (b given rest : List ℕ) (f : Fault) → given ≡ b
    → MessageFaults (between (Some given) 0 (Some rest) 0) limit Refuse f → FaultOf limit b f
fault_of limit b given rest (faults.Refused reason at) e h = (
  h.octets,
  rest,
  sym e ∙ h.taken,
  h.place,
  record {
    truncated = h.refusal.truncated;
    hopeless = h.refusal.hopeless;
    why = h.refusal.why;
  },
)
fault_of limit b given rest faults.Read e (inl n, t) = absurd (omega arith)
fault_of limit b given rest faults.Read e (inr n, t) = absurd (omega arith)
fault_of limit b given rest (faults.Write written) e h = h
fault_of limit b given rest faults.OutOfMemory e h = tt

-- what is opaque is kept
pub kept_of :
    ((b o : List ℕ) (v w : MessageValue) → whole_message ber b v → whole_message der o w → same_message v w ≡ true → KeepsReceived b o)
    → (limit : ℕ) (b o : List ℕ) → IsAcceptedAs whole_message same_message limit b o → KeepsReceived b o
kept_of law limit b o h = law b o h.read h.written h.spells h.der_spells h.is_same
