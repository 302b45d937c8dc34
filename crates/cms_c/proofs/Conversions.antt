-- The DER of a message in memory, handed over.
use Rattle.std.proofs.Common.{◌≡◌, inl, inr, ℕ, List, subst}
use Rattle.cms_tlv.specs.declared.fault.Fault.TheVariants as faults
use Rattle.cms_canon.specs.Received.{KeepsReceived}
use Rattle.cms_canon.specs.Whole.{Whole}
use Rattle.cms_c.specs.declared.outcome.Outcome.{Outcome}
use Rattle.cms_c.specs.Calls.{IsAccepted, IsDerHandedOver, PutsDer}
use Rattle.cms_c.specs.Outcomes.{SaysFault}

-- the message is that of the input
pub handed_over : (m : Whole) (input before after : List ℕ) (limit : ℕ) (o : Outcome) → m.octets ≡ input → IsAccepted input limit m.value
    → PutsDer m before after o → IsDerHandedOver input limit before after o
handed_over m input before after limit o e a (inl (octets, (d, k), w)) = inl (
  octets,
  (
    record {
      read = m.value;
      spells = a.0.0;
      short = a.0.1;
      written = d.value;
      der_spells = d.spells;
      is_same = d.same;
      der_short = a.1.1 octets d;
    },
    subst (λ b. KeepsReceived b octets) e k,
  ),
  w,
)
handed_over m input before after limit o e a (inr (f, t, s, u)) = inr (faults.OutOfMemory, tt, subst (λ x. SaysFault x o) t s, u)
