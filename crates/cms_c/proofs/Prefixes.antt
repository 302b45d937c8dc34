-- Messages that were read from memory, and written to it.
use Rattle.std.proofs.Common.{◌≡◌, ◌<◌, ◌≤◌, inl, inr, ℕ, ◌+◌, ◌-◌, List, [], ◌∷◌, ◌++◌, length, length-append, append_assoc, Option, Some, None, Result, Ok, Err, IfOk, refl, subst, ap, sym, ◌∙◌, arith}
use Rattle.std.proofs.lemmas.List.Elements.{All-nil, All-cons, All-head, All-tail}
use Rattle.std.specs.List.{All}
use Rattle.std.specs.Io.KnownBytes.{Consumes}
use Rattle.cms_tlv.specs.declared.fault.Fault.TheVariants as faults
use Rattle.cms_tlv.specs.declared.fault.Reason.{Reason}
use Rattle.cms_tlv.specs.declared.fault.Reason.TheVariants as reasons
use Rattle.cms_tlv.specs.Law.{IsField}
use Rattle.cms_tlv.specs.Spelling.{ber}
use Rattle.cms_canon.specs.Exact.{ExactFaults, IsFirst}
use Rattle.cms_canon.specs.Given.{second_part}
use Rattle.cms_canon.specs.Kinds.{whole_message}
use Rattle.cms_canon.specs.Many.{Conversion, IsBegun, IsFaithful, messages_of, ders_of, StopsAt, ManyFaults}
use Rattle.cms_canon.specs.Messages.{IsDerOf, IsRead, IsRefused}
use Rattle.cms_canon.specs.Received.{KeepsReceived}
use Rattle.cms_canon.specs.Streams.{since}
use Rattle.cms_canon.specs.Whole.{Whole}
use Rattle.cms_canon.specs.declared.many.ManyFault.{ManyFault}
use Rattle.cms_canon.specs.declared.message.Tail.TheVariants.{Leave}
use Rattle.cms_tlv.specs.declared.fault.Fault.{Fault}
use Rattle.cms_c.specs.Calls.{of_memory, IsFirstRefusal}
use Rattle.cms_c.specs.Many.{ArePrefix, AreReported, AreReportedAfter}
use Rattle.cms_c.specs.declared.many.Many.{Many}

-- After messages in memory, the next one is refused.
record NextRefused (input left : List ℕ) (limit : ℕ) (cs : List Conversion) (reason : Reason) (at : ℕ) : Type 0 where
  pub rest : List ℕ
  pub begins : input ≡ messages_of cs ++ rest
  pub refused : IsFirstRefusal Leave rest limit reason at
  pub length_is : length rest ≡ at + length left

next_refused : (input left : List ℕ) (limit : ℕ) (cs : List Conversion) (reason : Reason) (at : ℕ) (mid : Option (List ℕ)) (failures : ℕ)
    → Consumes (Some input) mid (messages_of cs) → ExactFaults (second_part (of_memory input left) mid failures) limit Leave
    (faults.Refused reason at) → NextRefused input left limit cs reason at
next_refused input left limit cs reason at None failures taken refused = absurd taken
next_refused input left limit cs reason at (Some rest) failures taken (refused, first) = record {
  rest = rest;
  begins = taken;
  refused = (
    left,
    record {
      octets = refused.octets;
      taken = refused.taken;
      place = refused.place;
      unfailed = refl;
      refusal = refused.refusal;
    },
    record { octets = first.octets; taken = first.taken; place = first.place; first = first.first },
  );
  length_is = ap length refused.taken ∙ length-append refused.octets left ∙ ap (λ n. n + length left) (sym refused.place);
}

-- what was written to memory that was empty, up to a refusal
pub up_to_refusal : (input left before octets : List ℕ) (fails failed limit : ℕ) (f : ManyFault) (reason : Reason) (at : ℕ) → before ≡ []
    → f.fault ≡ faults.Refused reason at → ManyFaults (of_memory input left) (since (Some before) fails (Some octets) failed) limit f
    → ArePrefix input limit f.done (length input - length left - at) octets (Some f.fault)
up_to_refusal input left before octets fails failed limit f reason at none e h =
    let s = subst (λ x. StopsAt (of_memory input left) (since (Some before) fails (Some octets) failed) limit h.conversions f.written x) e h.stops in
    rw e (elim s.2 [
      | inl a ↦
          let n = next_refused input left limit h.conversions reason at a.left 0 a.taken a.faults in
          record {
            conversions = h.conversions;
            rest = n.rest;
            are = h.are;
            begins = n.begins;
            ends = (n.refused, a.begun);
            count = h.done;
            length_is = let l = ap length n.begins ∙ length-append (messages_of h.conversions) n.rest in omega (arith, l, n.length_is);
            written = s.0.0 ∙ ap (λ b. b ++ ders_of h.conversions) none;
          }
      | inr k ↦ absurd (let x = k.0 in cc)
    ])

begun_after_one : (reason : Reason) (at : ℕ) → (reason ≡ reasons.Truncated → 0 < at) → IsBegun (faults.Refused reason at)
begun_after_one reasons.Truncated at h = h refl
begun_after_one reason at h = tt

-- the first message of an input that is not empty is refused
pub first_refused : (input left : List ℕ) (limit : ℕ) (reason : Reason) (at : ℕ) → 0 < length input
    → IsRefused (of_memory input left) limit Leave reason at → IsFirst (of_memory input left) limit Leave reason at
    → ArePrefix input limit 0 0 [] (Some (faults.Refused reason at))
first_refused input left limit reason at some refused first = record {
  conversions = [];
  rest = input;
  are = All-nil (IsFaithful limit);
  begins = refl;
  ends = ((left, refused, first), begun_after_one reason at begun);
  count = refl;
  length_is = refl;
  written = refl;
}
  where
    begun : reason ≡ reasons.Truncated → 0 < at
    begun e =
        let none = (refused.refusal.truncated e).1 in
        let all = ap length refused.taken ∙ length-append refused.octets left in
        omega (arith, all, ap length none, refused.place, some)

-- a message comes before others
pub with_first : (m : Whole) (input rest der octets : List ℕ) (limit messages read : ℕ) (refusal : Option Fault)
    → IsRead (of_memory input rest) limit Leave m → ArePrefix rest limit messages read octets refusal → IsDerOf m.value der
    → KeepsReceived m.octets der → ArePrefix input limit (messages + 1) (length m.octets + read) (der ++ octets) refusal
with_first m input rest der octets limit messages read refusal r p d k = record {
  conversions = record { message = m.octets; der = der } ∷ p.conversions;
  rest = p.rest;
  are = All-cons (IsFaithful limit) (record { message = m.octets; der = der }) p.conversions
      (record {
        is_written = record {
          read = m.value;
          spells = r.message.0;
          short = r.message.1;
          written = d.value;
          der_spells = d.spells;
          is_same = d.same;
          der_short = r.writable.1 der d;
        };
        received = k;
      }) p.are;
  begins = r.taken ∙ ap (λ t. m.octets ++ t) p.begins ∙ sym (append_assoc m.octets (messages_of p.conversions) p.rest);
  ends = p.ends;
  count = omega (arith, p.count);
  length_is = ap (λ n. length m.octets + n) p.length_is ∙ sym (length-append m.octets (messages_of p.conversions));
  written = ap (λ t. der ++ t) p.written;
}

-- no message is empty
few_messages : {P : ℕ → Type 0} (limit : ℕ) (cs : List Conversion) → IsField P (whole_message ber) → All (IsFaithful limit) cs
    → length cs ≤ length (messages_of cs)
few_messages limit [] f h = omega arith
few_messages limit (c ∷ cs) f h =
    let k = All-head (IsFaithful limit) c cs h in
    let s = f.starts c.message k.is_written.read k.is_written.spells in
    let more = few_messages limit cs f (All-tail (IsFaithful limit) c cs h) in
    omega (arith, ap length s.2, more, length-append c.message (messages_of cs))

-- a message and those after it are counted by no more than the length of the input
pub counts_fit : {P : ℕ → Type 0} (m : Whole) (input rest octets : List ℕ) (limit messages read : ℕ) (refusal : Option Fault)
    → IsField P (whole_message ber) → IsRead (of_memory input rest) limit Leave m → ArePrefix rest limit messages read octets refusal
    → (messages ≤ length input) × (length m.octets + read ≤ length input)
counts_fit m input rest octets limit messages read refusal f r p =
    let few = few_messages limit p.conversions f p.are in
    let others = ap length p.begins ∙ length-append (messages_of p.conversions) p.rest in
    let all = ap length r.taken ∙ length-append m.octets rest in
    (omega (arith, few, p.count, others, all), omega (arith, p.length_is, others, all))

-- a message that was read and those after it are reported
pub after_first : {E : Type 0} (m : Whole) (input rest others before after : List ℕ) (limit messages read : ℕ) (refusal : Option Fault)
    (result : Result Many E) → IsRead (of_memory input rest) limit Leave m → ArePrefix rest limit messages read others refusal
    → IfOk result (λ x. AreReportedAfter m refusal others before after x.outcome) → IfOk result (λ x. x.messages ≡ messages + 1)
    → IfOk result (λ x. x.read ≡ length m.octets + read) → IfOk result (AreReported input limit before after)
after_first m input rest others before after limit messages read refusal (Ok x) r p (der, d, k, w) e l = (
  der ++ others,
  refusal,
  rw (e, l) (with_first m input rest der others limit messages read refusal r p d k),
  w,
)
after_first m input rest others before after limit messages read refusal (Err x) r p o e l = tt
