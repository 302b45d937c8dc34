use Rattle.std.proofs.Common.{inl, inr, ℕ, List, Option, Some, None}
use Rattle.std.proofs.lemmas.Result.{IfErr-weaker}
use Rattle.cms_tlv.specs.declared.fault.Fault.TheVariants as faults
use Rattle.cms_canon.specs.Kinds.{MessageValue}
use Rattle.cms_c.specs.declared.digests.Digest.{Digest}
use Rattle.cms_c.specs.declared.outcome.Lack.{Lack}
use Rattle.cms_c.specs.declared.outcome.Lack.TheVariants as lacks
use Rattle.cms_c.specs.Calls.{IsAccepted}
use Rattle.cms_c.specs.Digests.{FailsByDigests, IfGiven, LacksForFindings}
use Rattle.cms_c.proofs.digests.checked.Goals as goal

refuted : (Lacking : List Digest → Type 0) → ((ds : List Digest) → Lacking ds → ⊥) → (given : Option (List Digest)) → IfGiven Lacking given → ⊥
refuted Lacking never None h = h
refuted Lacking never (Some ds) h = never ds h

-- what a message lacks, of the input that is this message
lacks_of_input : (input : List ℕ) (limit : ℕ) (content stamped : Option (List Digest)) (v : MessageValue) → IsAccepted input limit v
    → (l : Lack) → LacksForFindings v content stamped l → FailsByDigests input limit content stamped l
lacks_of_input input limit content stamped v a (lacks.Fault faults.OutOfMemory) h = tt
lacks_of_input input limit content stamped v a (lacks.Fault (faults.Refused reason at)) (inl h) = absurd (refuted _ (λ ds x. x.1) content h)
lacks_of_input input limit content stamped v a (lacks.Fault (faults.Refused reason at)) (inr h) = absurd (refuted _ (λ ds x. x.2) stamped h.1)
lacks_of_input input limit content stamped v a (lacks.Fault faults.Read) (inl h) = absurd (refuted _ (λ ds x. x.1) content h)
lacks_of_input input limit content stamped v a (lacks.Fault faults.Read) (inr h) = absurd (refuted _ (λ ds x. x.2) stamped h.1)
lacks_of_input input limit content stamped v a (lacks.Fault (faults.Write written)) (inl h) = absurd (refuted _ (λ ds x. x.1) content h)
lacks_of_input input limit content stamped v a (lacks.Fault (faults.Write written)) (inr h) = absurd (refuted _ (λ ds x. x.2) stamped h.1)
lacks_of_input input limit content stamped v a lacks.NoSignedData h = (v, a, h)
lacks_of_input input limit content stamped v a lacks.NoSigner h = (v, a, h)
lacks_of_input input limit content stamped v a lacks.NoContent h = (v, a, h)
lacks_of_input input limit content stamped v a lacks.NoTstInfo h = (v, a, h)
lacks_of_input input limit content stamped v a lacks.NoDigest h = (v, a, h)
lacks_of_input input limit content stamped v a lacks.NeedsContent h = (v, a, h)

pub returns-in-Ok-clause-err : goal.returns-in-Ok-clause-err
returns-in-Ok-clause-err c =
    IfErr-weaker c.found_in.result _ _ (lacks_of_input c.args.input.now _ _ _ c.in-Ok.message.value c.in-Ok.ensures.ok) c.found_in.ensures.err
