use Rattle.std.proofs.Common.{List, Option, inl, subst, ℕ, Some}
use Rattle.cms_tlv.specs.Spelling.{ber}
use Rattle.cms_canon.specs.Covering.{CoversAttributes, cover_at}
use Rattle.cms_canon.specs.Kinds.{MessageValue, whole_message}
use Rattle.cms_c.specs.Calls.{IsCoverOfInput, Yields}
use Rattle.cms_c.specs.Outcomes.{IsDelivered}
use Rattle.cms_c.proofs.cover.cms_canon_cover.Goals as goal

of_input : (input : List ℕ) (limit : ℕ) (path : List ℕ) (detached : Option (List ℕ)) (octets : List ℕ)
    → ((v : MessageValue) → whole_message ber input v → CoversAttributes input v path (cover_at v path detached))
    → Yields input limit (λ v. cover_at v path detached) (Some (Some (Some octets))) → IsCoverOfInput input limit path detached octets
of_input input limit path detached octets law y = (y.0, y.1, y.2, subst (CoversAttributes input y.0 path) y.2 (law y.0 y.1.0.0))

pub returns-in-Ok : goal.returns-in-Ok
returns-in-Ok c = inl (
  c.in-Ok.octets.items,
  rw (← c.passed-detached.ensures) (of_input _ _ _ _ _ (λ v s. c.signed_attributes_lie_in_the_message.ensures ber _ v _ _ s) c.in-Ok.ensures.ok),
  subst (λ o. IsDelivered o c.args.output.now c.delivered.new.output c.delivered.result) c.deref.ensures.value c.delivered.ensures,
)
