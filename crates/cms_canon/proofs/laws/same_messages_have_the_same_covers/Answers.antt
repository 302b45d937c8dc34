use Rattle.std.proofs.Common.{ℕ, List, bytes_eq, refl, sym}
use Rattle.cms_fields.proofs.ReceivedLaws.{keeps_either}
use Rattle.cms_message.specs.Cover.{same_covered}
use Rattle.cms_canon.proofs.ReceivedLaws.{requested_kept, imprint_kept, content_kept, covers_kept}
use Rattle.cms_canon.proofs.laws.same_messages_have_the_same_covers.Goals as goal

pub returns-clause-same : goal.returns-clause-same
returns-clause-same c m n b d v w r s e =
    let law = c.law.ensures.field refl in
    let p = law.is_value m b v r in
    let q = law.is_value n d w s in
    let counts =
    keeps_either c.received_octets_are_kept.ensures.counted (keeps_either c.request_octets_are_kept.ensures.counted
    c.response_octets_are_kept.ensures.counted) in
    record {
      counted = λ (z : List ℕ). counts.counted v w p q e (bytes_eq z);
      content = content_kept c.received_octets_are_kept.ensures.content v w p q e;
      covered = λ detached x. covers_kept detached (c.received_octets_are_kept.ensures.covers detached) v w p q e (same_covered x);
    }

pub returns-clause-imprint : goal.returns-clause-imprint
returns-clause-imprint c m n b d v w i r s e =
    let law = c.law.ensures.field refl in
    let content = content_kept c.received_octets_are_kept.ensures.content v w (law.is_value m b v r) (law.is_value n d w s) e in
    let request = requested_kept c.request_octets_are_kept.ensures.imprint v w e in
    (imprint_kept v w i content request, imprint_kept w v i (sym content) (sym request))
