use Rattle.std.proofs.Common.{◌<◌, subst}
use Rattle.cms_tlv.specs.Spelling.{Rules, ber, der}
use Rattle.cms_canon.proofs.ReceivedLaws.{message_parts}
use Rattle.cms_canon.proofs.laws.message_octets_are_kept.Goals as goal

pub returns : goal.returns
returns c b o v w r s e =
    let parts =
    λ (m : Rules). message_parts m (c.received_octets_are_kept.ensures.are_parts m) (c.request_octets_are_kept.ensures.are_parts m)
    (c.response_octets_are_kept.ensures.are_parts m) in
    let kept = c.same_messages_have_the_same_covers.ensures.same ber der b o v w r s e in
    record {
      read = v;
      spells = r;
      written = w;
      der_spells = s;
      kept = kept;
      are_parts = λ z h. ((parts ber).are_parts b v r z h, (parts der).are_parts o w s z (subst (λ n. 0 < n) (kept.counted z) h));
    }
