use Rattle.cms_tlv.specs.Spelling.{ber}
use Rattle.cms_canon.proofs.MessageLaws.{message_kind}
use Rattle.cms_canon.proofs.SamenessLaws.{other_lengths, by_octets, written_alone}
use Rattle.cms_canon.proofs.sameness.same_messages.Goals as goal

pub returns-then-encoded_len : goal.returns-then-encoded_len
returns-then-encoded_len c =
    other_lengths (message_kind (c.message_laws.ensures.is_field ber) c.message_laws.ensures.by_der) _ _ _ _ c.encoded_len.type_inv
    c.encoded_len-2.type_inv c.encoded_len.ensures c.encoded_len-2.ensures c.if-encoded_len.true

pub returns-then-is_der-2 : goal.returns-then-is_der-2
returns-then-is_der-2 c =
    rw (c.eq.ensures, c.octets.ensures, c.octets-then-is_der-2.ensures)
    (by_octets (message_kind (c.message_laws.ensures.is_field ber) c.message_laws.ensures.by_der) _ _ _ _
    (c.is_der.ensures c.if-is_der.true) (c.is_der-then-is_der.ensures c.if-is_der-2.true))

pub returns : goal.returns
returns c =
    let first = written_alone _ _ _ c.in_ok-put_message.ensures.ok c.new-first_der.ensures.items in
    let second = written_alone _ _ _ c.in_ok-put_message-2.ensures.ok c.new-second_der.ensures.items in
    rw (c.eq-2.ensures, c.as_slice.ensures.value, c.as_slice-2.ensures.value)
    (by_octets (message_kind (c.message_laws.ensures.is_field ber) c.message_laws.ensures.by_der) _ _ _ _ first second)
