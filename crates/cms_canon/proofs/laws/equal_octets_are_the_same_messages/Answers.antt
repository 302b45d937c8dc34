use Rattle.cms_tlv.specs.Spelling.{ber}
use Rattle.cms_canon.proofs.ManyLaws.{to_same, to_equal, none_in_nothing}
use Rattle.cms_canon.proofs.laws.equal_octets_are_the_same_messages.Goals as goal

pub returns-clause-same : goal.returns-clause-same
returns-clause-same c limit cs ds h k = (
  to_same (c.message_laws.ensures.is_field ber) c.message_laws.ensures.by_der limit cs ds h k,
  to_equal (c.message_laws.ensures.is_field ber) c.message_laws.ensures.by_der limit cs ds h k,
)

pub returns-clause-none : goal.returns-clause-none
returns-clause-none c limit = none_in_nothing (c.message_laws.ensures.is_field ber) c.message_laws.ensures.by_der limit
