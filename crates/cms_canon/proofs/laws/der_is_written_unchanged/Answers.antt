use Rattle.std.proofs.Common.{refl}
use Rattle.cms_tlv.specs.Spelling.{ber}
use Rattle.cms_canon.proofs.Headline.{der_unchanged}
use Rattle.cms_canon.proofs.MessageLaws.{message_kind}
use Rattle.cms_canon.proofs.laws.der_is_written_unchanged.Goals as goal

pub returns-clause-accepted : goal.returns-clause-accepted
returns-clause-accepted c = der_unchanged (message_kind (c.message_laws.ensures.is_field ber) c.message_laws.ensures.by_der)

pub returns-clause-before_more : goal.returns-clause-before_more
returns-clause-before_more c limit o rest v d l =
    c.what_is_written_is_written_again.ensures.before_more limit o o rest
    (der_unchanged (message_kind (c.message_laws.ensures.is_field ber) c.message_laws.ensures.by_der) limit o v d l)

pub returns-clause-ber : goal.returns-clause-ber
returns-clause-ber c o v d = c.message_laws.ensures.by_der.within o v d

pub returns-clause-accepts : goal.returns-clause-accepts
returns-clause-accepts c limit o v d l =
    (o, der_unchanged (message_kind (c.message_laws.ensures.is_field ber) c.message_laws.ensures.by_der) limit o v d l, refl)
