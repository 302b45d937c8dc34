use Rattle.cms_tlv.specs.Spelling.{ber}
use Rattle.cms_canon.proofs.Prefixes.{end_themselves}
use Rattle.cms_canon.proofs.laws.messages_end_themselves.Goals as goal

pub returns-clause-frame : goal.returns-clause-frame
returns-clause-frame c b v p = (c.message_laws.ensures.is_field ber).frame b v p

pub returns-clause-one : goal.returns-clause-one
returns-clause-one c = end_themselves (c.message_laws.ensures.is_field ber)
