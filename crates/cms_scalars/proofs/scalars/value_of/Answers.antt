use Rattle.cms_scalars.proofs.Slices.{are_octets}
use Rattle.cms_scalars.proofs.Values.{negative_is_none, value_is, not_negative_below}
use Rattle.cms_scalars.proofs.scalars.value_of.Goals as goal

pub returns-in-len1-up : goal.returns-in-len1-up
returns-in-len1-up c = value_is c.args.octets.now (not_negative_below _ c.if-first-lt128.true) c.number_of.result c.number_of.ensures

pub returns-in_default : goal.returns-in_default
returns-in_default c = negative_is_none c.args.octets.now (are_octets _ c.type_inv.octets) c.in-len1-up.len_at_least c.if-first-lt128.false
