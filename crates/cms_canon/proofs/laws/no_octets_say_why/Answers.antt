use Rattle.cms_canon.proofs.Reasons.{none_say}
use Rattle.cms_canon.proofs.laws.no_octets_say_why.Goals as goal

pub returns : goal.returns
returns c = none_say
