use Rattle.std.proofs.Common.{refl, rules}
use Rattle.cms_canon.proofs.rest.has_more.Goals as goal

pub returns-in-Err-clause-fault : goal.returns-in-Err-clause-fault
returns-in-Err-clause-fault g c = (refl, search rules, search rules)
