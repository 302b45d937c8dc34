use Rattle.cms_setof.proofs.GrammarLaws.{lawful_set}
use Rattle.cms_setof.proofs.set.SetOfWrite.law.Goals as goal

pub returns : goal.returns
returns g c = lawful_set _ c.law.ensures
