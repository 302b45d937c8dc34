use Rattle.cms_scalars.proofs.GrammarLaws.{lawful_default_false}
use Rattle.cms_scalars.proofs.defaults.DefaultFalseThenWrite.law.Goals as goal

pub returns : goal.returns
returns g c = lawful_default_false _ c.law-2.ensures
