use Rattle.cms_setof.proofs.GrammarLaws.{lawful_some}
use Rattle.cms_setof.proofs.non_empty.NonEmptySetOfWrite.law.Goals as goal

pub returns : goal.returns
returns g c = lawful_some g.T.Write.grammar c.law.ensures
