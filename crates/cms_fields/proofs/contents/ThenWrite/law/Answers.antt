use Rattle.cms_fields.proofs.GrammarLaws.{lawful_then}
use Rattle.cms_fields.proofs.contents.ThenWrite.law.Goals as goal

pub returns : goal.returns
returns g c = lawful_then _ _ c.law.ensures c.law-2.ensures
