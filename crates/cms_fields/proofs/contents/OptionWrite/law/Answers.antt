use Rattle.cms_fields.proofs.GrammarLaws.{lawful_last_optional}
use Rattle.cms_fields.proofs.contents.OptionWrite.law.Goals as goal

pub returns : goal.returns
returns g c = lawful_last_optional _ c.law.ensures
