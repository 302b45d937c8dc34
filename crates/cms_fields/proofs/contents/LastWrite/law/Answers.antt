use Rattle.cms_fields.proofs.GrammarLaws.{lawful_last}
use Rattle.cms_fields.proofs.contents.LastWrite.law.Goals as goal

pub returns : goal.returns
returns g c = lawful_last _ c.law.ensures
