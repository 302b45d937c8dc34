use Rattle.cms_fields.proofs.GrammarLaws.{lawful_tagged}
use Rattle.cms_fields.proofs.element.TaggedWrite.law.Goals as goal

pub returns : goal.returns
returns g c = lawful_tagged g.row.ID _ c.law.ensures
