use Rattle.cms_fields.proofs.GrammarLaws.{lawful_contents_choice}
use Rattle.cms_fields.proofs.contents_choice.ContentsChoiceWrite.law.Goals as goal

pub returns : goal.returns
returns g c = lawful_contents_choice _ _ _ c.law.ensures c.law-2.ensures c.law-3.ensures
