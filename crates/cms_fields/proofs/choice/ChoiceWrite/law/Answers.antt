use Rattle.cms_fields.proofs.GrammarLaws.{lawful_choice}
use Rattle.cms_fields.proofs.choice.ChoiceWrite.law.Goals as goal

pub returns : goal.returns
returns g c = lawful_choice _ _ c.law.ensures c.law-2.ensures
