use Rattle.cms_fields.proofs.GrammarLaws.{lawful_selected}
use Rattle.cms_fields.proofs.selected.SelectedWrite.law.Goals as goal

pub returns : goal.returns
returns g c = lawful_selected _ _ _ _ _ _ _ c.law.ensures c.law-2.ensures c.law-3.ensures
