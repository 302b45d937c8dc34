use Rattle.cms_fields.proofs.GrammarLaws.{lawful_already_der}
use Rattle.cms_fields.proofs.strict.AlreadyDerWrite.law.Goals as goal

pub returns : goal.returns
returns g c = lawful_already_der _ c.law.ensures
