use Rattle.cms_fields.proofs.GrammarLaws.{lawful_optional_then}
use Rattle.cms_fields.proofs.contents.OptionalThenWrite.law.Goals as goal

pub returns : goal.returns
returns g c = lawful_optional_then _ _ c.law.ensures c.law-2.ensures
