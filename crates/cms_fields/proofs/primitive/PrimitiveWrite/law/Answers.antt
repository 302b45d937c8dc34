use Rattle.cms_fields.proofs.GrammarLaws.{lawful_primitive}
use Rattle.cms_fields.proofs.primitive.PrimitiveWrite.law.Goals as goal

pub returns : goal.returns
returns g c = lawful_primitive g.row.ID _ _ _ c.law.ensures.told c.law.ensures.known c.law.ensures.tested
