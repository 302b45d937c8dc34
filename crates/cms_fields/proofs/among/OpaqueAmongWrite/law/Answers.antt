use Rattle.cms_fields.proofs.GrammarLaws.{lawful_among}
use Rattle.cms_fields.proofs.among.OpaqueAmongWrite.law.Goals as goal

pub returns : goal.returns
returns g c = lawful_among g.I.Identifiers.allowed
