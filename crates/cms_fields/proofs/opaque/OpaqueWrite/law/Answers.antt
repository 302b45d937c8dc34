use Rattle.cms_fields.proofs.GrammarLaws.{lawful_opaque}
use Rattle.cms_fields.proofs.opaque.OpaqueWrite.law.Goals as goal

pub returns : goal.returns
returns c = lawful_opaque
