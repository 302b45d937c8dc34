use Rattle.cms_scalars.proofs.GrammarLaws.{lawful_boolean}
use Rattle.cms_scalars.proofs.booleans.BooleanWrite.law.Goals as goal

pub returns : goal.returns
returns c = lawful_boolean
