use Rattle.std.proofs.Common.{refl}
use Rattle.cms_fields.proofs.GrammarLaws.{lawful_unread}
use Rattle.cms_scalars.proofs.defaults.DefaultFalseWrite.law.Goals as goal

pub returns : goal.returns
returns c = lawful_unread _ refl refl
