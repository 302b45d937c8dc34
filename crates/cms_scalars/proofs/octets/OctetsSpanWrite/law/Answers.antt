use Rattle.cms_scalars.proofs.GrammarLaws.{lawful_string}
use Rattle.cms_scalars.proofs.octets.OctetsSpanWrite.law.Goals as goal

pub returns : goal.returns
returns g c = lawful_string g.row.ID
