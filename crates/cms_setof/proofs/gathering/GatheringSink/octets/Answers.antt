use Rattle.std.proofs.Common.{arith}
use Rattle.std.proofs.lemmas.Grind.{common_steps}
use Rattle.cms_fields.specs.Assembly.{made}
use Rattle.cms_fields.proofs.AssemblyLaws.{octets_marked, length_marked}
use Rattle.cms_setof.proofs.gathering.GatheringSink.octets.Goals as goal

pub returns-clause-ok : goal.returns-clause-ok
returns-clause-ok c = rw (octets_marked made c.args.octets.now, length_marked made c.args.octets.now) (grind (arith, common_steps))
