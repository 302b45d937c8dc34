use Rattle.cms_scalars.proofs.TimeTexts.{time_known, time_tested, time_octets}
use Rattle.cms_scalars.proofs.times.TimeOctetsScalar.law.Goals as goal

pub returns-clause-known : goal.returns-clause-known
returns-clause-known c v o e = (_, _, time_known v e)

pub returns-clause-tested : goal.returns-clause-tested
returns-clause-tested c v k = (time_octets v k, time_tested v k)
