use Rattle.cms_scalars.proofs.Ranges.{range_known, range_tested}
use Rattle.cms_scalars.proofs.range.ValueRangeConstraintIntegerOctets.law.Goals as goal

pub returns-clause-known : goal.returns-clause-known
returns-clause-known g c v k t = range_known g.row.LOW g.row.HIGH v t

pub returns-clause-tested : goal.returns-clause-tested
returns-clause-tested g c v k e = range_tested g.row.LOW g.row.HIGH v k.octets e
