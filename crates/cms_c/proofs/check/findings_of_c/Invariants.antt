use Rattle.std.proofs.Common.{◌≡◌, map, take}
use Rattle.cms_c.specs.Calls.{finding_of_c}
use Rattle.cms_c.proofs.check.findings_of_c.Given as goal

abbrev pub invariant-loop-finding : goal.invariant-loop-finding
invariant-loop-finding l = l.found.items ≡ map finding_of_c (take l.finding-index l.findings)
