use Rattle.cms_setof.proofs.SetReads.{as_tested}
use Rattle.cms_setof.proofs.set.may_follow.Goals as goal

pub returns-in-Some : goal.returns-in-Some
returns-in-Some g c =
    rw (c.in-Some.is, ← c.bytes.ensures, ← c.bytes-in-Some.ensures)
    (as_tested c.bytes.result.now c.bytes-in-Some.result.now c.args.bound.now.strict c.ascends.result c.if-bound.true c.ascends.ensures)
