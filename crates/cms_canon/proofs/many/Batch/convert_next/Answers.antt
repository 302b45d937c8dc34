use Rattle.std.proofs.Common.{[], arith}
use Rattle.std.proofs.KnownBytes.{Consumes-nil}
use Rattle.cms_canon.proofs.Conversions.{next_begins}
use Rattle.cms_canon.proofs.many.Batch.convert_next.Goals as goal

pub returns-in-Ok-clause-proceeds : goal.returns-in-Ok-clause-proceeds
returns-in-Ok-clause-proceeds g c left failures out failed p = c.read_and_convert.ensures.proceeds left failures out failed (next_begins p c.in-Ok.ensures.ok)

pub returns-in-Err-clause-proceeds : goal.returns-in-Err-clause-proceeds
returns-in-Err-clause-proceeds g c left failures out failed p =
    let now = g.R.Input.left c.args.reader in
    let some = g.R.Input.failures c.args.reader in
    c.in-Err.ensures.err left now now failures some some [] out failed c.args.limit p (Consumes-nil now) (omega arith)
