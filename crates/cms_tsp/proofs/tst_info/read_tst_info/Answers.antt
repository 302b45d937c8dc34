use Rattle.std.proofs.Common.{Err, ap}
use Rattle.cms_tsp.proofs.tst_info.read_tst_info.Goals as goal

pub returns-in-Err-NotTst : goal.returns-in-Err-NotTst
returns-in-Err-NotTst c = c.in-Err-NotTst.ensures.not_tst (ap Err c.in-Err-NotTst.field-0-is)
