use Rattle.cms_check.proofs.checking.verdict_on.Goals as goal

pub returns-in_default : goal.returns-in_default
returns-in_default g c m k = rw c.in_default.is (c.verdict_of_none.ensures c.args.signed_data.now m k)
