use Rattle.cms_rows.proofs.RowLaws.{shown_alone}
use Rattle.cms_rows.proofs.tst_info.some_rows.Goals as goal

pub returns-in-Ok-clause-found : goal.returns-in-Ok-clause-found
returns-in-Ok-clause-found c = (_, c.requires, shown_alone c.new-rows.ensures.items c.in-Ok.ensures)
