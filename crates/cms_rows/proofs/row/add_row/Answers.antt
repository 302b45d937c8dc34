use Rattle.cms_rows.proofs.RowLaws.{adds_one}
use Rattle.cms_rows.proofs.row.add_row.Goals as goal

pub returns : goal.returns
returns c = adds_one c.new.result c.new.ensures.is c.new.ensures.names c.in_ok-push.ensures.items
