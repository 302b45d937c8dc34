use Rattle.cms_rows.proofs.RowLaws.{adds_bits}
use Rattle.cms_rows.proofs.row.add_bits.Goals as goal

pub returns : goal.returns
returns c = adds_bits c.new.result c.new.ensures.is c.new.ensures.names c.in_ok-push.ensures.items
