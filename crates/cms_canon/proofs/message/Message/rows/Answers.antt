use Rattle.cms_rows.proofs.RowLaws.{shown_alone}
use Rattle.cms_canon.proofs.message.Message.rows.Goals as goal

pub returns : goal.returns
returns c = shown_alone c.new-rows.ensures.items c.in_ok-add_rows.ensures
