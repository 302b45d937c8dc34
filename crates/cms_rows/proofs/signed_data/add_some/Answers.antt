use Rattle.std.proofs.lemmas.Result.{on_ok_weaker}
use Rattle.cms_rows.proofs.RowLaws.{adds_then}
use Rattle.cms_rows.proofs.signed_data.add_some.Goals as goal

pub returns : goal.returns
returns g c = on_ok_weaker c.add_rows.result (λ q. adds_then c.in_ok-add_head.ensures q) c.add_rows.ensures
