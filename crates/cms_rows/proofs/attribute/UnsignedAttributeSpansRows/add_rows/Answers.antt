use Rattle.std.proofs.lemmas.Result.{on_ok_weaker}
use Rattle.cms_rows.proofs.RowLaws.{adds_then}
use Rattle.cms_rows.proofs.attribute.UnsignedAttributeSpansRows.add_rows.Goals as goal

pub returns : goal.returns
returns g c = on_ok_weaker c.add_values.result (λ q. adds_then c.in_ok-add_rows.ensures q) c.add_values.ensures
