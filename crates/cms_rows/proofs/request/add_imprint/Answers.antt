use Rattle.std.proofs.lemmas.Result.{on_ok_weaker}
use Rattle.cms_rows.proofs.RowLaws.{adds_then}
use Rattle.cms_rows.proofs.request.add_imprint.Goals as goal

pub returns : goal.returns
returns c =
    on_ok_weaker c.add_octets.result (λ q.
    adds_then c.in_ok-add_rows.ensures q) c.add_octets.ensures
