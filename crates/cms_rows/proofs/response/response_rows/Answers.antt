use Rattle.std.proofs.lemmas.Result.{on_ok_weaker}
use Rattle.cms_rows.proofs.RowLaws.{adds_then}
use Rattle.cms_rows.proofs.response.response_rows.Goals as goal

pub returns : goal.returns
returns c =
    on_ok_weaker c.add_token.result (λ q.
    adds_then c.in_ok-add_head.ensures (
    adds_then c.in_ok-add_status_info.ensures q)) c.add_token.ensures
