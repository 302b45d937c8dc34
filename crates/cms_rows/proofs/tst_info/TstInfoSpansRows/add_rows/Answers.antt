use Rattle.std.proofs.lemmas.Result.{on_ok_weaker}
use Rattle.cms_rows.proofs.RowLaws.{adds_then}
use Rattle.cms_rows.proofs.tst_info.TstInfoSpansRows.add_rows.Goals as goal

pub returns : goal.returns
returns c =
    on_ok_weaker c.add_rows-5.result (λ q.
    adds_then c.in_ok-add_head.ensures (
    adds_then c.in_ok-add_rows.ensures (
    adds_then c.in_ok-add_rows-2.ensures (
    adds_then c.in_ok-add_imprint.ensures (
    adds_then c.in_ok-add_rows-3.ensures (
    adds_then c.in_ok-add_rows-4.ensures q)))))) c.add_rows-5.ensures
