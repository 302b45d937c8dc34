use Rattle.std.proofs.lemmas.Result.{on_ok_weaker}
use Rattle.cms_rows.proofs.RowLaws.{adds_then}
use Rattle.cms_rows.proofs.tst_info.OptionalThenAccuracySpansAfterAccuracyRows.add_rows.Goals as goal

pub returns : goal.returns
returns c =
    on_ok_weaker c.add_rows-4.result (λ q.
    adds_then c.in_ok-add_rows.ensures (
    adds_then c.in_ok-add_ordering.ensures (
    adds_then c.in_ok-add_rows-2.ensures (
    adds_then c.in_ok-add_rows-3.ensures q)))) c.add_rows-4.ensures
