use Rattle.std.proofs.lemmas.Result.{on_ok_weaker}
use Rattle.std.proofs.Common.{◌/◌}
use Rattle.cms_setof.proofs.SortedRows.{halves_sorted}
use Rattle.cms_setof.proofs.ascending.+sort_halves.Goals as goal

pub returns : goal.returns
returns t c = on_ok_weaker c.merge.result (λ m bs p e.
    halves_sorted c.args.row.now c.sort_halves.new.row c.sort_halves-2.new.row c.merge.new.row (c.args.count / 2) c.frames_len-seam.result
    bs p e (c.frames_len-seam.ensures.frames bs p e) c.in_ok-sort_halves.ensures c.in_ok-sort_halves-2.ensures m) c.merge.ensures.ok
