use Rattle.std.proofs.Common.{◌≤◌, length, map, drop}
use Rattle.cms_tlv.specs.Spelling.{der}
use Rattle.cms_setof.proofs.RowLaws.{Row}
use Rattle.cms_setof.proofs.set.emit_row.Given as goal

abbrev pub invariant-loop-left : goal.invariant-loop-left
invariant-loop-left g l =
    (l.left ≤ length l.row)
    × Row g.S.Sink.taking (g.T.Write.grammar.spelled der) g.T.Write.grammar.assembled g.T.Write.grammar.same
    (map (g.T.Write.value l.kept) (drop l.left l.row)) l.kept l.fn.sink l.sink

abbrev pub decreases-loop-left : goal.decreases-loop-left
decreases-loop-left g l = l.left
