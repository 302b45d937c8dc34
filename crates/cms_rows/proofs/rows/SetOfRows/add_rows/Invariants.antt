use Rattle.std.proofs.Common.{map, take}
use Rattle.std.specs.List.{flat_map}
use Rattle.cms_rows.specs.Rows.{AddsRows}
use Rattle.cms_rows.proofs.rows.SetOfRows.add_rows.Given as goal

abbrev pub invariant-loop-member : goal.invariant-loop-member
invariant-loop-member g l =
    AddsRows l.kept (flat_map (g.T.Rows.entries l.kind l.level) (map (g.T.Rows.shown l.kept) (take l.member-index l.self))) l.fn.rows.items
    l.rows.items
