use Rattle.std.proofs.Common.{sym, ◌∙◌, arith}
use Rattle.cms_scalars.proofs.Rows.{this_row, another_row, no_row}
use Rattle.cms_scalars.proofs.names.name_among.Goals as goal

pub returns-then-eq : goal.returns-then-eq
returns-then-eq c =
    sym (c.loop-row.invariant ∙ this_row c.args.table.now c.loop-row.row-index _ c.args.octets.now c.loop-row-test.true
    (sym c.eq.ensures ∙ c.if-eq.true))

pub loop-row-preserved : goal.loop-row-preserved
loop-row-preserved c =
    c.loop-row.invariant ∙ another_row c.args.table.now c.loop-row.row-index _ c.args.octets.now c.loop-row-test.true
    (sym c.eq.ensures ∙ c.if-eq.false)

pub returns : goal.returns
returns c = sym (c.loop-row.invariant ∙ no_row c.args.table.now c.loop-row.row-index c.args.octets.now (omega arith))
