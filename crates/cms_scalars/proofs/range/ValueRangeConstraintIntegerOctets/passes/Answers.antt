use Rattle.std.proofs.Common.{sym, arith}
use Rattle.cms_scalars.proofs.Slices.{are_octets}
use Rattle.cms_scalars.proofs.Ranges.{test_from_low, test_below_low, none_in_range}
use Rattle.cms_scalars.proofs.range.ValueRangeConstraintIntegerOctets.passes.Goals as goal

pub returns-then-number : goal.returns-then-number
returns-then-number g c =
    test_from_low g.row.LOW g.row.HIGH c.args.octets.now (are_octets _ c.type_inv.octets) c.in-Some.number
    ((c.value_of.ensures c.in-Some.number).0 c.in-Some.is).0 c.if-number.true

pub returns-else-number : goal.returns-else-number
returns-else-number g c =
    test_below_low g.row.LOW g.row.HIGH c.args.octets.now (are_octets _ c.type_inv.octets) c.in-Some.number
    ((c.value_of.ensures c.in-Some.number).0 c.in-Some.is).0 c.if-number.false

pub returns-in-None : goal.returns-in-None
returns-in-None g c =
    sym (none_in_range g.row.LOW g.row.HIGH c.args.octets.now (omega (arith, g.HIGH.fits))
    (λ n e h. absurd (let k = (c.value_of.ensures n).1 (e, h) in let i = c.in-None.is in cc)))
