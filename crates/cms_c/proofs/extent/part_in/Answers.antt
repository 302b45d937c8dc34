use Rattle.std.proofs.Common.{arith, ap, ◌∙◌}
use Rattle.cms_c.proofs.Extents.{lacks_of, contents_missing_of, element_whole_of, start}
use Rattle.cms_c.proofs.extent.part_in.Goals as goal

pub returns-in-Err-clause-err : goal.returns-in-Err-clause-err
returns-in-Err-clause-err c =
    lacks_of c.args.octets.now c.args.limit _ _ c.header-header.new.self c.in-Err.fault c.reach_of.result c.top.ensures
    (c.new-source.ensures ∙ ap (λ o. start o c.args.limit) c.new.ensures)
    (rw c.in-Err.is at (c.header-header.ensures.faults (ap (λ s. s.fault) c.new-source.ensures))) c.reach_of.ensures

pub returns-then-length-octets-clause-err : goal.returns-then-length-octets-clause-err
returns-then-length-octets-clause-err c =
    contents_missing_of c.args.octets.now c.args.limit _ _ c.header-header.new.self c.in-Ok.header c.in-Some.length c.top.ensures
    (c.new-source.ensures ∙ ap (λ o. start o c.args.limit) c.new.ensures)
    (rw c.in-Ok.is at c.header-header.ensures.found) c.in-Some.is (omega (arith, c.if-length-octets.true, c.consumed-taken.ensures.value))

pub returns-clause-ok : goal.returns-clause-ok
returns-clause-ok c =
    rw c.consumed-taken.ensures.value
    (element_whole_of c.args.octets.now c.args.limit _ _ c.header-header.new.self c.in-Ok.header c.in-Some.length c.top.ensures
    (c.new-source.ensures ∙ ap (λ o. start o c.args.limit) c.new.ensures)
    (rw c.in-Ok.is at c.header-header.ensures.found) c.in-Some.is (omega (arith, c.if-length-octets.false, c.consumed-taken.ensures.value)))
