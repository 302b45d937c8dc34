use Rattle.std.proofs.Common.{arith, ap, inl, length}
use Rattle.std.proofs.lemmas.List.{length-drop}
use Rattle.cms_c.proofs.Extents.{past_last, past_header, past_element, stops, element_count, no_room}
use Rattle.cms_c.proofs.extent.next.Goals as goal

pub returns-then-limit-before-clause-err : goal.returns-then-limit-before-clause-err
returns-then-limit-before-clause-err c b =
    no_room c.args.input.now c.args.before.end c.args.before.unended c.args.limit c.if-limit-before.true b

pub returns-then-ends_inside-clause-ok : goal.returns-then-ends_inside-clause-ok
returns-then-ends_inside-clause-ok c b at =
    past_last c.args.input.now _ c.args.before.end c.args.before.unended c.args.limit c.rest_from-rest.ensures
    (c.ends_inside.ensures.inside c.if-ends_inside.true) (c.ends_inside.ensures.yes c.if-ends_inside.true) c.if-limit-before.false b

pub returns-in-Err-clause-err : goal.returns-in-Err-clause-err
returns-in-Err-clause-err c b =
    stops c.args.input.now _ c.args.before.end c.args.before.unended c.rest_from-rest.ensures c.args.limit c.in-Err.reach
    (c.ends_inside.ensures.no c.if-ends_inside.false) (rw (c.in-Err.is, c.saturating_sub.ensures) at c.part_in.ensures.err) b

pub returns-in-Ok-Header-clause-ok : goal.returns-in-Ok-Header-clause-ok
returns-in-Ok-Header-clause-ok c b at =
    inl (past_header c.args.input.now _ c.args.before.end c.args.before.unended c.rest_from-rest.ensures c.saturating_sub.result c.in-Ok-Header.length (rw (c.in-Ok-Header.is, c.in-Ok-Header.field-0-is) at c.part_in.ensures.ok) b)

pub returns-in-Ok-Element-clause-moved : goal.returns-in-Ok-Element-clause-moved
returns-in-Ok-Element-clause-moved c =
    let h = element_count _ c.in-Ok-Element.length (rw (c.in-Ok-Element.is, c.in-Ok-Element.field-0-is) at c.part_in.ensures.ok).0 in
    omega (arith, h, c.requires.inside, c.requires.within, ap length c.rest_from-rest.ensures, length-drop c.args.before.end c.args.input.now)

pub returns-in-Ok-Element-clause-ok : goal.returns-in-Ok-Element-clause-ok
returns-in-Ok-Element-clause-ok c b at =
    past_element c.args.input.now _ c.args.before.end c.args.before.unended c.args.limit c.in-Ok-Element.length c.rest_from-rest.ensures
    (c.ends_inside.ensures.no c.if-ends_inside.false) (rw (c.in-Ok-Element.is, c.in-Ok-Element.field-0-is, c.saturating_sub.ensures) at c.part_in.ensures.ok) b
