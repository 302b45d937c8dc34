use Rattle.std.proofs.lemmas.Result.{err_from_is_err_and}
use Rattle.cms_tlv.proofs.OctetsTaken.{taking_failed, taking_gave}
use Rattle.cms_fields.proofs.strict.read_with_span.Goals as goal

pub returns-in_err-field-clause-refines : goal.returns-in_err-field-clause-refines
returns-in_err-field-clause-refines g c no_fault =
    let p = err_from_is_err_and c.from_residual.result c.from_residual.ensures.1 in
    rw (p.1, p.2) (taking_failed g.T.Write.grammar.reader c.args.bound.now (c.in_err-field.ensures.refines no_fault))

pub returns-clause-refines : goal.returns-clause-refines
returns-clause-refines g c no_fault =
    taking_gave g.T.Write.grammar.reader c.args.bound.now c.consumed-start.ensures.value c.consumed-end.ensures.value
    c.in_ok-field.ensures.clear (c.in_ok-field.ensures.refines no_fault)
