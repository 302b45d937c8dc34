use Rattle.std.proofs.lemmas.Result.{err_from_is_err_and}
use Rattle.cms_fields.proofs.AlreadyDerLaws.{strict_failed, strict_gave}
use Rattle.cms_fields.proofs.strict.AlreadyDerField.read.Goals as goal

pub returns-in_err-span-clause-refines : goal.returns-in_err-span-clause-refines
returns-in_err-span-clause-refines g c no_fault =
    let p = err_from_is_err_and c.from_residual.result c.from_residual.ensures.1 in
    rw (p.1, p.2) (strict_failed g.T.Write.grammar.reader c.args.bound.now c.strict-inner.result c.strict-inner.ensures
    (c.in_err-span.ensures.refines no_fault))

pub returns-clause-refines : goal.returns-clause-refines
returns-clause-refines g c no_fault =
    let read = strict_gave g.T.Write.grammar.reader c.args.bound.now c.strict-inner.result c.strict-inner.ensures (c.in_ok-span.ensures.refines no_fault) in
    record { reaches = read.reaches; sound = read.sound; lasts = read.lasts }
