use Rattle.std.proofs.Common.{arith}
use Rattle.std.proofs.lemmas.Result.{err_from_is_err_and}
use Rattle.cms_tlv.specs.Refines.{plain}
use Rattle.cms_tlv.specs.Reading.{header_of}
use Rattle.cms_tlv.proofs.Bind.{fails, then_fails, gives_bind}
use Rattle.cms_tlv.proofs.HeaderGives.{grows_by, moved_then}
use Rattle.cms_tlv.proofs.source.Source.header_without_fault.Goals as goal

pub returns-in_err-ident-clause-refines : goal.returns-in_err-ident-clause-refines
unfolding header_of
returns-in_err-ident-clause-refines g c =
    let p = err_from_is_err_and c.from_residual.result c.from_residual.ensures.1 in
    rw (p.1, p.2) (fails _ c.in_err-ident.ensures.refines)

pub returns-in_err-rest_of_identifier-clause-refines : goal.returns-in_err-rest_of_identifier-clause-refines
unfolding header_of
returns-in_err-rest_of_identifier-clause-refines g c =
    let p = err_from_is_err_and c.from_residual-in_err-rest_of_identifier.result c.from_residual-in_err-rest_of_identifier.ensures.1 in
    rw (p.1, p.2) (then_fails _ c.in_ok-ident.ensures.refines (fails _ c.in_err-rest_of_identifier.ensures.refines))

pub returns-in_err-first-clause-refines : goal.returns-in_err-first-clause-refines
unfolding header_of
returns-in_err-first-clause-refines g c =
    let p = err_from_is_err_and c.from_residual-in_err-first.result c.from_residual-in_err-first.ensures.1 in
    rw (p.1, p.2) (then_fails _ c.in_ok-ident.ensures.refines
    (then_fails _ c.in_ok-rest_of_identifier.ensures.refines (fails _ c.in_err-first.ensures.refines)))

pub returns-clause-moved : goal.returns-clause-moved
returns-clause-moved g c =
    let first = grows_by c.in_ok-rest_of_identifier.ensures.refines.reaches in
    let second = grows_by c.in_ok-first.ensures.refines.reaches in
    moved_then plain _ c.args.self.now _ _ c.length.result (omega (arith, c.in_ok-ident.ensures.moved, first, second)) c.length.ensures.refines

pub returns-clause-refines : goal.returns-clause-refines
unfolding header_of
returns-clause-refines g c =
    gives_bind plain _ _ c.length.result c.in_ok-ident.ensures.refines
    (gives_bind plain _ _ c.length.result c.in_ok-rest_of_identifier.ensures.refines
    (gives_bind plain _ _ c.length.result c.in_ok-first.ensures.refines c.length.ensures.refines))
