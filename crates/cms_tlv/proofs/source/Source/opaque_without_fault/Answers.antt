use Rattle.std.proofs.lemmas.Result.{err_from_is_err_and}
use Rattle.cms_tlv.proofs.OpaqueGives.{taken_failed, taken_gave}
use Rattle.cms_tlv.proofs.source.Source.opaque_without_fault.Goals as goal

pub returns-in_err-element-clause-refines : goal.returns-in_err-element-clause-refines
returns-in_err-element-clause-refines g c =
    let p = err_from_is_err_and c.from_residual.result c.from_residual.ensures.1 in
    rw (p.1, p.2) (taken_failed c.args.bound.now c.in_err-element.ensures.refines)

pub returns-clause-refines : goal.returns-clause-refines
returns-clause-refines g c =
    taken_gave c.args.bound.now c.consumed-start.ensures.value c.consumed.ensures.value c.in_ok-element.ensures.clear
    c.in_ok-element.ensures.refines
