use Rattle.std.proofs.lemmas.Result.{err_from_is_err_and}
use Rattle.cms_tlv.proofs.Rules.{follows}
use Rattle.cms_tlv.proofs.Why.{fault_says}
use Rattle.cms_fields.proofs.ContentsClauses.{faults_in}
use Rattle.cms_fields.proofs.element.read_after_header.Goals as goal

pub returns-in_err-contents-clause-refines : goal.returns-in_err-contents-clause-refines
returns-in_err-contents-clause-refines g c none =
    let p = err_from_is_err_and c.from_residual-in_err-contents.result c.from_residual-in_err-contents.ensures.1 in
    rw (p.1, p.2) c.in_err-contents.ensures.refines

pub returns-in_err-contents-clause-faults : goal.returns-in_err-contents-clause-faults
returns-in_err-contents-clause-faults g c u j none =
    let p = err_from_is_err_and c.from_residual-in_err-contents.result c.from_residual-in_err-contents.ensures.1 in
    rw (p.1, p.2) (faults_in ((c.law.ensures.contents u).reads_to _ j) c.args.inner (follows c.args.inner) _ _ _ c.in_err-contents.ensures.refines)

pub returns-in_err-contents-clause-why : goal.returns-in_err-contents-clause-why
returns-in_err-contents-clause-why g c u none =
    let p = err_from_is_err_and c.from_residual-in_err-contents.result c.from_residual-in_err-contents.ensures.1 in
    rw (p.1, p.2) (fault_says ((c.law.ensures.contents u).explained c.args.inner) _ _ _ c.in_err-contents.ensures.refines)

pub returns-clause-refines : goal.returns-clause-refines
returns-clause-refines g c none =
    let contents = c.in_ok-contents.ensures.refines in
    record { reaches = contents.reaches; sound = contents.sound; lasts = contents.lasts }
