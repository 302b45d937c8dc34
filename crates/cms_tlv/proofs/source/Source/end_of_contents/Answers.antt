use Rattle.std.proofs.Common.{inl, subst, sym, ◌∙◌}
use Rattle.std.proofs.lemmas.Result.{err_from_is_err_and}
use Rattle.cms_tlv.specs.declared.fault.Reason.TheVariants.{UnexpectedElement}
use Rattle.cms_tlv.specs.Refines.{Simulates}
use Rattle.cms_tlv.specs.Reading.{end_in}
use Rattle.cms_tlv.proofs.Bind.{fails, reaches_bind}
use Rattle.cms_tlv.proofs.HeaderGives.{end_next, end_bind, end_there, end_not_there, gave_give, refused_as}
use Rattle.cms_tlv.proofs.source.Source.end_of_contents.Goals as goal
use Rattle.cms_tlv.proofs.source.Source.end_of_contents.Goals.{In_ok-header}

-- after the header
headed :
    (g : _) (c : In_ok-header g) → Simulates (end_in c.args.bound.now) c.args.self.now (end_next c.args.bound.now c.in_ok-header.header)
    c.expected_header.new.self
headed g c =
    subst (λ r. Simulates r c.args.self.now (end_next c.args.bound.now c.in_ok-header.header) c.expected_header.new.self)
    (sym (end_bind c.args.bound.now)) (reaches_bind (end_next c.args.bound.now) c.in_ok-header.ensures.refines.reaches)

pub returns-in_err-header-clause-refines : goal.returns-in_err-header-clause-refines
unfolding end_in
returns-in_err-header-clause-refines g c =
    let p = err_from_is_err_and c.from_residual.result c.from_residual.ensures.1 in
    rw (p.1, p.2) (fails _ c.in_err-header.ensures.refines)

pub returns-then-ends_contents-clause-refines : goal.returns-then-ends_contents-clause-refines
returns-then-ends_contents-clause-refines g c =
    gave_give tt (headed g (goal.at.returns-then-ends_contents-clause-refines g c).In_ok-header)
    (end_there c.args.bound.now c.in_ok-header.header (sym c.ends_contents.ensures ∙ c.if-ends_contents.true)) c.in_ok-header.ensures.refines.sound

pub returns-else-ends_contents-clause-refines : goal.returns-else-ends_contents-clause-refines
returns-else-ends_contents-clause-refines g c =
    refused_as UnexpectedElement c.in_ok-header.ensures.refines.sound (λ e. absurd cc) (inl tt) (headed g (goal.at.returns-else-ends_contents-clause-refines g c).In_ok-header)
    (end_not_there c.args.bound.now c.in_ok-header.header (sym c.ends_contents.ensures ∙ c.if-ends_contents.false)) c.refused.ensures.state
    c.refused.ensures.same
