use Rattle.std.proofs.Common.{inl, subst, sym, List, ℕ}
use Rattle.std.proofs.lemmas.Result.{err_from_is_err_and}
use Rattle.cms_tlv.specs.declared.fault.Reason.TheVariants.{UnexpectedElement}
use Rattle.cms_tlv.specs.Refines.{Simulates, Refines, seen}
use Rattle.cms_tlv.specs.Reading.{Reader, primitive_of}
use Rattle.cms_tlv.proofs.Bind.{fails, reaches_bind, gives_then}
use Rattle.cms_tlv.proofs.HeaderGives.{refused_as}
use Rattle.cms_tlv.proofs.FieldGives.{primitive_next, primitive_bind, primitive_other, primitive_none, primitive_some, contents_within}
use Rattle.cms_tlv.proofs.source.Source.primitive_after_header.Goals as goal
use Rattle.cms_tlv.proofs.source.Source.primitive_after_header.Goals.{In_ok-header}

-- after the header
headed :
    (g : _) (c : In_ok-header g) → Simulates (primitive_of c.args.ident c.args.bound.now) c.args.self.now
    (primitive_next c.args.ident c.in_ok-header.header) c.expected_header.new.self
headed g c =
    subst (λ r. Simulates r c.args.self.now (primitive_next c.args.ident c.in_ok-header.header) c.expected_header.new.self)
    (sym (primitive_bind c.args.ident c.args.bound.now)) (reaches_bind (primitive_next c.args.ident) c.in_ok-header.ensures.refines.reaches)

pub returns-in_err-header-clause-refines : goal.returns-in_err-header-clause-refines
unfolding primitive_of
returns-in_err-header-clause-refines g c =
    let p = err_from_is_err_and c.from_residual.result c.from_residual.ensures.1 in
    rw (p.1, p.2) (fails _ c.in_err-header.ensures.refines)

pub returns-then-header-ident-clause-refines : goal.returns-then-header-ident-clause-refines
returns-then-header-ident-clause-refines g c =
    refused_as UnexpectedElement c.in_ok-header.ensures.refines.sound (λ e. absurd cc) (inl tt) (headed g (goal.at.returns-then-header-ident-clause-refines g c).In_ok-header)
    (primitive_other c.args.ident c.in_ok-header.header c.if-header-ident.true) c.refused.ensures.state c.refused.ensures.same

pub returns-in-Some-clause-refines : goal.returns-in-Some-clause-refines
returns-in-Some-clause-refines g c =
    let h = c.in_ok-header.header in
    let n = c.in-Some.n in
    gives_then seen _ c.contents_without_fault.result (headed g (goal.at.returns-in-Some-clause-refines g c).In_ok-header)
    (subst (λ (r : Reader (List ℕ)). Refines seen r c.expected_header.new.self c.contents_without_fault.new.self
    c.contents_without_fault.result) (sym (primitive_some c.args.ident n h c.if-header-ident.false c.in-Some.is))
    (contents_within c.args.bound.now n h c.args.self.now c.expected_header.new.self c.contents_without_fault.new.self
    c.contents_without_fault.result c.in_ok-header.ensures.refines c.in-Some.is c.contents_without_fault.ensures.refines))

pub returns-in-None-clause-refines : goal.returns-in-None-clause-refines
returns-in-None-clause-refines g c =
    refused_as UnexpectedElement c.in_ok-header.ensures.refines.sound (λ e. absurd cc) (inl tt) (headed g (goal.at.returns-in-None-clause-refines g c).In_ok-header)
    (primitive_none c.args.ident c.in_ok-header.header c.if-header-ident.false c.in-None.is) c.refused-in-None.ensures.state
    c.refused-in-None.ensures.same
