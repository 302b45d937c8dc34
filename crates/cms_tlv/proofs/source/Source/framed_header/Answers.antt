use Rattle.std.proofs.Common.{inl, length, ◌≡◌, sym, ap, ◌∙◌, subst}
use Rattle.std.proofs.lemmas.Result.{err_from_is_err_and}
use Rattle.cms_tlv.specs.declared.fault.Reason.{Reason}
use Rattle.cms_tlv.specs.Refines.{NeedsNoOctets, Simulates}
use Rattle.cms_tlv.specs.Reading.{framed_header_of, framing_fault, refuse}
use Rattle.cms_tlv.proofs.Bind.{fails, reaches_bind}
use Rattle.cms_tlv.proofs.HeaderGives.{gave_give, refused_as}
use Rattle.cms_tlv.proofs.OpaqueGives.{header_next, header_bind, header_same, header_other, no_cut, framing_free}
use Rattle.cms_tlv.proofs.source.Source.framed_header.Goals as goal
use Rattle.cms_tlv.proofs.source.Source.framed_header.Goals.{In_ok-header}

-- after the header
headed :
    (g : _) (c : In_ok-header g) → Simulates (framed_header_of c.args.bound.now) c.args.self.now
    (header_next c.args.bound.now c.in_ok-header.header) c.expected_header.new.self
headed g c =
    subst (λ r. Simulates r c.args.self.now (header_next c.args.bound.now c.in_ok-header.header) c.expected_header.new.self)
    (sym (header_bind c.args.bound.now)) (reaches_bind (header_next c.args.bound.now) c.in_ok-header.ensures.refines.reaches)

pub returns-in_err-header-clause-refines : goal.returns-in_err-header-clause-refines
unfolding framed_header_of
returns-in_err-header-clause-refines g c =
    let p = err_from_is_err_and c.from_residual.result c.from_residual.ensures.1 in
    rw (p.1, p.2) (fails _ c.in_err-header.ensures.refines)

pub returns-then-is_framed-clause-refines : goal.returns-then-is_framed-clause-refines
returns-then-is_framed-clause-refines g c =
    gave_give _ (headed g (goal.at.returns-then-is_framed-clause-refines g c).In_ok-header)
    (header_same c.args.bound.now c.in_ok-header.header (sym c.is_framed.ensures ∙ c.if-is_framed.true)) c.in_ok-header.ensures.refines.sound

pub returns-clause-refines : goal.returns-clause-refines
returns-clause-refines g c =
    let bd = c.args.bound.now in
    let h = c.in_ok-header.header in
    let s = c.expected_header.new.self in
    let e : framing_fault bd h.ident ≡ c.framing_fault.result = sym c.framing_fault.ensures in
    refused_as c.framing_fault.result c.in_ok-header.ensures.refines.sound (λ k. no_cut bd h.ident (e ∙ k))
    (inl (subst (NeedsNoOctets s.limit (length s.done)) e (framing_free bd h.ident s.limit (length s.done))))
    (headed g (goal.at.returns-clause-refines g c).In_ok-header)
    (header_other bd h (sym c.is_framed.ensures ∙ c.if-is_framed.false) ∙ ap (λ (r : Reason). refuse r) e) c.refused.ensures.state
    c.refused.ensures.same
