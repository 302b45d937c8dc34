use Rattle.std.proofs.Common.{inl, sym, ◌∙◌}
use Rattle.cms_tlv.specs.declared.fault.Reason.TheVariants.{UnexpectedElement}
use Rattle.cms_tlv.specs.Refines.{cursor, plain}
use Rattle.cms_tlv.specs.Reading.{expected_of}
use Rattle.cms_tlv.proofs.Bind.{reaches_same, gives_then}
use Rattle.cms_tlv.proofs.HeaderGives.{here, refused_at, expected_missing, expected_there}
use Rattle.cms_tlv.proofs.source.Source.expected_by_octets.Goals as goal

pub returns-then-ends-clause-refines : goal.returns-then-ends-clause-refines
returns-then-ends-clause-refines g c =
    let s = c.args.self.now in
    refused_at UnexpectedElement c.requires.sound (λ e. absurd cc) (inl tt) (here (expected_of c.args.bound.now) s)
    (λ ys. expected_missing c.args.bound.now (cursor s ys) (sym c.ends.ensures ∙ c.if-ends.true)) c.refused.ensures.state c.refused.ensures.same

pub returns-clause-refines : goal.returns-clause-refines
returns-clause-refines g c =
    let s = c.args.self.now in
    gives_then plain _ c.header_without_fault.result (reaches_same s
    (λ ys. expected_there c.args.bound.now (cursor s ys) (sym c.ends.ensures ∙ c.if-ends.false))) c.header_without_fault.ensures.refines
