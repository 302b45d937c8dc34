use Rattle.std.proofs.Common.{sym, ◌∙◌}
use Rattle.cms_tlv.specs.Refines.{cursor, plain}
use Rattle.cms_tlv.specs.Reading.{close_of}
use Rattle.cms_tlv.proofs.Bind.{reaches_same, gives_then}
use Rattle.cms_tlv.proofs.HeaderGives.{here, gave_plain, close_here, close_there}
use Rattle.cms_tlv.proofs.source.Source.close_without_fault.Goals as goal

pub returns-then-ends-clause-refines : goal.returns-then-ends-clause-refines
returns-then-ends-clause-refines g c =
    let s = c.args.self.now in
    gave_plain tt (here (close_of c.args.bound.now) s) (λ ys. close_here c.args.bound.now (cursor s ys) (sym c.ends.ensures ∙ c.if-ends.true)) c.requires

pub returns-clause-refines : goal.returns-clause-refines
returns-clause-refines g c =
    let s = c.args.self.now in
    gives_then plain _ c.end_of_contents.result (reaches_same s
    (λ ys. close_there c.args.bound.now (cursor s ys) (sym c.ends.ensures ∙ c.if-ends.false))) c.end_of_contents.ensures.refines
