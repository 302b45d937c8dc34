use Rattle.cms_tlv.proofs.CallClauses.{peek_faults}
use Rattle.cms_tlv.specs.Refines.{plain}
use Rattle.cms_tlv.specs.Reading.{peek_of}
use Rattle.cms_tlv.proofs.Ties.{peek_ties, tied_from}
use Rattle.cms_tlv.proofs.source.Source.peek.Goals as goal

pub returns-clause-faults : goal.returns-clause-faults
returns-clause-faults g c sound =
    peek_faults c.args.bound.now c.args.self.now c.peek_without_fault.new.self c.peek_without_fault.result c.peek_without_fault.ensures.refines

pub returns-clause-reasons : goal.returns-clause-reasons
returns-clause-reasons g c sound =
    tied_from plain (peek_of c.args.bound.now) c.args.self.now c.peek_without_fault.new.self c.peek_without_fault.result
    (λ d reason at e. peek_ties c.args.bound.now d e) c.peek_without_fault.ensures.refines c.peek_without_fault.ensures.none_kept
