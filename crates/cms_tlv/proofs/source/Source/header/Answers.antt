use Rattle.cms_tlv.proofs.Within.{consumed_within, header_within}
use Rattle.cms_tlv.proofs.CallClauses.{header_found, header_faults}
use Rattle.cms_tlv.specs.Refines.{plain}
use Rattle.cms_tlv.specs.Reading.{header_of}
use Rattle.cms_tlv.proofs.Ties.{header_ties, tied_from}
use Rattle.cms_tlv.proofs.source.Source.header.Goals as goal

pub returns-clause-found : goal.returns-clause-found
returns-clause-found g c =
    header_found c.args.bound.now c.args.self.now c.header_without_fault.new.self c.header_without_fault.result
    c.header_without_fault.ensures.refines c.header_without_fault.ensures.clear

pub returns-clause-faults : goal.returns-clause-faults
returns-clause-faults g c sound =
    header_faults c.args.bound.now c.args.self.now c.header_without_fault.new.self c.header_without_fault.result
    c.header_without_fault.ensures.refines

pub returns-clause-reasons : goal.returns-clause-reasons
returns-clause-reasons g c sound =
    tied_from plain (header_of c.args.bound.now) c.args.self.now c.header_without_fault.new.self c.header_without_fault.result
    (λ d reason at e. header_ties c.args.bound.now d e) c.header_without_fault.ensures.refines c.header_without_fault.ensures.none_kept

pub returns-clause-within : goal.returns-clause-within
returns-clause-within g c =
    consumed_within plain c.args.bound.now (header_within c.args.bound.now) c.args.self.now c.header_without_fault.new.self
    c.header_without_fault.result c.header_without_fault.ensures.refines
