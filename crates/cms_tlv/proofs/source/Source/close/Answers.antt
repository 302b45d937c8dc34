use Rattle.cms_tlv.proofs.CallClauses.{close_found, close_faults}
use Rattle.cms_tlv.specs.Refines.{plain}
use Rattle.cms_tlv.specs.Reading.{close_of}
use Rattle.cms_tlv.proofs.Ties.{close_ties, tied_from}
use Rattle.cms_tlv.proofs.source.Source.close.Goals as goal

pub returns-clause-found : goal.returns-clause-found
returns-clause-found g c =
    close_found c.args.bound c.args.self.now c.close_without_fault.new.self c.close_without_fault.result c.close_without_fault.ensures.refines

pub returns-clause-faults : goal.returns-clause-faults
returns-clause-faults g c sound =
    close_faults c.args.bound c.args.self.now c.close_without_fault.new.self c.close_without_fault.result c.close_without_fault.ensures.refines

pub returns-clause-reasons : goal.returns-clause-reasons
returns-clause-reasons g c sound =
    tied_from plain (close_of c.args.bound) c.args.self.now c.close_without_fault.new.self c.close_without_fault.result
    (λ d reason at e. close_ties c.args.bound d e) c.close_without_fault.ensures.refines c.close_without_fault.ensures.none_kept
