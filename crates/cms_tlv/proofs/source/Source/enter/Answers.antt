use Rattle.cms_tlv.proofs.Within.{consumed_within, enter_within}
use Rattle.cms_tlv.proofs.CallClauses.{enter_found, enter_faults}
use Rattle.cms_tlv.specs.Refines.{plain}
use Rattle.cms_tlv.specs.Reading.{enter_of}
use Rattle.cms_tlv.proofs.Ties.{enter_ties, tied_from}
use Rattle.cms_tlv.proofs.source.Source.enter.Goals as goal

pub returns-clause-found : goal.returns-clause-found
returns-clause-found g c =
    enter_found c.args.ident c.args.bound.now c.args.self.now c.enter_without_fault.new.self c.enter_without_fault.result
    c.enter_without_fault.ensures.refines c.enter_without_fault.ensures.clear

pub returns-clause-faults : goal.returns-clause-faults
returns-clause-faults g c sound =
    enter_faults c.args.ident c.args.bound.now c.args.self.now c.enter_without_fault.new.self c.enter_without_fault.result
    c.enter_without_fault.ensures.refines

pub returns-clause-reasons : goal.returns-clause-reasons
returns-clause-reasons g c sound =
    tied_from plain (enter_of c.args.ident c.args.bound.now) c.args.self.now c.enter_without_fault.new.self c.enter_without_fault.result
    (λ d reason at e. enter_ties c.args.ident c.args.bound.now d e) c.enter_without_fault.ensures.refines c.enter_without_fault.ensures.none_kept

pub returns-clause-within : goal.returns-clause-within
returns-clause-within g c =
    consumed_within plain c.args.bound.now (enter_within c.args.ident c.args.bound.now) c.args.self.now c.enter_without_fault.new.self
    c.enter_without_fault.result c.enter_without_fault.ensures.refines
