use Rattle.cms_tlv.proofs.Within.{consumed_within, opaque_within}
use Rattle.cms_tlv.proofs.OpaqueReads.{opaque_found, opaque_faults}
use Rattle.cms_tlv.proofs.Ties.{tied_last_from}
use Rattle.cms_tlv.proofs.OpaqueTies.{opaque_ties}
use Rattle.cms_tlv.specs.Refines.{seen}
use Rattle.cms_tlv.specs.Reading.{opaque_of}
use Rattle.cms_tlv.proofs.source.Source.opaque.Goals as goal

pub returns-clause-found : goal.returns-clause-found
returns-clause-found g c =
    opaque_found c.args.bound.now c.args.self.now c.opaque_without_fault.new.self c.opaque_without_fault.result
    c.opaque_without_fault.ensures.refines c.opaque_without_fault.ensures.clear

pub returns-clause-faults : goal.returns-clause-faults
returns-clause-faults g c sound =
    opaque_faults c.args.bound.now c.args.self.now c.opaque_without_fault.new.self c.opaque_without_fault.result
    c.opaque_without_fault.ensures.refines

pub returns-clause-reasons : goal.returns-clause-reasons
returns-clause-reasons g c sound =
    tied_last_from seen (opaque_of c.args.bound.now) c.args.self.now c.opaque_without_fault.new.self c.opaque_without_fault.result
    (opaque_ties c.args.bound.now) c.opaque_without_fault.ensures.refines c.opaque_without_fault.ensures.none_kept

pub returns-clause-within : goal.returns-clause-within
returns-clause-within g c =
    consumed_within seen c.args.bound.now (opaque_within c.args.bound.now) c.args.self.now c.opaque_without_fault.new.self
    c.opaque_without_fault.result c.opaque_without_fault.ensures.refines
