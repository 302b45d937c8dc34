use Rattle.cms_tlv.proofs.Within.{consumed_within, primitive_within}
use Rattle.cms_tlv.proofs.PrimitiveClauses.{primitive_found, primitive_faults}
use Rattle.cms_tlv.specs.Refines.{seen}
use Rattle.cms_tlv.specs.Reading.{primitive_of}
use Rattle.cms_tlv.proofs.Ties.{primitive_ties, tied_from}
use Rattle.cms_tlv.proofs.source.Source.primitive.Goals as goal

pub returns-clause-found : goal.returns-clause-found
returns-clause-found g c =
    primitive_found c.args.ident c.args.bound.now c.args.self.now c.primitive_without_fault.new.self c.primitive_without_fault.result
    c.primitive_without_fault.ensures.refines c.primitive_without_fault.ensures.clear

pub returns-clause-faults : goal.returns-clause-faults
returns-clause-faults g c sound =
    primitive_faults c.args.ident c.args.bound.now c.args.self.now c.primitive_without_fault.new.self c.primitive_without_fault.result
    c.primitive_without_fault.ensures.refines

pub returns-clause-reasons : goal.returns-clause-reasons
returns-clause-reasons g c sound =
    tied_from seen (primitive_of c.args.ident c.args.bound.now) c.args.self.now c.primitive_without_fault.new.self
    c.primitive_without_fault.result (λ d reason at e. primitive_ties c.args.ident c.args.bound.now d e)
    c.primitive_without_fault.ensures.refines c.primitive_without_fault.ensures.none_kept

pub returns-clause-within : goal.returns-clause-within
returns-clause-within g c =
    consumed_within seen c.args.bound.now (primitive_within c.args.ident c.args.bound.now) c.args.self.now
    c.primitive_without_fault.new.self c.primitive_without_fault.result c.primitive_without_fault.ensures.refines
