use Rattle.cms_tlv.proofs.Steps.{stops_here}
use Rattle.cms_tlv.specs.declared.fault.Fault.TheVariants as faults
use Rattle.cms_tlv.proofs.source.Source.out_of_memory.Goals as goal

pub returns-in-None-clause-stops : goal.returns-in-None-clause-stops
returns-in-None-clause-stops g c sound = rw (c.fail.ensures.state, c.fail.ensures.same) (stops_here c.args.self.now faults.OutOfMemory sound tt)
