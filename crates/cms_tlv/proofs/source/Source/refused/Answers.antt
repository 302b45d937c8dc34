use Rattle.cms_tlv.proofs.Steps.{stops_here}
use Rattle.cms_tlv.proofs.source.Source.refused.Goals as goal

pub returns-clause-stops : goal.returns-clause-stops
returns-clause-stops g c sound = rw (c.fail.ensures.state, c.fail.ensures.same) (stops_here c.args.self.now _ sound c.position-at.ensures.value)
