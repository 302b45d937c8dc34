use Rattle.cms_tlv.specs.State.{State}
use Rattle.cms_scalars.specs.Borrowed.{parts_in}
use Rattle.cms_scalars.specs.declared.octets.OctetsSpan.{OctetsSpan}
use Rattle.cms_scalars.proofs.StringGives.{joined}
use Rattle.cms_scalars.proofs.octets.OctetsSpanField.read.Goals as goal

pub returns-clause-refines : goal.returns-clause-refines
returns-clause-refines g c sound =
    joined g.row.ID c.args.bound.now (λ (s : State) (x : OctetsSpan g.row.ID). parts_in s.done x) _ _ c.read_octets.result
    (c.read_octets.ensures.reads.refines sound)
