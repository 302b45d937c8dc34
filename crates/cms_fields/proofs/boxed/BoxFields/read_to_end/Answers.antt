use Rattle.cms_tlv.proofs.Bind.{fails_then}
use Rattle.cms_tlv.proofs.Loops.{wants_memory}
use Rattle.cms_fields.proofs.boxed.BoxFields.read_to_end.Goals as goal

pub returns-clause-refines : goal.returns-clause-refines
returns-clause-refines g c =
    let fields = c.in_ok-fields.ensures.refines in
    rw (c.out_of_memory.ensures.state fields.sound, c.out_of_memory.ensures.told fields.sound)
    (fails_then fields.reaches (wants_memory _ c.read_to_end.new.source fields.sound))
