use Rattle.std.proofs.lemmas.Result.{err_from_is_err_and}
use Rattle.cms_tlv.proofs.FoundGives.{memory_wanted}
use Rattle.cms_tlv.proofs.source.Source.element.Goals as goal

pub returns-in_err-element_at_hand-clause-refines : goal.returns-in_err-element_at_hand-clause-refines
returns-in_err-element_at_hand-clause-refines g c =
    let p = err_from_is_err_and c.from_residual.result c.from_residual.ensures.1 in
    rw (p.1, p.2) (memory_wanted _ c.requires.sound c.in_err-element_at_hand.ensures.err)
