use Rattle.std.proofs.Common.{[], ◌∷◌}
use Rattle.std.proofs.lemmas.Result.{err_from_is_err_and}
use Rattle.cms_scalars.proofs.StringGives.{primitive_fails, primitive_gave, primitive_wants_memory, adds, added_nothing, with_added}
use Rattle.cms_scalars.proofs.octets.read_part.Goals as goal

pub returns-in_err-part-clause-ok : goal.returns-in_err-part-clause-ok
returns-in_err-part-clause-ok g c = added_nothing _ (err_from_is_err_and c.from_residual.result c.from_residual.ensures.1).1

pub returns-in_err-part-clause-refines : goal.returns-in_err-part-clause-refines
returns-in_err-part-clause-refines g c =
    let p = err_from_is_err_and c.from_residual.result c.from_residual.ensures.1 in
    rw (p.1, p.2) (primitive_fails _ _ (c.in_err-part.ensures.refines c.requires.no_fault))

pub returns-in-Ok-clause-ok : goal.returns-in-Ok-clause-ok
returns-in-Ok-clause-ok g c = record {
  added = adds _ _ (c.in_ok-part.part ∷ []) c.in-Ok.ensures.ok;
  moved = c.in_ok-part.ensures.ok.some;
  clear = c.in_ok-part.ensures.clear;
}

pub returns-in-Ok-clause-refines : goal.returns-in-Ok-clause-refines
returns-in-Ok-clause-refines g c = with_added _ _ _ c.in-Ok.ensures.ok (primitive_gave _ _ (c.in_ok-part.ensures.refines c.requires.no_fault))

pub returns-in-Err-clause-ok : goal.returns-in-Err-clause-ok
returns-in-Err-clause-ok g c = tt

pub returns-in-Err-clause-refines : goal.returns-in-Err-clause-refines
returns-in-Err-clause-refines g c =
    let part = c.in_ok-part.ensures.refines c.requires.no_fault in
    primitive_wants_memory _ _ part (c.out_of_memory.ensures.told part.sound) (c.out_of_memory.ensures.state part.sound)
