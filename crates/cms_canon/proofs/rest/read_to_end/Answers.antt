use Rattle.std.proofs.Common.{◌∙◌, [], ◌∷◌, ◌++◌, refl, arith}
use Rattle.std.proofs.lemmas.List.{length-append}
use Rattle.std.proofs.KnownBytes.{Consumes-trans}
use Rattle.cms_canon.proofs.rest.read_to_end.Goals as goal

pub returns-then-branch-clause-faults : goal.returns-then-branch-clause-faults
returns-then-branch-clause-faults g c =
    let (next, taken) = c.in_ok-has_more.ensures.more c.if-branch.true in
    let rest = c.loop-piece.rest.items in
    let v = c.loop-piece.invariant in (
      refl,
      refl,
      c.in_ok-has_more.ensures.failures ∙ v.failures,
      (
        rest ++ next ∷ [],
        Consumes-trans _ _ _ rest (next ∷ []) v.taken taken,
        omega (arith, length-append rest (next ∷ []), v.within, c.loop-piece-test.false, c.len.ensures),
      ),
    )
