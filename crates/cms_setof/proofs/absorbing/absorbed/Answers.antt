use Rattle.std.proofs.lemmas.Result.{IfOk-weaker}
use Rattle.cms_setof.specs.Pieces.{marked_pieces}
use Rattle.cms_setof.specs.internal.Tracing.{stacked}
use Rattle.cms_setof.proofs.CopiesLaws.{copies_through}
use Rattle.cms_setof.proofs.absorbing.absorbed.Goals as goal

pub returns-clause-copies : goal.returns-clause-copies
returns-clause-copies c =
    let k = c.args.kept.now in
    IfOk-weaker c.absorbed_after.result _ _ (λ v h.
    copies_through (marked_pieces k c.args.pieces.items) (stacked k c.in_ok-stack.stack.items) (marked_pieces k v.items) c.in_ok-stack.ensures h)
    c.absorbed_after.ensures.copies
