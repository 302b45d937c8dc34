use Rattle.std.proofs.Common.{[], ◌++◌}
use Rattle.std.proofs.lemmas.List.{append-nil}
use Rattle.cms_setof.specs.Pieces.{marked_pieces}
use Rattle.cms_setof.proofs.AbsorbingLaws.{copied_before, copied_still}
use Rattle.cms_setof.proofs.absorbing.absorbed_before.Goals as goal

pub loop-piece-preserved : goal.loop-piece-preserved
loop-piece-preserved c =
    let k = c.args.kept.now in
    copied_before k (marked_pieces k c.args.pieces.items) c.loop-piece.left.items c.pop.new.self.items c.in-Some.piece c.in-Some.ensures.items
    c.loop-piece.stack.items c.put_absorbed.new.pieces.items c.loop-piece.invariant c.in_ok-put_absorbed.ensures

pub loop-piece-init : goal.loop-piece-init
loop-piece-init c =
    let whole = marked_pieces c.args.kept.now c.args.pieces.items in
    rw c.new-stack.ensures.items (copied_still whole (whole ++ []) (append-nil whole))
