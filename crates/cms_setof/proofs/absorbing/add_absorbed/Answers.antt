use Rattle.std.proofs.lemmas.Result.{on_ok_weaker}
use Rattle.cms_setof.specs.Pieces.{marked_pieces}
use Rattle.cms_setof.proofs.AbsorbingLaws.{copied_still}
use Rattle.cms_setof.proofs.absorbing.add_absorbed.Goals as goal

pub returns-in-Copied-clause-copies : goal.returns-in-Copied-clause-copies
returns-in-Copied-clause-copies c =
    let k = c.args.kept.now in
    rw c.in-Copied.is (on_ok_weaker c.add.result (λ h. copied_still _ (marked_pieces k c.add.new.pieces.items) h) c.add.ensures.octets)
