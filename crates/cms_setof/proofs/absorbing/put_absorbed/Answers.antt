use Rattle.std.proofs.Common.{◌++◌}
use Rattle.std.proofs.lemmas.Result.{on_ok_weaker}
use Rattle.cms_setof.specs.Pieces.{marked_piece}
use Rattle.cms_setof.specs.internal.Tracing.{stacked}
use Rattle.cms_setof.proofs.AbsorbingLaws.{copied_still}
use Rattle.cms_setof.proofs.absorbing.put_absorbed.Goals as goal

pub returns-in-Copied : goal.returns-in-Copied
returns-in-Copied c =
    let k = c.args.kept.now in
    rw c.in-Copied.is (on_ok_weaker c.put_first.result (λ h. copied_still _ (stacked k c.put_first.new.pieces.items) (h k)) c.put_first.ensures)
