use Rattle.std.proofs.Common.{◌++◌}
use Rattle.std.proofs.lemmas.Result.{on_ok_weaker}
use Rattle.cms_fields.specs.Assembly.{marked, made}
use Rattle.cms_setof.specs.Pieces.{marked_piece}
use Rattle.cms_setof.specs.internal.Tracing.{stacked}
use Rattle.cms_setof.proofs.AbsorbingLaws.{parts_put, copied_still}
use Rattle.cms_setof.proofs.absorbing.put_made.Goals as goal

pub returns-in_default : goal.returns-in_default
returns-in_default c =
    let k = c.args.kept.now in
    on_ok_weaker c.put_first.result (λ h. copied_still (marked made c.args.octets.items ++ stacked k c.args.pieces.now.items)
    (stacked k c.put_first.new.pieces.items) (h k)) c.put_first.ensures

pub returns : goal.returns
returns c =
    let k = c.args.kept.now in
    on_ok_weaker c.put_first-3.result (λ h. parts_put (marked made c.args.octets.items) (marked_piece k c.split_at_end-rest.result.0)
    (marked_piece k c.split_at_end-rest.result.1) (stacked k c.args.pieces.now.items) (stacked k c.put_first-2.new.pieces.items)
    (stacked k c.put_first-3.new.pieces.items) c.split_at_end-rest.ensures (c.in_ok-put_first.ensures k) (h k)) c.put_first-3.ensures
