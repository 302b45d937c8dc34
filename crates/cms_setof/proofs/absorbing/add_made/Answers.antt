use Rattle.std.proofs.Common.{◌++◌}
use Rattle.std.proofs.lemmas.Result.{on_ok_weaker}
use Rattle.cms_fields.specs.Assembly.{marked, made}
use Rattle.cms_setof.specs.Pieces.{marked_piece, marked_pieces}
use Rattle.cms_setof.proofs.AbsorbingLaws.{parts_added, copied_still}
use Rattle.cms_setof.proofs.absorbing.add_made.Goals as goal

pub returns-in_default-clause-copies : goal.returns-in_default-clause-copies
returns-in_default-clause-copies c =
    let k = c.args.kept.now in
    on_ok_weaker c.add.result (λ h. copied_still (marked_pieces k c.args.pieces.now.items ++ marked made c.args.octets.items)
    (marked_pieces k c.add.new.pieces.items) h) c.add.ensures.octets

pub returns-clause-copies : goal.returns-clause-copies
returns-clause-copies c =
    let k = c.args.kept.now in
    on_ok_weaker c.add-3.result (λ h. parts_added (marked made c.args.octets.items) (marked_piece k c.in_ok-copied.copied)
    (marked_piece k c.in_ok-copied.rest) (marked_pieces k c.args.pieces.now.items) (marked_pieces k c.add-2.new.pieces.items)
    (marked_pieces k c.add-3.new.pieces.items) c.in_ok-copied.ensures c.in_ok-add.ensures.octets h) c.add-3.ensures.octets
