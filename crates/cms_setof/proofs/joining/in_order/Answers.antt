use Rattle.std.proofs.Common.{◌++◌, sym, ◌∙◌, ap, append_assoc}
use Rattle.cms_setof.specs.Pieces.{marked_piece, marked_pieces}
use Rattle.cms_setof.specs.internal.Tracing.{stacked}
use Rattle.cms_setof.proofs.PieceLaws.{stacked_more}
use Rattle.cms_setof.proofs.joining.in_order.Goals as goal

pub loop-piece-preserved : goal.loop-piece-preserved
loop-piece-preserved c =
    let k = c.args.kept.now in
    let p = c.in-Some.piece in
    let rest = c.pop.new.self.items in
    let ordered = marked_pieces k c.loop-piece.ordered.items in
    let first = ap (stacked k) c.in-Some.ensures.items ∙ stacked_more k rest p in
    record {
      octets = ap (λ z. z ++ stacked k rest) c.in_ok-add.ensures.octets ∙ (append_assoc ordered (marked_piece k p) (stacked k rest)
          ∙ (ap (λ z. ordered ++ z) (sym first) ∙ c.loop-piece.invariant.octets));
      have = c.in_ok-add.ensures.have;
      joined = c.in_ok-add.ensures.joined;
    }
