use Rattle.std.proofs.lemmas.List.Elements.{All-nil}
use Rattle.cms_setof.specs.Pieces.{HasOctets}
use Rattle.cms_setof.specs.internal.Tracing.{stacked}
use Rattle.cms_setof.proofs.CopiesLaws.{copies_same}
use Rattle.cms_setof.proofs.AbsorbingLaws.{copied_after}
use Rattle.cms_setof.proofs.absorbing.absorbed_after.Goals as goal

pub loop-piece-preserved : goal.loop-piece-preserved
loop-piece-preserved c =
    let k = c.args.kept.now in
    record {
      copies = copied_after k (stacked k c.args.pieces.items) c.loop-piece.left.items c.pop.new.self.items c.in-Some.piece c.in-Some.ensures.items
          c.loop-piece.ordered.items c.add_absorbed.new.pieces.items c.loop-piece.invariant.copies c.in_ok-add_absorbed.ensures.copies;
      have = c.in_ok-add_absorbed.ensures.have;
      joined = c.in_ok-add_absorbed.ensures.joined;
    }

pub loop-piece-init : goal.loop-piece-init
loop-piece-init c = rw c.new-ordered.ensures.items (record {
  copies = copies_same (stacked c.args.kept.now c.args.pieces.items);
  have = All-nil (HasOctets c.args.kept.now);
  joined = tt;
})
