use Rattle.std.proofs.Common.{◌<◌, length, ap, ◌∙◌, arith}
use Rattle.cms_fields.proofs.AssemblyLaws.{length_octets}
use Rattle.cms_setof.specs.Pieces.{marked_piece}
use Rattle.cms_setof.proofs.PieceLaws.{piece_taken, part_taken, count_more}
use Rattle.cms_setof.proofs.stack.take_first.Goals as goal

pub returns-then-len-left : goal.returns-then-len-left
returns-then-len-left c =
    let k = c.args.kept.now in
    let v = c.loop-left.invariant in
    let p = c.in-Some.piece in
    let first = c.loop-left.first.items in
    let last = c.in_ok-last.last in
    let rest = c.in_ok-last.rest in
    let octets = marked_piece k p in
    let n = ap length c.octets-len.ensures ∙ length_octets octets in
    let longer : c.loop-left.left < length octets = omega (arith, c.if-len-left.true, n) in
    let cut = c.in_ok-last.ensures.parts k longer in
    let one = c.in_ok-last.ensures.first k longer in
    let push = c.in_ok-push.ensures.items in
    record {
      parts = part_taken k first c.loop-left.pieces.items c.pop.new.self.items p v.parts c.in-Some.ensures.items last rest c.push.new.self.items
          c.push-then-len-left.new.self.items cut push c.in_ok-push-2.ensures.items;
      counted = count_more k first c.push.new.self.items last push ∙ omega (arith, one, v.counted);
    }

pub loop-left-preserved : goal.loop-left-preserved
loop-left-preserved c =
    let k = c.args.kept.now in
    let v = c.loop-left.invariant in
    let p = c.in-Some.piece in
    let first = c.loop-left.first.items in
    let new = c.push-in-loop-left.new.self.items in
    let n = ap length c.octets-len.ensures ∙ length_octets (marked_piece k p) in
    let push = c.in_ok-push-3.ensures.items in
    let count = count_more k first new p push in
    record {
      parts = piece_taken k first c.loop-left.pieces.items c.pop.new.self.items p v.parts c.in-Some.ensures.items new push;
      counted = omega (arith, count, n, v.counted, c.if-len-left.false);
    }
