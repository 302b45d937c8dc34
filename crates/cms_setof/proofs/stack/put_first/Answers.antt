use Rattle.std.proofs.Common.{ap, ◌∙◌}
use Rattle.cms_setof.specs.internal.Tracing.{stacked}
use Rattle.cms_setof.proofs.PieceLaws.{stacked_more}
use Rattle.cms_setof.proofs.stack.put_first.Goals as goal

pub returns : goal.returns
returns c k = ap (stacked k) c.in_ok-push.ensures.items ∙ stacked_more k c.args.pieces.now.items c.args.piece
