use Rattle.std.proofs.Common.{arith, sym, ◌∙◌}
use Rattle.cms_pem.proofs.Edges.{trimmed_is}
use Rattle.cms_pem.proofs.edge.trimmed.Goals as goal
use Rattle.cms_pem.proofs.edge.trimmed.Goals.{then-loop-n-test+else-is_blank, else-loop-n-test}

pub returns : goal.returns
returns c =
    trimmed_is c.args.line.now c.loop-n.n c.loop-n.invariant.within c.loop-n.invariant.blank
    (λ h. elim c.loop-n-test.branch [ then-loop-n-test+else-is_blank w ↦ sym w.is_blank.ensures ∙ w.if-is_blank.false | else-loop-n-test w ↦ absurd (omega arith) ])
