use Rattle.cms_scalars.proofs.booleans.BooleanWrite.emit.Goals as goal

pub returns-then-self-clause-ok : goal.returns-then-self-clause-ok
returns-then-self-clause-ok g c = rw c.if-self.true c.emit_true.ensures.ok
