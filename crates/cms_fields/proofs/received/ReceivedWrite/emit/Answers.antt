use Rattle.std.proofs.lemmas.Result.{on_ok_weaker}
use Rattle.cms_fields.proofs.EmitLaws.{received_emits}
use Rattle.cms_fields.proofs.received.ReceivedWrite.emit.Goals as goal

pub returns-clause-ok : goal.returns-clause-ok
returns-clause-ok g c = on_ok_weaker c.span.result (received_emits g.K.Kind.is c.requires) c.span.ensures.ok
