use Rattle.cms_message.proofs.CountersignatureLaws.{none_emits}
use Rattle.cms_message.proofs.countersignature.NoCountersignaturesWrite.emit.Goals as goal

pub returns-clause-ok : goal.returns-clause-ok
returns-clause-ok g c = none_emits c.law.ensures _ _
