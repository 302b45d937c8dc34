use Rattle.std.proofs.Common.{sym, ◌∙◌}
use Rattle.cms_cli.proofs.Answered.{is_asked, is_refused, not_done}
use Rattle.cms_cli.proofs.program.run.Goals as goal

pub returns-in-Ok : goal.returns-in-Ok
returns-in-Ok g c t h = rw (is_asked c.task_of.result t c.in-Ok.task c.in-Ok.is (c.task_of.ensures.asked t h)) c.perform.ensures

pub returns-in-Err-Help : goal.returns-in-Err-Help
returns-in-Err-Help g c t h =
    absurd (is_refused c.task_of.result t c.in-Err-Help.field-0 c.in-Err-Help.is (λ k. let x = sym c.in-Err-Help.field-0-is ∙ k in cc)
    (c.task_of.ensures.asked t h))

pub returns-in-Err-Usage : goal.returns-in-Err-Usage
returns-in-Err-Usage g c t h =
    absurd (is_refused c.task_of.result t c.in-Err-Usage.field-0 c.in-Err-Usage.is (λ k. let x = sym c.in-Err-Usage.field-0-is ∙ k in cc)
    (c.task_of.ensures.asked t h))

pub returns-in-Err-OutOfMemory : goal.returns-in-Err-OutOfMemory
returns-in-Err-OutOfMemory g c t h = not_done _ _ _ _ _ c.report_fault.ensures t
