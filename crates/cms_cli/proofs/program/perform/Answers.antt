use Rattle.cms_cli.proofs.Answered.{answered}
use Rattle.cms_cli.proofs.program.perform.Goals as goal

pub returns-in-Show : goal.returns-in-Show
returns-in-Show g c =
    rw c.in-Show.is (answered _ _ _ _ c.show-input.result.1 c.show-input.ensures.ok c.show-input.ensures.faults c.report_answer.ensures.ok
    c.report_answer.ensures.err)

pub returns-in-Changes : goal.returns-in-Changes
returns-in-Changes g c =
    rw c.in-Changes.is (answered _ _ _ _ c.changes-input.result.1 c.changes-input.ensures.ok c.changes-input.ensures.faults
    c.report_answer-in-Changes.ensures.ok c.report_answer-in-Changes.ensures.err)
