use Rattle.std.proofs.Common.{Ok, ap, ◌∙◌}
use Rattle.cms_c.proofs.fields.rows_of_tst_info.Goals as goal

pub returns-in-Ok-None-clause-err : goal.returns-in-Ok-None-clause-err
returns-in-Ok-None-clause-err c v spelled = c.tst_info_rows.ensures.none (c.in-Ok-None.is ∙ ap Ok c.in-Ok-None.field-0-is) v spelled
