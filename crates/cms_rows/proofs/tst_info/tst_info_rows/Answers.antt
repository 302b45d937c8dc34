use Rattle.std.proofs.Common.{Ok, ap, ◌∙◌}
use Rattle.cms_rows.proofs.tst_info.tst_info_rows.Goals as goal

pub some_rows-requires : goal.some_rows-requires
some_rows-requires c = rw c.in-Ok-Some.field-0-is at (rw c.in-Ok-Some.is at c.tst_info_spans.ensures.found)

pub returns-in-Ok-None-clause-none : goal.returns-in-Ok-None-clause-none
returns-in-Ok-None-clause-none c e v spelled = c.tst_info_spans.ensures.none (c.in-Ok-None.is ∙ ap Ok c.in-Ok-None.field-0-is) v spelled
