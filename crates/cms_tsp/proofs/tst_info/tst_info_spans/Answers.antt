use Rattle.std.proofs.Common.{Ok, refl, ap, ◌∙◌}
use Rattle.cms_scalars.specs.Octets.{octet_string}
use Rattle.cms_tsp.proofs.tst_info.tst_info_spans.Goals as goal

pub returns-in-Ok-Some-clause-found : goal.returns-in-Ok-Some-clause-found
unfolding octet_string
returns-in-Ok-Some-clause-found c = (rw c.in-Ok-Some.field-0-is at (rw c.in-Ok-Some.is at (c.read_der.ensures.found refl refl))).1

pub returns-in-Ok-None-clause-none : goal.returns-in-Ok-None-clause-none
unfolding octet_string
returns-in-Ok-None-clause-none c e v spelled = c.read_der.ensures.none refl refl (c.in-Ok-None.is ∙ ap Ok c.in-Ok-None.field-0-is) v spelled
