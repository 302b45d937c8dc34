use Rattle.std.proofs.Common.{refl}
use Rattle.cms_tlv.specs.Spelling.{der}
use Rattle.cms_scalars.specs.Octets.{octet_string}
use Rattle.cms_tsp.proofs.laws.tst_infos_are_one.Goals as goal

pub returns-clause-one : goal.returns-clause-one
unfolding octet_string
returns-clause-one c = ((c.law.ensures.field refl).is_field der).same

pub returns-clause-frame : goal.returns-clause-frame
unfolding octet_string
returns-clause-frame c = ((c.law.ensures.field refl).is_field der).frame
