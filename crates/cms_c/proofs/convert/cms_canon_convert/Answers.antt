use Rattle.cms_c.proofs.Conversions.{handed_over}
use Rattle.cms_c.proofs.convert.cms_canon_convert.Goals as goal

pub returns-in-Ok : goal.returns-in-Ok
returns-in-Ok c = handed_over c.in-Ok.message _ _ _ _ _ c.in-Ok.ensures.octets c.in-Ok.ensures.ok c.written.ensures
