use Rattle.std.proofs.Common.{inl}
use Rattle.cms_c.proofs.show.cms_canon_show.Goals as goal

pub returns-in-Ok : goal.returns-in-Ok
returns-in-Ok c = inl (c.as_bytes.result.now, c.in-Ok.ensures.ok, c.delivered.ensures)
