use Rattle.std.proofs.Common.{inl}
use Rattle.cms_c.proofs.changes.cms_canon_list_changes.Goals as goal

pub returns-in-Ok : goal.returns-in-Ok
returns-in-Ok c = inl (c.as_bytes.result.now, c.in-Ok.ensures.ok, c.delivered.ensures)
