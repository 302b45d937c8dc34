use Rattle.std.proofs.Common.{inl, subst}
use Rattle.cms_c.specs.Outcomes.{IsDelivered}
use Rattle.cms_c.proofs.changes.cms_canon_changes.Goals as goal

pub returns-in-Ok : goal.returns-in-Ok
returns-in-Ok c = inl (
  c.in-Ok.found.items,
  c.in-Ok.ensures.ok,
  subst (λ o. IsDelivered o c.args.changes.now c.delivered.new.output c.delivered.result) c.deref.ensures.value c.delivered.ensures,
)
