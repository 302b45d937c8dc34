use Rattle.std.proofs.Common.{inl, subst}
use Rattle.cms_c.specs.Outcomes.{IsDelivered}
use Rattle.cms_c.proofs.digests.cms_canon_check_digests.Goals as goal

pub returns-in-Ok : goal.returns-in-Ok
returns-in-Ok c = inl (
  c.in-Ok.found.items,
  rw (← c.passed-detached.ensures, ← c.passed-stamped.ensures) c.in-Ok.ensures.ok,
  subst (λ o. IsDelivered o c.args.findings.now c.delivered.new.output c.delivered.result) c.deref.ensures.value c.delivered.ensures,
)
