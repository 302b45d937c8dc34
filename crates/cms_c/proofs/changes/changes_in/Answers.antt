use Rattle.std.proofs.Common.{subst}
use Rattle.std.specs.List.{All}
use Rattle.cms_listing.specs.Changes.{LiesIn}
use Rattle.cms_c.proofs.changes.changes_in.Goals as goal

pub returns-clause-ok : goal.returns-clause-ok
returns-clause-ok c =
    let m = c.in_ok-message.message in
    let cs = c.in-Ok.changes.items in (
      m.value,
      c.in-Ok.ensures.0,
      cs,
      c.in_ok-message.ensures.ok,
      c.in-Ok.ensures.1,
      subst (λ o. All (LiesIn o c.in-Ok.ensures.0) cs) c.in_ok-message.ensures.octets c.in-Ok.ensures.2,
      rw (← c.deref.ensures.value) c.in-Ok-changes_of_c.ensures,
    )
