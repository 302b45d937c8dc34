use Rattle.std.proofs.Common.{subst}
use Rattle.cms_canon.specs.Pieces.{IsMadeUpOf}
use Rattle.cms_c.proofs.pieces.pieces_in.Goals as goal

pub returns-clause-ok : goal.returns-clause-ok
returns-clause-ok c =
    let m = c.in_ok-message.message in
    let ps = c.in-Ok.pieces.items in (
      m.value,
      ps,
      c.in_ok-message.ensures.ok,
      subst (λ o. IsMadeUpOf (record { octets = o; value = m.value }) ps) c.in_ok-message.ensures.octets c.in-Ok.ensures,
      rw (← c.deref.ensures.value) c.in-Ok-pieces_of_c.ensures,
    )
