use Rattle.std.proofs.Common.{refl, rules}
use Rattle.std.proofs.lemmas.Slice.{overwrites}
use Rattle.cms_setof.proofs.pouring.hold.Goals as goal

pub returns : goal.returns
returns c = record { counted = refl; octets_are = search (rules, overwrites); rest = search (rules, overwrites) }
