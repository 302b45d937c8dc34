use Rattle.std.proofs.Common.{rules}
use Rattle.std.proofs.lemmas.Fn.{All-from_retain}
use Rattle.cms_listing.specs.Changes.{LiesIn}
use Rattle.cms_listing.proofs.changes.within.changes_by.Goals as goal

pub returns : goal.returns
returns c = All-from_retain _ (LiesIn c.args.octets.now c.args.der.now) _ (λ x b f' k. search rules) _ _ c.retain.ensures.filtered
