-- What a change says.
use Rattle.std.specs.Prelude.{ℕ, ◌+◌, ◌≤◌, List, length}
use Rattle.cms_listing.specs.declared.changes.change.Change.{Change}

--- `LiesIn octets der c`: what is changed lies in the octets of a message, and what it is changed
---   to in those of its DER
abbrev pub LiesIn : List ℕ → List ℕ → Change → Type 0
LiesIn octets der c = (c.at + c.length ≤ length octets) × (c.to + c.to_length ≤ length der)
