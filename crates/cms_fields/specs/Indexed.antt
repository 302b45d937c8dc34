-- Going over a list by index.
use Rattle.std.specs.Prelude.{List, drop}
use Rattle.cms_fields.specs.declared.indexed.Items.{Items}

-- what an iterator has yet to give, of a list with these values
abbrev pub left : {L V : Type 0} → (L → List V) → Items L → List V
left values items = drop items.next (values items.list)
