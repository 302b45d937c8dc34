use Rattle.std.proofs.Common.{◌≡◌, ◌++◌, drop, map}
use Rattle.cms_c.specs.Changes.{change_of_c}
use Rattle.cms_c.proofs.changes.changes_of_c.Given as goal

abbrev pub invariant-loop-change : goal.invariant-loop-change
invariant-loop-change l = l.all.items ++ map change_of_c (drop l.change-index l.changes) ≡ map change_of_c l.changes
