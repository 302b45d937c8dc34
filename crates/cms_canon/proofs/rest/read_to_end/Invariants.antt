use Rattle.std.proofs.Common.{◌≡◌, ◌≤◌, ◌-◌, length}
use Rattle.std.specs.Io.KnownBytes.{Consumes}
use Rattle.cms_canon.proofs.rest.read_to_end.Given as goal

abbrev pub invariant-loop-piece : goal.invariant-loop-piece
invariant-loop-piece g l = record {
  taken : Consumes (g.R.Input.left l.fn.reader) (g.R.Input.left l.reader) l.rest.items;
  within : length l.rest.items ≤ l.limit;
  failures : g.R.Input.failures l.reader ≡ g.R.Input.failures l.fn.reader;
}

abbrev pub decreases-loop-piece : goal.decreases-loop-piece
decreases-loop-piece g l = l.limit - length l.rest.items
