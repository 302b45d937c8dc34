use Rattle.std.proofs.Common.{◌≡◌, drop}
use Rattle.cms_scalars.specs.Names.{name_in, names_table}
use Rattle.cms_scalars.proofs.names.name_among.Given as goal

abbrev pub invariant-loop-row : goal.invariant-loop-row
invariant-loop-row l = name_in (names_table l.table) l.octets ≡ name_in (names_table (drop l.row-index l.table)) l.octets
