-- A record with a number of a range.
use Rattle.std.specs.Prelude.{ℕ, List, Option}
use Rattle.cms_fields.specs.Grammar.{Grammar, tagged, then_by, last_optional}
use Rattle.cms_scalars.specs.Grammar.{integer_type, integer_in_range_type}

--- `Share`: the value of a Share: its numbers, by their contents octets
abbrev pub Share : Type 0
Share = List ℕ × Option (List ℕ)

--- `total`, `percent`: its parts
abbrev pub total : Share → List ℕ
total v = v.0

abbrev pub percent : Share → Option (List ℕ)
percent v = v.1

--- `share`: 30 with an INTEGER, and 80 with a number from 0 to 100 or nothing, as its contents
abbrev pub share : Grammar Share
share = tagged 0x30 (then_by integer_type (last_optional (integer_in_range_type 0x80 0 100)))
