-- A message and, if they are asked for, all octets after it.
use Rattle.std.specs.Prelude.{ℕ, List, Option, Some, None, Bool, true, false, ◌⊎◌}
use Rattle.cms_tlv.specs.declared.fault.Fault.{Fault}
use Rattle.cms_canon.specs.declared.message.Tail.TheVariants as tails
use Rattle.cms_canon.specs.Exact.{ExactFaults}
use Rattle.cms_canon.specs.Messages.{IsRead}
use Rattle.cms_canon.specs.Rest.{IsRest, RestFaults}
use Rattle.cms_canon.specs.Streams.{Reading}
use Rattle.cms_canon.specs.Whole.{Whole}

--- `first_part`, `second_part`: the first and the second part of a reading
abbrev pub first_part : Reading → Option (List ℕ) → ℕ → Reading
first_part r left failures = record r { left_after = left; failures_after = failures }

abbrev pub second_part : Reading → Option (List ℕ) → ℕ → Reading
second_part r left failures = record r { left_before = left; failures_before = failures }

--- `IsGiven r limit with_rest m rest`: a message was read, and nothing follows it; if `with_rest`,
---   a message and all that follows it
abbrev pub IsGiven : Reading → ℕ → Bool → Whole → Option (List ℕ) → Type 0
IsGiven r limit false m None = IsRead r limit tails.Refuse m
IsGiven r limit false m (Some rest) = ⊥
IsGiven r limit true m None = ⊥
IsGiven r limit true m (Some rest) =
    (left : Option (List ℕ)) × (failures : ℕ)
    × IsRead (first_part r left failures) limit tails.Leave m
    × IsRest (second_part r left failures) limit rest

--- `GivenFaults r limit with_rest f`: the message was not read (`ExactFaults`), or what follows it
---   was not (`RestFaults`)
abbrev pub GivenFaults : Reading → ℕ → Bool → Fault → Type 0
GivenFaults r limit false e = ExactFaults r limit tails.Refuse e
GivenFaults r limit true e =
    ExactFaults r limit tails.Leave e
    ⊎ ((m : Whole) × (left : Option (List ℕ)) × (failures : ℕ)
    × IsRead (first_part r left failures) limit tails.Leave m
    × RestFaults (second_part r left failures) limit e)
