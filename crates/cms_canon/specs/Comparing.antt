-- What comparing two messages promises.
use Rattle.std.specs.Prelude.{◌≡◌, ℕ, Bool}
use Rattle.cms_canon.specs.declared.sameness.SameFault.{SameFault}
use Rattle.cms_canon.specs.declared.sameness.SameFault.TheVariants as faults
use Rattle.cms_canon.specs.declared.message.Tail.{Tail}
use Rattle.cms_canon.specs.declared.message.Tail.TheVariants as tails
use Rattle.cms_canon.specs.Exact.{ExactFaults}
use Rattle.cms_canon.specs.Kinds.{same_message}
use Rattle.cms_canon.specs.Messages.{IsRead}
use Rattle.cms_canon.specs.Streams.{Reading, TakesNone}
use Rattle.cms_canon.specs.Whole.{Whole}

--- `IsSame r s limit same`: two readings gave two messages, whatever follows them was left, and
---   `same` says whether they are the same
abbrev pub IsSame : Reading → Reading → ℕ → Bool → Type 0
IsSame r s limit same =
    (m : Whole) × IsRead r limit tails.Leave m × (n : Whole) × IsRead s limit tails.Leave n
    × (same ≡ same_message m.value n.value)

--- `SecondFaults r limit tail f`: the second message was not read (`ExactFaults`); or it was, and
---   memory ran out
abbrev pub SecondFaults : Reading → ℕ → Tail → SameFault → Type 0
SecondFaults r limit tail (faults.First e) = ⊥
SecondFaults r limit tail (faults.Second e) = ExactFaults r limit tail e
SecondFaults r limit tail faults.OutOfMemory = (n : Whole) × IsRead r limit tail n

--- `SameFaults r s limit f`: a fault of the first (`ExactFaults`), and nothing was taken in the
---   second reading; or one of the second, after a message
abbrev pub SameFaults : Reading → Reading → ℕ → SameFault → Type 0
SameFaults r s limit (faults.First e) = ExactFaults r limit tails.Leave e × TakesNone s
SameFaults r s limit e =
    ((m : Whole) × IsRead r limit tails.Leave m) × SecondFaults s limit tails.Leave e
