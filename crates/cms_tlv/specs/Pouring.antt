-- A write that failed.
use Rattle.std.specs.Prelude.{ℕ, ◌<◌, List, Option, take, length}
use Rattle.std.specs.Io.KnownBytes.{Appends}
use Rattle.cms_tlv.specs.declared.fault.Fault.{Fault}
use Rattle.cms_tlv.specs.declared.fault.Fault.TheVariants as faults

--- `StopsAfter octets old new f`: `f` is a write fault; it says how many of `octets` the writer
---   took: the first ones, and not all
abbrev pub StopsAfter : List ℕ → Option (List ℕ) → Option (List ℕ) → Fault → Type 0
StopsAfter octets old new (faults.Write written) =
    (written < length octets) × Appends old new (take written octets)
StopsAfter octets old new (faults.Refused reason at) = ⊥
StopsAfter octets old new faults.Read = ⊥
StopsAfter octets old new faults.OutOfMemory = ⊥
