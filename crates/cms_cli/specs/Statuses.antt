-- The exit status of each command, for what the library returned.
use Rattle.std.specs.Prelude.{◌≡◌, ℕ, Bool, Result, Ok, Err}
use Rattle.cms_tlv.specs.declared.fault.Fault.{Fault}
use Rattle.cms_tlv.specs.declared.fault.Fault.TheVariants as faults
use Rattle.cms_canon.specs.declared.convert.Done.{Done}
use Rattle.cms_canon.specs.declared.cover.NoCover.{NoCover}
use Rattle.cms_canon.specs.declared.cover.NoCover.TheVariants as uncovered
use Rattle.cms_canon.specs.declared.many.Many.{Many}
use Rattle.cms_canon.specs.declared.many.ManyFault.{ManyFault}
use Rattle.cms_canon.specs.declared.message.Tail.{Tail}
use Rattle.cms_canon.specs.declared.message.Tail.TheVariants as tails
use Rattle.cms_canon.specs.Conversions.{IsCanonicalised, CanonicalFaults}
use Rattle.cms_canon.specs.Covering.{CoverFaults, IsCoverWritten}
use Rattle.cms_canon.specs.Many.{AreConverted, ManyFaults}
use Rattle.cms_canon.specs.Streams.{Reading, Writing}

-- the largest message that the command reads or writes: 256 MiB
abbrev pub command_limit : ℕ
command_limit = 268435456

--- `fault_status f`, `result_status a`: the exit status for a fault, and for what `canonicalise`
---   returned
abbrev pub fault_status : Fault → ℕ
fault_status (faults.Refused reason at) = 3
fault_status faults.Read = 4
fault_status (faults.Write written) = 4
fault_status faults.OutOfMemory = 5

-- and for a result
abbrev pub result_status : {V : Type 0} → Result V Fault → ℕ
result_status (Ok v) = 0
result_status (Err e) = fault_status e

--- `IsAnswer r w limit tail a`: `IsCanonicalised` if `a` is Ok, `CanonicalFaults` if it is an error
abbrev pub IsAnswer : Reading → Writing → ℕ → Tail → Result Done Fault → Type 0
IsAnswer r w limit tail (Ok d) = IsCanonicalised r w limit tail d
IsAnswer r w limit tail (Err e) = CanonicalFaults r w limit tail e

--- `IsConverted r w status`: `status` is that for what `canonicalise`, with the limit 256 MiB
---   (`command_limit`), returned for the whole input
abbrev pub IsConverted : Reading → Writing → ℕ → Type 0
IsConverted r w status =
    (answer : Result Done Fault) × (status ≡ result_status answer)
    × IsAnswer r w command_limit tails.Refuse answer

--- `AreAnswer r w limit a`: `AreConverted` if `a` is Ok, `ManyFaults` if it is an error
abbrev pub AreAnswer : Reading → Writing → ℕ → Result Many ManyFault → Type 0
AreAnswer r w limit (Ok m) = AreConverted r w limit m
AreAnswer r w limit (Err f) = ManyFaults r w limit f

--- `many_status a`: the exit status for what `canonicalise_many` returned
abbrev pub many_status : Result Many ManyFault → ℕ
many_status (Ok m) = 0
many_status (Err f) = fault_status f.fault

--- `AreAllConverted r w status`: `status` is that for what `canonicalise_many`, with the limit 256
---   MiB, returned for the whole input
abbrev pub AreAllConverted : Reading → Writing → ℕ → Type 0
AreAllConverted r w status =
    (answer : Result Many ManyFault) × (status ≡ many_status answer)
    × AreAnswer r w command_limit answer

--- `cover_status a`: the exit status for what `write_cover` returned
abbrev pub cover_status : Result (Unit {0}) NoCover → ℕ
cover_status (Ok u) = 0
cover_status (Err (uncovered.Fault e)) = fault_status e
cover_status (Err e) = 3

--- `IsCoverAnswer`: `IsCoverWritten` if `write_cover` returned Ok, `CoverFaults` if it returned an
---   error
abbrev pub IsCoverAnswer : Reading → Writing → ℕ → Bool → ℕ → Result (Unit {0}) NoCover → Type 0
IsCoverAnswer r w limit with_content signer (Ok u) = IsCoverWritten r w limit with_content signer
IsCoverAnswer r w limit with_content signer (Err e) = CoverFaults r w limit with_content signer e

--- `IsCovered r w with_content signer status`: `status` is that for what `write_cover`, with the
---   limit 256 MiB, returned for the whole input
abbrev pub IsCovered : Reading → Writing → Bool → ℕ → ℕ → Type 0
IsCovered r w with_content signer status =
    (answer : Result (Unit {0}) NoCover) × (status ≡ cover_status answer)
    × IsCoverAnswer r w command_limit with_content signer answer
