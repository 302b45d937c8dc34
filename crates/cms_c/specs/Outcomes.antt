-- What an outcome says, and what a call leaves in the room for what it delivers.
use Rattle.std.specs.Prelude.{◌≡◌, ◌<◌, ◌≤◌, ◌⊎◌, ℕ, ◌-◌, List, [], ◌++◌, length, drop, replicate}
use Rattle.std.specs.Prelude.{codes, Option, Some, None}
use Rattle.cms_tlv.specs.declared.fault.Fault.{Fault}
use Rattle.cms_tlv.specs.declared.fault.Fault.TheVariants as faults
use Rattle.cms_tlv.specs.Reasons.{reason_number, reason_name}
use Rattle.cms_canon.specs.declared.sameness.SameFault.{SameFault}
use Rattle.cms_canon.specs.declared.sameness.SameFault.TheVariants as same
use Rattle.cms_c.specs.declared.outcome.Lack.{Lack}
use Rattle.cms_c.specs.declared.outcome.Lack.TheVariants as lacks
use Rattle.cms_c.specs.declared.outcome.Outcome.{Outcome}

--- `IsName`: a name is 24 octets: those of `name`, then zeros
abbrev pub IsName : List ℕ → List ℕ → Type 0
IsName octets name = (octets ≡ name ++ replicate (24 - length name) 0) × (length octets ≡ 24)

--- `Says o status reason at octets name`: every field of the outcome `o`
pub record Says (o : Outcome) (status reason at octets : ℕ) (name : List ℕ) : Type 0 where
  pub status_is : o.status ≡ status
  pub reason_is : o.reason ≡ reason
  pub at_is : o.at ≡ at
  pub octets_is : o.octets ≡ octets
  pub name_is : IsName o.name name

--- `AreWritten IsSaid octets before after o`: the octets are at the beginning of the room, what
---   follows them in it is as it was, and `IsSaid o`
--- | or status 6: they do not fit, and the room is as it was
abbrev pub AreWritten : {A : Type 0} → (Outcome → Type 0) → List A → List A → List A → Outcome
    → Type 0
AreWritten {A} IsSaid octets before after o =
    (IsSaid o × (length octets ≤ length before) × (after ≡ octets ++ drop (length octets) before))
    ⊎ (Says o 6 0 0 (length octets) [] × (length before < length octets) × (after ≡ before))

--- `IsDelivered octets before after o`: `AreWritten` of octets, findings or rows, with status 0
abbrev pub IsDelivered : {A : Type 0} → List A → List A → List A → Outcome → Type 0
IsDelivered octets = AreWritten (λ o. Says o 0 0 0 (length octets) []) octets

--- `SaysFaultOf n f o`: the outcome for the fault `f`, and its `octets` if it is a refusal: `n`
abbrev pub SaysFaultOf : ℕ → Fault → Outcome → Type 0
SaysFaultOf message (faults.Refused reason at) o =
    Says o 3 (reason_number reason) at message (reason_name reason)
SaysFaultOf message e o = Says o 5 0 0 0 []

-- so many octets are written, and if there is a refusal of what comes after them, this is said
abbrev pub SaysReport : Option Fault → ℕ → Outcome → Type 0
SaysReport None n o = Says o 0 0 0 n []
SaysReport (Some e) n o = SaysFaultOf n e o

--- `IsReported refusal octets before after o`: the octets are delivered; or if there is a refusal
---   of what comes after them, they are written, and the outcome
--- | says the refusal and how many they are
abbrev pub IsReported : Option Fault → List ℕ → List ℕ → List ℕ → Outcome → Type 0
IsReported None octets = IsDelivered octets
IsReported (Some e) octets = AreWritten (SaysFaultOf (length octets) e) octets

--- `SaysFault f o`: `SaysFaultOf 0 f o`
abbrev pub SaysFault : Fault → Outcome → Type 0
SaysFault = SaysFaultOf 0

--- `SaysSameFault e o`: that of the first message or of the second; or memory ran out
abbrev pub SaysSameFault : SameFault → Outcome → Type 0
SaysSameFault (same.First e) = SaysFaultOf 1 e
SaysSameFault (same.Second e) = SaysFaultOf 2 e
SaysSameFault same.OutOfMemory = SaysFaultOf 0 faults.OutOfMemory

--- `SaysLack l o`: the outcome if there is no cover, no part or no TSTInfo, or digests do not
---   suffice
abbrev pub SaysLack : Lack → Outcome → Type 0
SaysLack (lacks.Fault e) o = SaysFault e o
SaysLack lacks.NoSignedData o = Says o 3 101 0 0 (codes "no signed data")
SaysLack lacks.NoSigner o = Says o 3 102 0 0 (codes "no such signer")
SaysLack lacks.NoContent o = Says o 3 103 0 0 (codes "no content")
SaysLack lacks.NoTstInfo o = Says o 3 105 0 0 (codes "not a TSTInfo in DER")
SaysLack lacks.NoDigest o = Says o 3 106 0 0 (codes "digest not given")
SaysLack lacks.NeedsContent o = Says o 3 107 0 0 (codes "needs the content")
