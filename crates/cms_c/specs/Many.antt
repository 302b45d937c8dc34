-- What the conversion of messages one after another promises.
use Rattle.std.specs.Prelude.{◌≡◌, ◌⊎◌, ◌<◌, ℕ, List, [], ◌++◌, length, Option, Some, None}
use Rattle.std.specs.List.{All}
use Rattle.cms_tlv.specs.declared.fault.Fault.{Fault}
use Rattle.cms_tlv.specs.declared.fault.Fault.TheVariants as faults
use Rattle.cms_canon.specs.Many.{Conversion, IsBegun, IsFaithful, messages_of, ders_of}
use Rattle.cms_canon.specs.declared.message.Tail.TheVariants.{Leave}
use Rattle.cms_canon.specs.Messages.{IsDerOf}
use Rattle.cms_canon.specs.Received.{KeepsReceived}
use Rattle.cms_canon.specs.Whole.{Whole}
use Rattle.cms_c.specs.Calls.{IsFirstRefusal}
use Rattle.cms_c.specs.Outcomes.{SaysFault, IsReported}
use Rattle.cms_c.specs.declared.many.Many.{Many}
use Rattle.cms_c.specs.declared.outcome.Outcome.{Outcome}

--- `EndsBy rest limit refusal`: nothing is left, and the limit is not 0; or what is left is refused
---   as a message that more may follow (`IsFirstRefusal`, `IsBegun`)
abbrev pub EndsBy : List ℕ → ℕ → Option Fault → Type 0
EndsBy rest limit None = (rest ≡ []) × (0 < limit)
EndsBy rest limit (Some (faults.Refused reason at)) =
    IsFirstRefusal Leave rest limit reason at × IsBegun (faults.Refused reason at)
EndsBy rest limit (Some e) = ⊥

--- `ArePrefix input limit messages read octets refusal`: the input begins with so many messages,
---   which have so many octets; the octets are what is written
--- | for them, in turn (`IsFaithful`); and the input ends there, or the next message is refused
---   (`EndsBy`)
pub record ArePrefix (input : List ℕ) (limit messages read : ℕ) (octets : List ℕ)
    (refusal : Option Fault) : Type 0 where
  pub conversions : List Conversion
  pub rest : List ℕ
  pub are : All (IsFaithful limit) conversions
  pub begins : input ≡ messages_of conversions ++ rest
  pub ends : EndsBy rest limit refusal
  pub count : messages ≡ length conversions
  pub length_is : read ≡ length (messages_of conversions)
  pub written : octets ≡ ders_of conversions

-- What is written for such messages is reported.
abbrev pub AreReported : List ℕ → ℕ → List ℕ → List ℕ → Many → Type 0
AreReported input limit before after m =
    (octets : List ℕ) × (refusal : Option Fault)
    × ArePrefix input limit m.messages m.read octets refusal
    × IsReported refusal octets before after m.outcome

-- DER of a message that was read, and after it other octets are reported.
abbrev pub AreReportedAfter : Whole → Option Fault → List ℕ → List ℕ → List ℕ → Outcome → Type 0
AreReportedAfter m refusal others before after o =
    (octets : List ℕ) × IsDerOf m.value octets × KeepsReceived m.octets octets
    × IsReported refusal (octets ++ others) before after o

--- `AreConversions input limit before after m`: what is written for such messages is reported
---   (`IsReported`), and `m` counts them; or memory ran out,
--- | the counts are 0, and the room is as it was
abbrev pub AreConversions : List ℕ → ℕ → List ℕ → List ℕ → Many → Type 0
AreConversions input limit before after m =
    ((octets : List ℕ) × (refusal : Option Fault)
    × ArePrefix input limit m.messages m.read octets refusal
    × IsReported refusal octets before after m.outcome)
    ⊎ (SaysFault faults.OutOfMemory m.outcome × (m.messages ≡ 0) × (m.read ≡ 0) × (after ≡ before))
