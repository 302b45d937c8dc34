-- What each call of the library for C promises.
use Rattle.std.specs.Prelude.{◌≡◌, ◌⊎◌, ℕ, ◌^◌, List, [], map, Option, Some, None, Bool}
use Rattle.std.specs.Prelude.{true, false, min, if◌then◌else◌}
use Rattle.cms_tlv.specs.declared.fault.Fault.{Fault}
use Rattle.cms_tlv.specs.declared.fault.Fault.TheVariants as faults
use Rattle.cms_tlv.specs.declared.fault.Reason.{Reason}
use Rattle.cms_check.specs.declared.report.Finding.{Finding}
use Rattle.cms_check.specs.declared.verifier.Verdict.TheVariants.{Unknown}
use Rattle.cms_canon.specs.declared.sameness.SameFault.{SameFault}
use Rattle.cms_canon.specs.declared.sameness.SameFault.TheVariants as same
use Rattle.cms_canon.specs.declared.message.Tail.{Tail}
use Rattle.cms_canon.specs.declared.message.Tail.TheVariants.{Refuse}
use Rattle.cms_canon.specs.Checking.{AreFindings}
use Rattle.cms_canon.specs.Covering.{CoversAttributes, cover_at}
use Rattle.cms_canon.specs.Denotes.{IsAcceptedAs}
use Rattle.cms_rows.specs.declared.kinds.TheConstants.{TST_INFO}
use Rattle.cms_rows.specs.declared.row.Row.{Row}
use Rattle.cms_rows.specs.Rows.{Show}
use Rattle.cms_rows.specs.Fields.{of_tst_info}
use Rattle.cms_tsp.specs.TstInfo.{TstInfo, tst_info}
use Rattle.cms_canon.specs.Fields.{entries_of}
use Rattle.cms_canon.specs.Exact.{IsFirst}
use Rattle.cms_canon.specs.Kinds.{MessageValue, whole_message, same_message}
use Rattle.cms_canon.specs.Messages.{IsDerOf, IsMessage, IsWritable, IsRefused}
use Rattle.cms_canon.specs.Received.{KeepsReceived}
use Rattle.cms_canon.specs.Streams.{Reading}
use Rattle.cms_canon.specs.Whole.{Whole}
use Rattle.cms_c.specs.declared.check.Finding.{Finding as FindingOfC}
use Rattle.cms_c.specs.declared.outcome.Lack.{Lack}
use Rattle.cms_c.specs.declared.outcome.Lack.TheVariants as lacks
use Rattle.cms_c.specs.declared.outcome.Outcome.{Outcome}
use Rattle.cms_c.specs.Outcomes.{Says, SaysFault, SaysSameFault, SaysLack, IsDelivered}

--- `limit_of_c limit`: the limit, or 2^40 if it is larger
abbrev pub limit_of_c : ℕ → ℕ
limit_of_c limit = min limit (2 ^ 40)

--- `of_memory input left`: a reading of octets in memory, up to those that are left
abbrev pub of_memory : List ℕ → List ℕ → Reading
of_memory input left =
    record {
      left_before = Some input;
      left_after = Some left;
      failures_before = 0;
      failures_after = 0;
    }

--- `IsAccepted input limit v`: the input spells the message `v` within the limit, and its DER is
---   within the limit too
abbrev pub IsAccepted : List ℕ → ℕ → MessageValue → Type 0
IsAccepted input limit v = IsMessage limit input v × IsWritable limit v

--- `IsFirstRefusal tail input limit reason at`: the input is refused (`IsRefused`), as a whole
---   message or as one that more may follow (`tail`),
--- | and the refusal is `IsFirst`
abbrev pub IsFirstRefusal : Tail → List ℕ → ℕ → Reason → ℕ → Type 0
IsFirstRefusal tail input limit reason at =
    (left : List ℕ) × IsRefused (of_memory input left) limit tail reason at
    × IsFirst (of_memory input left) limit tail reason at

--- `FailsBy input limit f`: the input as a whole message is refused like this; or memory ran out
abbrev pub FailsBy : List ℕ → ℕ → Fault → Type 0
FailsBy input limit (faults.Refused reason at) = IsFirstRefusal Refuse input limit reason at
FailsBy input limit faults.OutOfMemory = Unit {0}
FailsBy input limit e = ⊥

--- `IsHandedOver Asked Fails SaysIt before after o`: items that are `Asked` are delivered; or it
---   fails by something of which the outcome says so,
--- | and the room is as it was
abbrev pub IsHandedOver : {A E : Type 0} → (List A → Type 0) → (E → Type 0) → (E → Outcome → Type 0)
    → List A → List A → Outcome → Type 0
IsHandedOver {A} {E} Asked Fails SaysIt before after o =
    ((items : List A) × Asked items × IsDelivered items before after o)
    ⊎ ((e : E) × Fails e × SaysIt e o × (after ≡ before))

--- `IsDerOfInput input limit octets`: the octets are what is written for the message in the input
---   (`IsAcceptedAs`), and `KeepsReceived` holds
abbrev pub IsDerOfInput : List ℕ → ℕ → List ℕ → Type 0
IsDerOfInput input limit octets =
    IsAcceptedAs whole_message same_message limit input octets × KeepsReceived input octets

--- `IsDerHandedOver input limit before after o`: such octets are handed over
abbrev pub IsDerHandedOver : List ℕ → ℕ → List ℕ → List ℕ → Outcome → Type 0
IsDerHandedOver input limit =
    IsHandedOver (IsDerOfInput input limit) (FailsBy input limit) SaysFault

-- DER of a message that was read is handed over
abbrev pub PutsDer : Whole → List ℕ → List ℕ → Outcome → Type 0
PutsDer m = IsHandedOver (λ octets. IsDerOf m.value octets × KeepsReceived m.octets octets)
    (λ e. e ≡ faults.OutOfMemory) SaysFault

--- `IsListing input limit before after o`: some text is handed over, and the input is an accepted
---   message
abbrev pub IsListing : List ℕ → ℕ → List ℕ → List ℕ → Outcome → Type 0
IsListing input limit =
    IsHandedOver (λ text. (v : MessageValue) × IsAccepted input limit v)
    (FailsBy input limit) SaysFault

--- `items_passed`: content, data, or digests of them, if they are handed in
abbrev pub items_passed : {A : Type 0} → Bool → List A → Option (List A)
items_passed true items = Some items
items_passed false items = None

-- Check. A finding as C has it.
abbrev pub signer_number : Option ℕ → ℕ
signer_number None = 0
signer_number (Some i) = i

abbrev pub has_signer : Option ℕ → ℕ
has_signer None = 0
has_signer (Some i) = 1

--- `finding_of_c f`: a finding as C has it, by `signer_number` and `has_signer`
abbrev pub finding_of_c : Finding → FindingOfC
finding_of_c f =
    record { signer = signer_number f.signer; code = f.code; has_signer = has_signer f.signer }

--- `AreFindingsOfInput input limit detached stamped items`: the input is an accepted message, and
---   the items are its findings (`AreFindings`),
--- | if the verifier knows of no signature whether it is good
abbrev pub AreFindingsOfInput : List ℕ → ℕ → Option (List ℕ) → Option (List ℕ) → List FindingOfC
    → Type 0
AreFindingsOfInput input limit detached stamped items =
    (v : MessageValue) × (found : List Finding) × IsAccepted input limit v
    × AreFindings (λ job. Unknown) v detached stamped found × (items ≡ map finding_of_c found)

--- `IsCheck input limit detached stamped before after o`: such findings are handed over
abbrev pub IsCheck : List ℕ → ℕ → Option (List ℕ) → Option (List ℕ) → List FindingOfC
    → List FindingOfC → Outcome → Type 0
IsCheck input limit detached stamped =
    IsHandedOver (AreFindingsOfInput input limit detached stamped) (FailsBy input limit) SaysFault

--- `AreRowsOfInput input limit rows`: the input is an accepted message, and the rows are those of
---   its fields (`Show`, `entries_of`)
abbrev pub AreRowsOfInput : List ℕ → ℕ → List Row → Type 0
AreRowsOfInput input limit rows =
    (v : MessageValue) × IsAccepted input limit v × Show input (entries_of v) rows

--- `IsFields input limit before after o`: such rows are handed over
abbrev pub IsFields : List ℕ → ℕ → List Row → List Row → Outcome → Type 0
IsFields input limit = IsHandedOver (AreRowsOfInput input limit) (FailsBy input limit) SaysFault

--- `AreRowsOfTstInfo octets rows`, `LacksTstInfo octets l`: the octets are a TSTInfo in DER, and
---   the rows are those of its fields; or they are none,
--- | or memory ran out
abbrev pub AreRowsOfTstInfo : List ℕ → List Row → Type 0
AreRowsOfTstInfo octets rows =
    (v : TstInfo) × tst_info octets v × Show octets (of_tst_info TST_INFO 0 v) rows

abbrev pub LacksTstInfo : List ℕ → Lack → Type 0
LacksTstInfo octets (lacks.Fault faults.OutOfMemory) = Unit {0}
LacksTstInfo octets lacks.NoTstInfo = (v : TstInfo) → tst_info octets v → ⊥
LacksTstInfo octets e = ⊥

--- `IsTstInfoFields octets before after o`: such rows are handed over
abbrev pub IsTstInfoFields : List ℕ → List Row → List Row → Outcome → Type 0
IsTstInfoFields octets = IsHandedOver (AreRowsOfTstInfo octets) (LacksTstInfo octets) SaysLack

--- `AreCompared first second limit b`: both inputs are accepted messages, and `b` says whether they
---   are the same
abbrev pub AreCompared : List ℕ → List ℕ → ℕ → Bool → Type 0
AreCompared first second limit b =
    (v : MessageValue) × (w : MessageValue) × IsAccepted first limit v × IsAccepted second limit w
    × (b ≡ same_message v w)

--- `FailsToCompare first second limit e`: the first is refused; or it is accepted, and the second
---   is refused; or memory ran out
abbrev pub FailsToCompare : List ℕ → List ℕ → ℕ → SameFault → Type 0
FailsToCompare first second limit (same.First e) = FailsBy first limit e
FailsToCompare first second limit (same.Second e) =
    ((v : MessageValue) × IsAccepted first limit v) × FailsBy second limit e
FailsToCompare first second limit same.OutOfMemory = Unit {0}

--- `IsComparison first second limit o`: status 0 or 1 by `AreCompared`, or the outcome of
---   `FailsToCompare`
abbrev pub IsComparison : List ℕ → List ℕ → ℕ → Outcome → Type 0
IsComparison first second limit o =
    ((b : Bool) × AreCompared first second limit b × Says o (if b then 0 else 1) 0 0 0 [])
    ⊎ ((e : SameFault) × FailsToCompare first second limit e × SaysSameFault e o)

--- `Yields input limit f r`: the input is an accepted message, and `f` is `r` of it
abbrev pub Yields : {R : Type 0} → List ℕ → ℕ → (MessageValue → R) → R → Type 0
Yields {R} input limit f r = (v : MessageValue) × IsAccepted input limit v × (f v ≡ r)

--- `FailsToCover input limit path detached l`: the input is refused, or it is an accepted message
---   with no cover at the path (`cover_at`):
--- | no SignedData, no such signer, or no content
abbrev pub FailsToCover : List ℕ → ℕ → List ℕ → Option (List ℕ) → Lack → Type 0
FailsToCover input limit path detached (lacks.Fault e) = FailsBy input limit e
FailsToCover input limit path detached lacks.NoSignedData =
    Yields input limit (λ v. cover_at v path detached) None
FailsToCover input limit path detached lacks.NoSigner =
    Yields input limit (λ v. cover_at v path detached) (Some None)
FailsToCover input limit path detached e =
    (e ≡ lacks.NoContent)
    × Yields input limit (λ v. cover_at v path detached) (Some (Some None))

--- `Lacks r l`: `FailsToCover` for a message that is known, at whose path there is `r`
abbrev pub Lacks : Option (Option (Option (List ℕ))) → Lack → Type 0
Lacks r (lacks.Fault faults.OutOfMemory) = Unit {0}
Lacks r (lacks.Fault e) = ⊥
Lacks r lacks.NoSignedData = r ≡ None
Lacks r lacks.NoSigner = r ≡ Some None
Lacks r e = (e ≡ lacks.NoContent) × (r ≡ Some (Some None))

--- `IsCoverOfInput input limit path detached octets`: they are the cover at the path, `cover_at`,
---   of a message that is accepted, and `CoversAttributes`
abbrev pub IsCoverOfInput : List ℕ → ℕ → List ℕ → Option (List ℕ) → List ℕ → Type 0
IsCoverOfInput input limit path detached octets =
    (v : MessageValue) × IsAccepted input limit v
    × (cover_at v path detached ≡ Some (Some (Some octets)))
    × CoversAttributes input v path (Some (Some (Some octets)))

--- `IsCover input limit path detached before after o`: the octets of the cover are handed over
abbrev pub IsCover : List ℕ → ℕ → List ℕ → Option (List ℕ) → List ℕ → List ℕ → Outcome → Type 0
IsCover input limit path detached =
    IsHandedOver (IsCoverOfInput input limit path detached)
    (FailsToCover input limit path detached) SaysLack
