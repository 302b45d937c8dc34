-- What the calls by digests promise.
use Rattle.std.specs.Prelude.{◌≡◌, ◌≢◌, ◌⊎◌, ◌==◌, ℕ, List, [], ◌∷◌, ◌++◌, map, take, Option}
use Rattle.std.specs.Prelude.{Some, None, true, false, option_to_list, if◌then◌else◌}
use Rattle.std.specs.List.{Contains, find}
use Rattle.cms_tlv.specs.declared.fault.Fault.TheVariants as faults
use Rattle.cms_tsp.specs.TstInfo.{TstInfo, IsTstInfoOf}
use Rattle.cms_check.specs.declared.digests.HashAlg.{HashAlg}
use Rattle.cms_check.specs.declared.digests.HashAlg.TheVariants as algorithms
use Rattle.cms_check.specs.declared.report.Finding.{Finding}
use Rattle.cms_check.specs.declared.verifier.Verdict.TheVariants.{Unknown}
use Rattle.cms_check.specs.Digests.{digest_by, digest_length}
use Rattle.cms_check.specs.Known.{Correspond}
use Rattle.cms_canon.specs.Asked.{asked_of_content, asked_of_data, needs_content}
use Rattle.cms_canon.specs.Asked.{tst_content_attached}
use Rattle.cms_canon.specs.Checking.{AreFindings}
use Rattle.cms_canon.specs.Kinds.{MessageValue}
use Rattle.cms_c.specs.declared.check.Finding.{Finding as FindingOfC}
use Rattle.cms_c.specs.declared.digests.Digest.{Digest}
use Rattle.cms_c.specs.declared.digests.DigestAsked.{DigestAsked}
use Rattle.cms_c.specs.declared.outcome.Lack.{Lack}
use Rattle.cms_c.specs.declared.outcome.Lack.TheVariants as lacks
use Rattle.cms_c.specs.declared.outcome.Outcome.{Outcome}
use Rattle.cms_c.specs.Calls.{FailsBy, IsAccepted, IsHandedOver, finding_of_c}
use Rattle.cms_c.specs.Outcomes.{SaysFault, SaysLack}

--- `algorithm_number h`: the number of a digest algorithm for C
abbrev pub algorithm_number : HashAlg → ℕ
algorithm_number algorithms.Sha1 = 1
algorithm_number algorithms.Sha224 = 2
algorithm_number algorithms.Sha256 = 3
algorithm_number algorithms.Sha384 = 4
algorithm_number algorithms.Sha512 = 5
algorithm_number algorithms.Sha512_224 = 6
algorithm_number algorithms.Sha512_256 = 7

--- `content_digest_asked h`, `data_digest_asked h`, `content_itself_asked`: what C is asked for:
---   the digest of the content by an algorithm, or of the data
--- | that were time-stamped; or the content itself
abbrev pub content_digest_asked : HashAlg → DigestAsked
content_digest_asked h = record { of = 1; algorithm = algorithm_number h }

abbrev pub data_digest_asked : HashAlg → DigestAsked
data_digest_asked h = record { of = 2; algorithm = algorithm_number h }

abbrev pub content_itself_asked : DigestAsked
content_itself_asked = record { of = 1; algorithm = 0 }

--- `content_asked v`, `all_asked v read`: what a message asks C for of its content; and of all that
---   is not attached to it: `read` is the TSTInfo
--- | that is attached, or none
abbrev pub content_asked : MessageValue → List DigestAsked
content_asked v =
    if needs_content v then content_itself_asked ∷ []
    else map content_digest_asked (asked_of_content v)

abbrev pub all_asked : MessageValue → Option TstInfo → List DigestAsked
all_asked v read =
    content_asked v ++ map data_digest_asked (option_to_list (asked_of_data v read))

--- `AreAsked v items`: the items are these
abbrev pub AreAsked : MessageValue → List DigestAsked → Type 0
AreAsked v items =
    (read : Option TstInfo) × IsTstInfoOf (tst_content_attached v) read
    × (items ≡ all_asked v read)

--- `AreAskedByInput input limit items`: the input is an accepted message, and the items are what it
---   asks for (`AreAsked`)
abbrev pub AreAskedByInput : List ℕ → ℕ → List DigestAsked → Type 0
AreAskedByInput input limit items =
    (v : MessageValue) × IsAccepted input limit v × AreAsked v items

--- `IsAsked input limit before after o`: such items are handed over
abbrev pub IsAsked : List ℕ → ℕ → List DigestAsked → List DigestAsked → Outcome → Type 0
IsAsked input limit = IsHandedOver (AreAskedByInput input limit) (FailsBy input limit) SaysFault

--- `digest_given given h`: the first digest by the algorithm `h` that C hands in
abbrev pub digest_given : List Digest → HashAlg → Option Digest
digest_given given h = find (λ d. d.algorithm == algorithm_number h) given

--- `AreDigestsOfC given m`: for each algorithm, the first digest by it that C hands in begins with
---   that of the octets `m`; what follows in its 64 octets
--- | is not looked at [FIPS 180-4]
abbrev pub AreDigestsOfC : List Digest → List ℕ → Type 0
AreDigestsOfC given m =
    (h : HashAlg) (d : Digest) → digest_given given h ≡ Some d
    → take (digest_length h) d.octets ≡ digest_by h m

--- `LacksDigest asked given`: one of the algorithms is asked for, and no digest by it is given
abbrev pub LacksDigest : List HashAlg → List Digest → Type 0
LacksDigest asked given = (h : HashAlg) × Contains asked h × (digest_given given h ≡ None)

--- `LacksAsked asked given l`: it is not given, or memory ran out
abbrev pub LacksAsked : List HashAlg → List Digest → Lack → Type 0
LacksAsked asked given (lacks.Fault faults.OutOfMemory) = Unit {0}
LacksAsked asked given lacks.NoDigest = LacksDigest asked given
LacksAsked asked given l = ⊥

--- `LacksForContent v given l`, `LacksForData v given l`: why the digests that are given do not
---   suffice, of the content: it is needed itself, or else a digest of it is not among them; or of
---   the data that were time-stamped; or memory ran out
abbrev pub LacksForContent : MessageValue → List Digest → Lack → Type 0
LacksForContent v given lacks.NeedsContent = needs_content v ≡ true
LacksForContent v given l = (needs_content v ≡ false) × LacksAsked (asked_of_content v) given l

abbrev pub LacksForData : MessageValue → List Digest → Lack → Type 0
LacksForData v given (lacks.Fault faults.OutOfMemory) = Unit {0}
LacksForData v given l =
    (read : Option TstInfo) × IsTstInfoOf (tst_content_attached v) read
    × LacksAsked (option_to_list (asked_of_data v read)) given l

--- `IfGiven Lacking given`: they are given, and `Lacking` holds of them
abbrev pub IfGiven : (List Digest → Type 0) → Option (List Digest) → Type 0
IfGiven Lacking None = ⊥
IfGiven Lacking (Some given) = Lacking given

--- `LacksForFindings v content stamped l`: either of the two, of digests that are given, and of the
---   data only if the content is not needed in place of its digests; or memory ran out
abbrev pub LacksForFindings : MessageValue → Option (List Digest) → Option (List Digest) → Lack
    → Type 0
LacksForFindings v content stamped (lacks.Fault faults.OutOfMemory) = Unit {0}
LacksForFindings v content stamped l =
    IfGiven (λ given. LacksForContent v given l) content
    ⊎ ((content ≢ None → needs_content v ≡ false)
    × IfGiven (λ given. LacksForData v given l) stamped)

--- `AreFoundByDigests v content stamped items`: for whatever content and data have the digests that
---   are given, the items are the findings of the message
--- | (`AreFindings`), if the verifier knows of no signature whether it is good
abbrev pub AreFoundByDigests : MessageValue → Option (List Digest) → Option (List Digest)
    → List FindingOfC → Type 0
AreFoundByDigests v content stamped items =
    (found : List Finding)
    × ((detached octets : Option (List ℕ)) → Correspond AreDigestsOfC content detached
    → Correspond AreDigestsOfC stamped octets
    → AreFindings (λ job. Unknown) v detached octets found)
    × (items ≡ map finding_of_c found)

--- `AreFoundInInput input limit content stamped items`, `FailsByDigests input limit content stamped
---   l`: the input is an accepted message, and the items
--- | are those; or it is refused, or the message lacks digests
abbrev pub AreFoundInInput : List ℕ → ℕ → Option (List Digest) → Option (List Digest)
    → List FindingOfC → Type 0
AreFoundInInput input limit content stamped items =
    (v : MessageValue) × IsAccepted input limit v × AreFoundByDigests v content stamped items

abbrev pub FailsByDigests : List ℕ → ℕ → Option (List Digest) → Option (List Digest) → Lack
    → Type 0
FailsByDigests input limit content stamped (lacks.Fault e) = FailsBy input limit e
FailsByDigests input limit content stamped l =
    (v : MessageValue) × IsAccepted input limit v × LacksForFindings v content stamped l

--- `IsCheckByDigests input limit content stamped before after o`: such findings are handed over
abbrev pub IsCheckByDigests : List ℕ → ℕ → Option (List Digest) → Option (List Digest)
    → List FindingOfC → List FindingOfC → Outcome → Type 0
IsCheckByDigests input limit content stamped =
    IsHandedOver (AreFoundInInput input limit content stamped)
    (FailsByDigests input limit content stamped) SaysLack
