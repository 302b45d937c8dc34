-- The changes of a message as C has them.
use Rattle.std.specs.Prelude.{◌≡◌, ℕ, List, map, Option, Some, None}
use Rattle.std.specs.List.{All}
use Rattle.cms_listing.specs.Changes.{LiesIn}
use Rattle.cms_listing.specs.declared.changes.change.Change.{Change}
use Rattle.cms_listing.specs.declared.changes.change.ChangeKind.{ChangeKind}
use Rattle.cms_listing.specs.declared.changes.change.ChangeKind.TheVariants as kind
use Rattle.cms_listing.specs.declared.changes.change.SetName.{SetName}
use Rattle.cms_listing.specs.declared.changes.change.SetName.TheVariants as name
use Rattle.cms_canon.specs.Kinds.{MessageValue}
use Rattle.cms_canon.specs.Messages.{IsDerOf}
use Rattle.cms_c.specs.declared.changes.Change.{Change as ChangeOfC}
use Rattle.cms_c.specs.declared.outcome.Outcome.{Outcome}
use Rattle.cms_c.specs.Calls.{IsAccepted, IsHandedOver, FailsBy}
use Rattle.cms_c.specs.Outcomes.{SaysFault}

--- `number_of_kind k`: the number that C has for a kind of change
abbrev pub number_of_kind : ChangeKind → ℕ
number_of_kind kind.LengthMadeDefinite = 1
number_of_kind kind.LengthInFewestOctets = 2
number_of_kind kind.LengthOfWhatIsInside = 3
number_of_kind kind.SegmentsJoined = 4
number_of_kind kind.Moved = 5
number_of_kind kind.Boolean = 6
number_of_kind kind.DefaultOmitted = 7
number_of_kind kind.TrailingZeroBitsRemoved = 8
number_of_kind kind.UnusedBitsSetToZero = 9

--- `number_of_set s`: the number that C has for a set, and 0 for none
abbrev pub number_of_set : Option SetName → ℕ
number_of_set None = 0
number_of_set (Some name.DigestAlgorithms) = 1
number_of_set (Some name.Certificates) = 2
number_of_set (Some name.Crls) = 3
number_of_set (Some name.SignerInfos) = 4
number_of_set (Some name.UnsignedAttrs) = 5
number_of_set (Some name.AttrValues) = 6

--- `change_of_c c`: a change as C has it
abbrev pub change_of_c : Change → ChangeOfC
change_of_c c =
    record {
      kind = number_of_kind c.kind;
      place = c.at;
      length = c.length;
      der_place = c.to;
      der_length = c.to_length;
      first = c.first;
      second = c.second;
      set = number_of_set c.set;
    }

--- `AreChangesOfInput input limit items`: the input is an accepted message, and the items are
---   changes that lie in it and in its DER
abbrev pub AreChangesOfInput : List ℕ → ℕ → List ChangeOfC → Type 0
AreChangesOfInput input limit items =
    (v : MessageValue) × (der : List ℕ) × (cs : List Change) × IsAccepted input limit v
    × IsDerOf v der × All (LiesIn input der) cs × (items ≡ map change_of_c cs)

--- `AreChanges input limit before after o`: such changes are handed over
abbrev pub AreChanges : List ℕ → ℕ → List ChangeOfC → List ChangeOfC → Outcome → Type 0
AreChanges input limit =
    IsHandedOver (AreChangesOfInput input limit) (FailsBy input limit) SaysFault
