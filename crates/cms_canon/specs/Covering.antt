-- What writing the octets that a signature covers promises.
use Rattle.std.specs.Prelude.{◌≡◌, ℕ, List, [], ◌∷◌, Option, Some, None, option_map, Bool, ◌⊎◌}
use Rattle.std.specs.Option.{option_and_then}
use Rattle.cms_tlv.specs.declared.fault.Fault.TheVariants as faults
use Rattle.cms_fields.specs.Received.{IsPart}
use Rattle.cms_message.specs.Cover.{attributes_along, cover_along, cover_of}
use Rattle.cms_canon.specs.declared.cover.NoCover.{NoCover}
use Rattle.cms_canon.specs.declared.cover.NoCover.TheVariants as uncovered
use Rattle.cms_canon.specs.Given.{IsGiven, GivenFaults}
use Rattle.cms_canon.specs.Kinds.{MessageValue, signed_data_in}
use Rattle.cms_canon.specs.Streams.{Reading, Writing, WritesAll, WritesPart, WritesNone}
use Rattle.cms_canon.specs.Whole.{Whole}

--- `cover_in v signer detached`: the cover of a signer of the message `v`; none if it has no
---   SignedData, no such signer, or no content
abbrev pub cover_in : MessageValue → ℕ → Option (List ℕ) → Option (Option (Option (List ℕ)))
cover_in v signer detached = option_map (λ s. cover_of s signer detached) (signed_data_in v)

--- `cover_at v path detached`: the cover of the signer or countersignature at a path; none as in
---   `cover_in`
abbrev pub cover_at : MessageValue → List ℕ → Option (List ℕ) → Option (Option (Option (List ℕ)))
cover_at v path detached = option_map (λ s. cover_along s path detached) (signed_data_in v)

--- `attributes_in v path`: the octets of the signed attributes at a path of the message `v`; none
---   if there is no such signer, or it has none
abbrev pub attributes_in : MessageValue → List ℕ → Option (List ℕ)
attributes_in v path = option_and_then (λ s. attributes_along s path) (signed_data_in v)

--- `CoversAttributes b v path cover`: if there are signed attributes at the path, these are A0 and
---   a rest, and lie in `b`, in one piece;
--- | and `cover` is 31 and that rest
abbrev pub CoversAttributes : List ℕ → MessageValue → List ℕ → Option (Option (Option (List ℕ)))
    → Type 0
CoversAttributes b v path cover =
    (a : List ℕ) → attributes_in v path ≡ Some a
    → IsPart a b × (rest : List ℕ) × (a ≡ 0xa0 ∷ rest) × (cover ≡ Some (Some (Some (0x31 ∷ rest))))

--- `Covers r limit with_content signer cover`: `cover` is that of the signer of the message that
---   was read, and `CoversAttributes` holds
pub record Covers (r : Reading) (limit : ℕ) (with_content : Bool) (signer : ℕ)
    (cover : Option (Option (Option (List ℕ)))) : Type 0 where
  pub message : Whole
  pub detached : Option (List ℕ)
  pub is_given : IsGiven r limit with_content message detached
  pub cover_is : cover_in message.value signer detached ≡ cover
  pub attributes : CoversAttributes message.octets message.value (signer ∷ []) cover

--- `PourFaults`: why a cover that is known was not written; there is no fault in reading
abbrev pub PourFaults : Writing → Option (Option (Option (List ℕ))) → NoCover → Type 0
PourFaults w cover uncovered.NoSignedData = (cover ≡ None) × WritesNone w
PourFaults w cover uncovered.NoSigner = (cover ≡ Some None) × WritesNone w
PourFaults w cover uncovered.NoContent = (cover ≡ Some (Some None)) × WritesNone w
PourFaults w cover (uncovered.Fault (faults.Write written)) =
    (c : List ℕ) × (cover ≡ Some (Some (Some c))) × WritesPart w c written
PourFaults w cover (uncovered.Fault faults.OutOfMemory) =
    (c : List ℕ) × (cover ≡ Some (Some (Some c))) × WritesNone w
PourFaults w cover (uncovered.Fault e) = ⊥

--- `IsCoverWritten r w limit with_content signer`: there are such octets, and all were written
abbrev pub IsCoverWritten : Reading → Writing → ℕ → Bool → ℕ → Type 0
IsCoverWritten r w limit with_content signer =
    (c : List ℕ) × Covers r limit with_content signer (Some (Some (Some c))) × WritesAll w c

--- `CoverFaults r w limit with_content signer u`: why not: no SignedData, no such signer, no
---   content, a fault in reading, or memory ran out
--- | in each of these cases, nothing was written
--- | or a write fault: a part of the cover was written, and the writer failed
abbrev pub CoverFaults : Reading → Writing → ℕ → Bool → ℕ → NoCover → Type 0
CoverFaults r w limit with_content signer uncovered.NoSignedData =
    Covers r limit with_content signer None × WritesNone w
CoverFaults r w limit with_content signer uncovered.NoSigner =
    Covers r limit with_content signer (Some None) × WritesNone w
CoverFaults r w limit with_content signer uncovered.NoContent =
    Covers r limit with_content signer (Some (Some None)) × WritesNone w
CoverFaults r w limit with_content signer (uncovered.Fault (faults.Write written)) =
    (c : List ℕ) × Covers r limit with_content signer (Some (Some (Some c)))
    × WritesPart w c written
CoverFaults r w limit with_content signer (uncovered.Fault faults.OutOfMemory) =
    (GivenFaults r limit with_content faults.OutOfMemory
    ⊎ ((c : List ℕ) × Covers r limit with_content signer (Some (Some (Some c))))) × WritesNone w
CoverFaults r w limit with_content signer (uncovered.Fault e) =
    GivenFaults r limit with_content e × WritesNone w
