-- How far a message reaches whose octets come in pieces.
use Rattle.std.specs.Prelude.{◌≡◌, ◌≢◌, ◌⊎◌, ◌≤◌, ◌<◌, ◌-◌, ℕ, suc, List, [], ◌∷◌, ◌++◌, length}
use Rattle.cms_tlv.specs.declared.fault.Fault.{Fault}
use Rattle.cms_tlv.specs.declared.fault.Fault.TheVariants as faults
use Rattle.cms_tlv.specs.declared.fault.Reason.{Reason}
use Rattle.cms_tlv.specs.declared.fault.Reason.TheVariants as reasons
use Rattle.cms_tlv.specs.Clauses.{IsCut}
use Rattle.cms_tlv.specs.Frames.{Frame, Frames}
use Rattle.cms_tlv.specs.Headers.{IsConstructed, IsIdentifier}
use Rattle.cms_c.specs.declared.extent.Extent.{Extent}
use Rattle.cms_c.specs.declared.extent.Part.{Part}
use Rattle.cms_c.specs.declared.extent.Part.TheVariants as parts
use Rattle.cms_c.specs.declared.extent.Reach.{Reach}
use Rattle.cms_c.specs.declared.extent.Reach.TheVariants as reaches

--- `IsOpened n b`: `b` is `n` headers of indefinite length, with whole frames after each of them
---   [X.690, 8.1.3.6]
pub data IsOpened : ℕ → List ℕ → Type 0 where
  none : IsOpened 0 []
  into : {n t : ℕ} {b i c : List ℕ} → IsOpened n b → IsIdentifier t i → IsConstructed t → Frames c
      → IsOpened (suc n) (b ++ (i ++ (0x80 ∷ c)))

--- `IsOpenedAt octets end n`: the first `end` octets are `IsOpened n`
pub record IsOpenedAt (octets : List ℕ) (end n : ℕ) : Type 0 where
  pub passed : List ℕ
  pub rest : List ℕ
  pub parts : octets ≡ passed ++ rest
  pub count : length passed ≡ end
  pub opened : IsOpened n passed

--- `HasFrame octets n`: the first `n` octets are a frame [X.690, 8.1.1]
pub record HasFrame (octets : List ℕ) (n : ℕ) : Type 0 where
  pub frame : List ℕ
  pub rest : List ℕ
  pub parts : octets ≡ frame ++ rest
  pub count : length frame ≡ n
  pub is : Frame frame

--- `BeginsNoFrame room b`: no list that begins with `b` begins with a frame of up to `room` octets
abbrev pub BeginsNoFrame : ℕ → List ℕ → Type 0
BeginsNoFrame room b = (x f y : List ℕ) → length f ≤ room → b ++ x ≡ f ++ y → Frame f → ⊥

--- `HasNoFrame octets limit end n`: after the first `end` octets, which are `IsOpened n`, no frame
---   begins that ends within the limit
pub record HasNoFrame (octets : List ℕ) (limit end n : ℕ) : Type 0 where
  pub begun : IsOpenedAt octets end n
  pub nothing : BeginsNoFrame (limit - end) begun.rest

--- `LacksOctets octets limit end n`: the octets are a proper prefix of a frame (`IsCut`), and fewer
---   than the limit
--- | the first `end` are `IsOpened n`, and those after them are a proper prefix of a frame too
pub record LacksOctets (octets : List ℕ) (limit end n : ℕ) : Type 0 where
  pub cut : IsCut octets
  pub fewer : length octets < limit
  pub begun : IsOpenedAt octets end n
  pub last : IsCut begun.rest

--- `Reaches octets limit end n reach`: `More`: octets are missing (`LacksOctets`)
--- | `Whole`: the first `end` octets are a frame, within the limit
--- | `Nothing`: no frame begins after `end` octets (`HasNoFrame`)
--- | `Unknown`: memory ran out after `end` octets
abbrev pub Reaches : List ℕ → ℕ → ℕ → ℕ → Reach → Type 0
Reaches octets limit end n reaches.More = LacksOctets octets limit end n
Reaches octets limit end n reaches.Whole = HasFrame octets end × (end ≤ limit)
Reaches octets limit end n reaches.Nothing = HasNoFrame octets limit end n
Reaches octets limit end n reaches.Unknown = IsOpenedAt octets end n

--- `reach_number reach`: its number for C
abbrev pub reach_number : Reach → ℕ
reach_number reaches.More = 0
reach_number reaches.Whole = 1
reach_number reaches.Nothing = 2
reach_number reaches.Unknown = 3

--- `IsExtent octets limit e`: `e.reach` is the number of a reach, by which the octets are as
---   `Reaches` says
abbrev pub IsExtent : List ℕ → ℕ → Extent → Type 0
IsExtent octets limit e =
    (reach : Reach) × (e.reach ≡ reach_number reach)
    × Reaches octets limit e.end e.unended reach

-- a frame was passed, or the headers that are open
abbrev pub IsReached : List ℕ → ℕ → ℕ → ℕ → Type 0
IsReached octets limit end n =
    IsOpenedAt octets end n ⊎ ((n ≡ 0) × HasFrame octets end × (end ≤ limit))

-- what octets begin with, within the limit
abbrev pub IsPartOf : List ℕ → ℕ → Part → Type 0
IsPartOf octets limit (parts.Header n) =
    (t : ℕ) × (i rest : List ℕ) × (octets ≡ (i ++ (0x80 ∷ [])) ++ rest)
    × (length (i ++ (0x80 ∷ [])) ≡ n) × IsIdentifier t i × IsConstructed t
IsPartOf octets limit (parts.Element n) = HasFrame octets n × (n ≤ limit)

-- why they begin with neither
abbrev pub BeginsNeither : List ℕ → ℕ → Reach → Type 0
BeginsNeither octets limit reaches.More = IsCut octets × (length octets < limit)
BeginsNeither octets limit reaches.Whole = ⊥
BeginsNeither octets limit reaches.Nothing = BeginsNoFrame limit octets
BeginsNeither octets limit reaches.Unknown = Unit {0}

-- by the fault of a header
abbrev pub IsReachBy : Fault → Reach → Type 0
IsReachBy f reaches.More = (at : ℕ) × (f ≡ faults.Refused reasons.Truncated at)
IsReachBy f reaches.Nothing =
    (reason : Reason) × (at : ℕ) × (f ≡ faults.Refused reason at) × (reason ≢ reasons.Truncated)
IsReachBy f reaches.Unknown = Unit {0}
IsReachBy f reaches.Whole = ⊥
