-- Contents with their end.
use Rattle.std.specs.Prelude.{◌≡◌, ◌≢◌, ℕ, ◌+◌, List, length, true}
use Rattle.std.specs.Io.KnownBytes.{IsAtEnd}
use Rattle.cms_tlv.specs.declared.fault.Fault.{Fault}
use Rattle.cms_tlv.specs.declared.fault.Fault.TheVariants as faults
use Rattle.cms_tlv.specs.declared.fault.Reason.TheVariants.{Truncated}
use Rattle.cms_tlv.specs.declared.bound.Bound.{Bound}
use Rattle.cms_tlv.specs.Streams.{Rose}
use Rattle.cms_tlv.specs.State.{State, position}
use Rattle.cms_tlv.specs.Spelling.{Spelling}
use Rattle.cms_tlv.specs.Clauses.{Room, OctetsTaken, Refuses}
use Rattle.cms_tlv.specs.Law.{CutContents, Ended}

--- `with_end R bd at`: spelled by contents by `R`, from the place `at` on, with their end
---   [X.690, 8.1.4, 8.1.5]
abbrev pub with_end : {V : Type 0} → Spelling V → Bound → ℕ → Spelling V
with_end R bd at b v = (c : List ℕ) × Ended bd at c b × R c v

--- `EndsIn bd old new`: the reader has ended, and there is room for one octet more; in indefinite
---   contents, at a `CutContents`
pub record EndsIn (bd : Bound) (old new : State) : Type 0 where
  pub octets : List ℕ
  pub taken : OctetsTaken old new octets
  pub at_end : IsAtEnd new.left
  pub room : Room bd.end old.limit (length old.done) (length octets + 1)
  pub cut : bd.indefinite ≡ true → CutContents octets

--- `FaultsIn R bd old new f`: `Faults` for contents with their end, after their header; at E1
---   `EndsIn` holds
abbrev pub FaultsIn : {V : Type 0} → Spelling V → Bound → State → State → Fault → Type 0
FaultsIn R bd old new (faults.Refused reason at) =
    (at ≡ position new)
    × (reason ≢ Truncated → Refuses (with_end R bd (length old.done)) bd old new)
    × (reason ≡ Truncated → EndsIn bd old new)
FaultsIn R bd old new faults.Read = Rose old.failures new.failures
FaultsIn R bd old new (faults.Write written) = ⊥
FaultsIn R bd old new faults.OutOfMemory = Unit {0}
