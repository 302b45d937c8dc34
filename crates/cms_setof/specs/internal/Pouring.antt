-- Octets that are held in a buffer on their way to a writer.
use Rattle.std.specs.Prelude.{◌≡◌, ◌<◌, ℕ, ◌+◌, List, ◌++◌, Option, take, drop, length}
use Rattle.std.specs.Io.KnownBytes.{Appends}
use Rattle.cms_tlv.specs.declared.fault.Fault.{Fault}
use Rattle.cms_tlv.specs.declared.fault.Fault.TheVariants as faults
use Rattle.cms_setof.specs.declared.pouring.Progress.{Progress}

-- of what a held and of the octets after it, the writer took the first part, and b holds the rest
pub record Sends (octets : List ℕ) (p q : Progress) (a b : List ℕ)
    (old new : Option (List ℕ)) : Type 0 where
  pub taken : List ℕ
  pub parts : take p.held a ++ octets ≡ taken ++ take q.held b
  pub counted : q.sent ≡ p.sent + length taken
  pub appended : Appends old new taken

-- the fault says how many octets the writer took: those sent before, and a part of those due that
-- is not all of them
abbrev pub StopsAmid : ℕ → List ℕ → Option (List ℕ) → Option (List ℕ) → Fault → Type 0
StopsAmid sent due old new (faults.Write written) =
    (n : ℕ) × (written ≡ sent + n) × (n < length due) × Appends old new (take n due)
StopsAmid sent due old new (faults.Refused reason at) = ⊥
StopsAmid sent due old new faults.Read = ⊥
StopsAmid sent due old new faults.OutOfMemory = ⊥

-- octets were put after the first `held` octets of a buffer, which makes `count`, and what follows
-- them is as it was
pub record PutAfter (octets : List ℕ) (held count : ℕ) (old new : List ℕ) : Type 0 where
  pub counted : count ≡ held + length octets
  pub octets_are : take count new ≡ take held old ++ octets
  pub rest : drop count new ≡ drop count old
