-- What a call of a reader or a writer does.
use Rattle.std.specs.Prelude.{◌≡◌, ℕ, List, Option, ◌++◌, length, ◌+◌, ◌-◌, ◌^◌, ◌<◌, ◌≤◌, ◌⊎◌}
use Rattle.std.specs.Prelude.{nat_lt, if◌then◌else◌, Result, MatchResult}
use Rattle.std.specs.Io.KnownBytes.{Consumes}

-- one failure more, up to the largest count
abbrev pub one_more : ℕ → ℕ
one_more n = if nat_lt n (2 ^ 64 - 1) then n + 1 else n

--- `Counts old new r`: an error raises a count of failures by one, up to the largest `u64`; nothing
---   else changes it
abbrev pub Counts : {A E : Type 0} → ℕ → ℕ → Result A E → Type 0
Counts old new r = MatchResult r (λ _. new ≡ old) (λ _. new ≡ one_more old)

--- `Rose old new`: the count rose, or is the largest `u64`
abbrev pub Rose : ℕ → ℕ → Type 0
Rose old new = (old < new) ⊎ (2 ^ 64 - 1 ≤ new)

--- `Fills left left' before after n`: the reader gave `n` octets, and they were appended to
---   `before`
pub record Fills (left left' : Option (List ℕ)) (before after : List ℕ) (n : ℕ) : Type 0 where
  pub octets : List ℕ
  pub appended : after ≡ before ++ octets
  pub count : length octets ≡ n
  pub consumed : Consumes left left' octets

--- `Accepted P left left' before after n`: `Fills` of `n` octets, and these have
---   `P` or are none
pub record Accepted (P : List ℕ → Type 0) (left left' : Option (List ℕ)) (before after : List ℕ)
    (n : ℕ) : Type 0 where
  pub fills : Fills left left' before after n
  pub accepted : (n ≡ 0) ⊎ P fills.octets
