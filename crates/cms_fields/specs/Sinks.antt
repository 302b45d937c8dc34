-- What sinks take: octets, each before those that they took already.
use Rattle.std.specs.Prelude.{◌≡◌, ◌≤◌, ℕ, ◌+◌, List, [], ◌++◌, length, map, Bool}
use Rattle.std.specs.List.Sorted.{IsPermutation}
use Rattle.cms_tlv.specs.Order.{Ascends}
use Rattle.cms_tlv.specs.Spelling.{Spelling}
use Rattle.cms_fields.specs.Assembly.{Marked, unmarked, join_marked, Assembly, IsAssembled}
use Rattle.cms_fields.specs.Writing.{IsWritten}

--- `Taking S`: how a sink takes octets
pub record Taking (S : Type 0) : Type 1 where
  --- `puts k s ms t`: putting the octets `ms`, each copied or made, before what it had taken leads
  ---   from `s` to `t`; spans name octets of `k`
  pub puts : List ℕ → S → List Marked → S → Type 0
  --- `count s`: how many octets it took
  pub count : S → ℕ
  --- `stops n`: it may stop rather than have taken `n` octets in all
  pub stops : ℕ → Type 0

--- `TakingLaws t`: putting no octets may leave it as it is; octets put one after another are put as
---   one list, the later before the earlier; they are counted; and what may stop at `n` octets may
---   at more
pub record TakingLaws {S : Type 0} (t : Taking S) : Type 0 where
  pub nothing : (k : List ℕ) (s : S) → t.puts k s [] s
  pub both : (k : List ℕ) (p q : List Marked) (a b c : S) → t.puts k a q b → t.puts k b p c
      → t.puts k a (p ++ q) c
  pub counted : (k : List ℕ) (q : List Marked) (a b : S) → t.puts k a q b
      → t.count b ≡ t.count a + length q
  pub longer : (n m : ℕ) → t.stops n → n ≤ m → t.stops m

--- `Emits t R A same v k a b`: octets with `IsWritten R same v`, and with `IsAssembled A same v`,
---   were put, from `a` to `b`, and all lists with `IsWritten R same v` are equally long
pub record Emits {V S : Type 0} (t : Taking S) (R : Spelling V) (A : Assembly V)
    (is_same : V → V → Bool) (v : V) (k : List ℕ) (a b : S) : Type 0 where
  pub octets : List Marked
  pub put : t.puts k a octets b
  pub written : IsWritten R is_same v (unmarked octets)
  pub assembled : IsAssembled A is_same v octets
  pub each : (o : List ℕ) → IsWritten R is_same v o → length o ≡ length octets

--- `MayStop t R same v n`: it may stop at `n` octets more than any list with `IsWritten R same v`
abbrev pub MayStop : {V S : Type 0} → Taking S → Spelling V → (V → V → Bool) → V → ℕ → Type 0
MayStop t R is_same v n = (o : List ℕ) → IsWritten R is_same v o → t.stops (n + length o)

--- `Sorts t k s frames u`: `frames` were put, in ascending order, from `s` to `u` [X.690, 11.6]
pub record Sorts {S : Type 0} (t : Taking S) (k : List ℕ) (a : S) (frames : List (List Marked))
    (b : S) : Type 0 where
  pub sorted : List (List Marked)
  pub permutation : IsPermutation frames sorted
  pub ascends : Ascends (map unmarked sorted)
  pub put : t.puts k a (join_marked sorted) b
