-- Where the octets of an encoding come from: each is copied from the input, or made.
use Rattle.std.specs.Prelude.{◌≡◌, ℕ, List, [], ◌++◌, length, map, Bool, true}
use Rattle.std.specs.Prelude.{Option, None, Some, ◌⊎◌}
use mathlib.Core.Logic.{inl, inr}
use Rattle.std.specs.List.{AllZip, flat_map}
use Rattle.cms_tlv.specs.Order.{Ascends}
use Rattle.cms_tlv.specs.Spelling.{Spelling}
use Rattle.cms_tlv.specs.Writing.{IsDerHeader}

--- `Origin`: an octet is `copied` from the input, or `made`
pub data Origin : Type 0 where
  copied made : Origin

--- `Marked`: an octet with its origin
abbrev pub Marked : Type 0
Marked = ℕ × Origin

--- `marked o octets`: the octets, each with the origin `o`
abbrev pub marked : Origin → List ℕ → List Marked
marked origin octets = map (λ x. (x, origin)) octets

--- `unmarked ms`: the octets of `ms`, without their origins
abbrev pub unmarked : List Marked → List ℕ
unmarked ms = map (λ m. m.0) ms

--- `join_marked mss`: the lists `mss` one after another
abbrev pub join_marked : List (List Marked) → List Marked
join_marked mss = flat_map (λ ms. ms) mss

--- `Assembly V`: a relation of marked octets and values of `V`: how the DER of a value is assembled
abbrev pub Assembly : Type 0 → Type 1
Assembly V = List Marked → V → Type 0

--- `IsAssembled A is_same v ms`: `ms` are assembled by `A` for some value that is the same as `v`
pub record IsAssembled {V : Type 0} (A : Assembly V) (is_same : V → V → Bool) (v : V)
    (ms : List Marked) : Type 0 where
  pub value : V
  pub assembles : A ms value
  pub same : is_same v value ≡ true

--- `all_copied`: octets that are the value themselves, all of them copied
abbrev pub all_copied : Assembly (List ℕ)
all_copied ms v = ms ≡ marked copied v

--- `all_made R`: octets that spell the value by `R`, all of them made
abbrev pub all_made : {V : Type 0} → Spelling V → Assembly V
all_made R ms v = (b : List ℕ) × (ms ≡ marked made b) × R b v

--- `after_header id A`: a header that is made, `id` and the shortest length, then contents by `A`
---   [X.690, 10.1]
abbrev pub after_header : {V : Type 0} → ℕ → Assembly V → Assembly V
after_header id A ms v =
    (h : List ℕ) × (c : List Marked) × (ms ≡ marked made h ++ c) × IsDerHeader id (length c) h
    × A c v

--- `both_assembled A B`: what `A` assembles, then what `B` does
abbrev pub both_assembled : {V W : Type 0} → Assembly V → Assembly W → Assembly (V × W)
both_assembled A B ms v = (p q : List Marked) × (ms ≡ p ++ q) × A p v.0 × B q v.1

--- `if_present A`: no octets if the value is absent, else what `A` assembles
abbrev pub if_present : {V : Type 0} → Assembly V → Assembly (Option V)
if_present A ms None = ms ≡ []
if_present A ms (Some v) = A ms v

--- `either_assembled A B`: by `A`, a value of the first kind; or by `B`, one of the second
abbrev pub either_assembled : {V W : Type 0} → Assembly V → Assembly W → Assembly (V ⊎ W)
either_assembled A B ms (inl v) = A ms v
either_assembled A B ms (inr w) = B ms w

--- `each_in_order A`: what `A` assembles for each value, ascending by the octets [X.690, 11.6]
abbrev pub each_in_order : {V : Type 0} → Assembly V → Assembly (List V)
each_in_order A ms vs =
    (mss : List (List Marked)) × (ms ≡ join_marked mss) × AllZip A mss vs
    × Ascends (map unmarked mss)
