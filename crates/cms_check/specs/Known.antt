-- What is known of octets that are not attached: the octets, or digests of them.
use Rattle.std.specs.Prelude.{◌≡◌, ℕ, List, Option, Some, None}
use Rattle.std.specs.Option.{option_copied}
use Rattle.std.specs.Bool.{⊤}
use Rattle.cms_check.specs.declared.checking.GivenDigests.{GivenDigests}
use Rattle.cms_check.specs.declared.content.Content.{Content}
use Rattle.cms_check.specs.declared.content.Content.TheVariants as content
use Rattle.cms_check.specs.declared.known.Known.{Known}
use Rattle.cms_check.specs.declared.known.Known.TheVariants as known
use Rattle.cms_check.specs.declared.known.AllKnown.{AllKnown}
use Rattle.cms_check.specs.Digests.{AreDigestsOf}

--- `Correspond R a b`: both are there and `R` holds of them, or neither is there
abbrev pub Correspond : {A B : Type 0} → (A → B → Type 0) → Option A → Option B → Type 0
Correspond R None None = ⊤
Correspond R None (Some y) = ⊥
Correspond R (Some x) None = ⊥
Correspond R (Some x) (Some y) = R x y

--- `IsKnownOf k m`: `k` is the octets `m`, or digests of them
abbrev pub IsKnownOf : Known → List ℕ → Type 0
IsKnownOf (known.Octets octets) m = octets.now ≡ m
IsKnownOf (known.Digests ds) m = AreDigestsOf ds.now m

--- `IsContentOf k m`: `k` is the content `m`, attached or not, or digests of it [RFC 5652, 5.2]
abbrev pub IsContentOf : Content → List ℕ → Type 0
IsContentOf (content.Octets octets) m = octets ≡ m
IsContentOf (content.Digests ds) m = AreDigestsOf ds.now m

--- `AreKnownOf k detached stamped`: `k` is the detached content, and the data that were
---   time-stamped, or digests of them [RFC 3161, 2.4.1]
abbrev pub AreKnownOf : AllKnown → Option (List ℕ) → Option (List ℕ) → Type 0
AreKnownOf k detached stamped =
    Correspond IsKnownOf k.detached detached × Correspond IsKnownOf k.stamped stamped

--- `AreGivenOf given detached stamped`: the digests that are given are of these
abbrev pub AreGivenOf : GivenDigests → Option (List ℕ) → Option (List ℕ) → Type 0
AreGivenOf given detached stamped =
    Correspond AreDigestsOf (option_copied given.detached) detached
    × Correspond AreDigestsOf (option_copied given.stamped) stamped
