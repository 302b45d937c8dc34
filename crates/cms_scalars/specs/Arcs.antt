-- The arcs of an OBJECT IDENTIFIER, and its dotted-decimal text (X.690, 8.19).
use Rattle.std.specs.Prelude.{◌≡◌, ℕ, ◌+◌, ◌*◌, ◌^◌, ◌<◌, ◌≤◌, List, ◌∷◌, map}
use Rattle.std.specs.List.{AllByRecursion, join_with_byte}
use Rattle.std.specs.Fmt.{decimal}
use Rattle.cms_tlv.specs.Spelling.{Spelling, rows}
use Rattle.cms_scalars.specs.Scalars.{IsSubidentifier}

--- `subidentifier s n`: the subidentifier `s` encodes the number `n` [X.690, 8.19.2]
abbrev pub subidentifier : Spelling ℕ
subidentifier s n = (is : IsSubidentifier s) × (is.number ≡ n)

--- `subidentifiers c ns`: `c` is subidentifiers one after another, which encode the numbers `ns`
---   [X.690, 8.19.2]
abbrev pub subidentifiers : Spelling (List ℕ)
subidentifiers = rows subidentifier

--- `PacksFirst n x y`: `n` is 40 times `x` plus `y`; `x` is at most 2, and `y` at most 39 if `x` is
---   0 or 1 [X.690, 8.19.4]
pub record PacksFirst (n x y : ℕ) : Type 0 where
  pub packed : n ≡ x * 40 + y
  pub root : x ≤ 2
  pub below : x < 2 → y ≤ 39

--- `HaveArcs ns arcs`: the first number of `ns` gives the first two arcs, and each other number
---   gives one [X.690, 8.19.4, 8.19.5]
abbrev pub HaveArcs : List ℕ → List ℕ → Type 0
HaveArcs (n ∷ ns) (x ∷ y ∷ arcs) = PacksFirst n x y × (ns ≡ arcs)
HaveArcs ns arcs = ⊥

--- `dotted arcs`: the arcs in decimal, with dots between them
abbrev pub dotted : List ℕ → List ℕ
dotted arcs = join_with_byte 46 (map decimal arcs)

--- `IsDotted c text`: `text` is `dotted` of the arcs of the OBJECT IDENTIFIER `c`, whose
---   subidentifiers are below 2^64 [X.690, 8.19; 2^64 is ours]
pub record IsDotted (c text : List ℕ) : Type 0 where
  pub numbers : List ℕ
  pub spelled : subidentifiers c numbers
  pub fit : AllByRecursion (λ n. n < 2 ^ 64) numbers
  pub arcs : List ℕ
  pub have : HaveArcs numbers arcs
  pub shown : text ≡ dotted arcs
