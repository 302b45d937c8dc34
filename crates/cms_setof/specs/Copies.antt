-- An encoding of which more is copied.
use Rattle.std.specs.Prelude.{◌≡◌, List}
use Rattle.std.specs.List.{AllZip}
use Rattle.cms_fields.specs.Assembly.{Marked, copied}

--- `IsCopiedToo m n`: the octet is the same, and if `m` is copied, so is `n`
abbrev pub IsCopiedToo : Marked → Marked → Type 0
IsCopiedToo m n = (m.0 ≡ n.0) × (m.1 ≡ copied → n.1 ≡ copied)

--- `CopiesMore ms ns`: the octets are the same, and each that is copied in `ms` is copied in `ns`
---   too
abbrev pub CopiesMore : List Marked → List Marked → Type 0
CopiesMore ms ns = AllZip IsCopiedToo ms ns
