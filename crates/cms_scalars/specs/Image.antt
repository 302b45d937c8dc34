-- Values that are made of what is spelled.
use Rattle.std.specs.Prelude.{◌≡◌}
use Rattle.cms_tlv.specs.Spelling.{Spelling}

--- `image f R`: spells `f v` if `R` spells `v`
abbrev pub image : {V W : Type 0} → (V → W) → Spelling V → Spelling W
image {V} f R b w = (v : V) × (f v ≡ w) × R b v
