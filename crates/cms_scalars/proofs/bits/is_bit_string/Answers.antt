use Rattle.std.proofs.Common.{◌≡◌, ◌<◌, ℕ, List, [], ◌∷◌, length, nat_lt, slice_index_or, refl, arith}
use Rattle.cms_scalars.specs.Bits.{is_bit_string}
use Rattle.cms_scalars.proofs.bits.is_bit_string.Goals as goal

counted : (c : List ℕ) → 1 < length c → nat_lt (slice_index_or c 0 0) 8 ≡ is_bit_string c
counted [] h = absurd (omega arith)
counted (x ∷ []) h = absurd (omega arith)
counted (x ∷ y ∷ ys) h = refl

pub returns-in-len1-up : goal.returns-in-len1-up
returns-in-len1-up c = counted c.args.octets.now c.in-len1-up.len_at_least
