use Rattle.std.proofs.Common.{◌≡◌, ◌==◌, ◌<◌, ℕ, List, [], ◌∷◌, length, not, slice_index_or, refl, arith}
use Rattle.cms_scalars.specs.Booleans.{is_true}
use Rattle.cms_scalars.proofs.booleans.is_true.Goals as goal

true_is : (c : List ℕ) → 0 < length c → not (slice_index_or c 0 0 == 0) ≡ is_true c
true_is [] h = absurd (omega arith)
true_is (x ∷ xs) h = refl

pub returns-in-len1-up : goal.returns-in-len1-up
returns-in-len1-up c = true_is c.args.octets.now c.in-len1-up.len_at_least
