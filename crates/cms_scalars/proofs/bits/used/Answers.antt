use Rattle.std.proofs.Common.{◌≡◌, ◌<◌, ◌≤◌, ◌++◌, ◌∷◌, [], ℕ, List, length, take, drop, ◌-◌, ◌/◌, ◌*◌, ◌%◌, ◌^◌, suc, nat_lt, slice_index_or, true, arith}
use Rattle.std.proofs.lemmas.Bool.Decides.{nat_tests}
use Rattle.cms_tlv.specs.Headers.{AreOctets}
use Rattle.cms_scalars.specs.Scalars.{bits}
use Rattle.cms_scalars.specs.Bits.{without_trailing_zeros, bits_of_contents}
use Rattle.cms_scalars.proofs.BitLists.{last_kept}
use Rattle.cms_scalars.proofs.Slices.{are_octets}
use Rattle.cms_scalars.proofs.bits.used.Goals as goal

shown : (c : List ℕ) → 2 ≤ length c → slice_index_or c 0 0 < 8 → AreOctets c
    → bits_of_contents c ≡ without_trailing_zeros (bits (take (length c - 1 - 1) (drop 1 c)
    ++ (slice_index_or c (length c - 1) 0 / 2 ^ slice_index_or c 0 0 * 2 ^ slice_index_or c 0 0 % 256) ∷ []))
shown [] h k o = absurd (omega arith)
shown (x ∷ []) h k o = absurd (omega arith)
shown (x ∷ y ∷ ys) h k o =
    let t : nat_lt x 8 ≡ true = grind (arith, nat_tests) in
    let front : length (x ∷ y ∷ ys) - 1 - 1 ≡ length (y ∷ ys) - 1 = omega arith in
    let last : length (x ∷ y ∷ ys) - 1 ≡ suc (length (y ∷ ys) - 1) = omega arith in
    rw (t, front, last) (last_kept x (y ∷ ys) k (omega arith) o.1)

pub returns-in-len2-up-clause-some : goal.returns-in-len2-up-clause-some
returns-in-len2-up-clause-some c = shown c.args.contents.now c.in-len2-up.len_at_least c.if-unused-lt8.true (are_octets _ c.type_inv.contents)
