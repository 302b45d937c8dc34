use Rattle.std.proofs.Common.{◌≡◌, ◌<◌, ◌++◌, ◌∷◌, [], ℕ, List, length, take, drop, ◌-◌, nat_lt, slice_index_or, true, IfSome, sym, ap, subst, ◌∙◌, arith}
use Rattle.std.proofs.lemmas.Bool.Decides.{nat_tests}
use Rattle.std.proofs.lemmas.List.{take_all}
use Rattle.cms_scalars.specs.Scalars.{bits}
use Rattle.cms_scalars.specs.Bits.{without_trailing_zeros, used_bits, bits_of_contents}
use Rattle.cms_scalars.proofs.bits.significant.Goals as goal

shown : (c : List ℕ) → 0 < length c → slice_index_or c 0 0 < 8 → bits_of_contents c ≡ used_bits (slice_index_or c 0 0) (take (length c - 1) (drop 1 c))
shown [] h k = absurd (omega arith)
shown (x ∷ xs) h k =
    let y : nat_lt x 8 ≡ true = grind (arith, nat_tests) in
    rw y (ap (used_bits x) (sym (take_all (length (x ∷ xs) - 1) xs (omega arith))))

pub returns-in-len1-up-clause-none : goal.returns-in-len1-up-clause-none
returns-in-len1-up-clause-none c none = shown c.args.contents.now c.in-len1-up.len_at_least c.if-unused-lt8.true ∙ c.significant_of.ensures.none none

pub returns-in-len1-up-clause-some : goal.returns-in-len1-up-clause-some
returns-in-len1-up-clause-some c =
    subst (λ t. IfSome c.significant_of.result (λ s. (0 < s.last) × (t ≡ without_trailing_zeros (bits (s.front.now ++ s.last ∷ [])))))
    (sym (shown c.args.contents.now c.in-len1-up.len_at_least c.if-unused-lt8.true)) c.significant_of.ensures.some
