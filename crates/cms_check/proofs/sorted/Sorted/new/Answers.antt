use Rattle.std.proofs.Common.{rules}
use Rattle.std.proofs.lemmas.Fn.{always_returns_same}
use Rattle.std.proofs.lemmas.List.Sorted.{ranks_by, IsPermutation-map}
use Rattle.std.specs.Cmp.Lexicographic.{slice_cmp, nat_list_cmp_total}
use Rattle.std.specs.Ordering.{nat_cmp, is_lt}
use Rattle.cms_check.proofs.sorted.Sorted.new.Goals as goal

pub invariant_of-result : goal.invariant_of-result
invariant_of-result g c =
    let octets_of = g.T.AsSlice.items in
    c.sort_unstable_by.ensures.sorted (λ x y. is_lt (slice_cmp nat_cmp (octets_of x) (octets_of y)))
    (ranks_by nat_list_cmp_total octets_of) (search (rules, always_returns_same))

pub returns : goal.returns
returns g c = IsPermutation-map g.T.AsSlice.items c.args.strings.items c.sort_unstable_by.new.self.items c.sort_unstable_by.ensures.permutation
