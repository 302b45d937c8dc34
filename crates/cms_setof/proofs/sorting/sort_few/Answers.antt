use Rattle.std.proofs.Common.{ℕ, List, rules}
use Rattle.std.specs.Cmp.Lexicographic.{nat_list_cmp_total}
use Rattle.std.proofs.lemmas.Fn.{always_returns_same}
use Rattle.std.proofs.lemmas.List.Sorted.{ranks_by}
use Rattle.cms_setof.specs.internal.Sorting.{span_octets, is_below}
use Rattle.cms_setof.proofs.sorting.sort_few.Goals as goal

pub returns-clause-sorted : goal.returns-clause-sorted
returns-clause-sorted c =
    let buffer = c.args.buffer.now in
    c.sort_unstable_by.ensures.sorted (is_below buffer) (ranks_by {K = List ℕ} nat_list_cmp_total (span_octets buffer))
    (always_returns_same _ _ _ (λ a r f' called. search rules))
