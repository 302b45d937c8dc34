use Rattle.std.proofs.Common.{ℕ, List, rules}
use Rattle.std.specs.Ordering.{nat_cmp, is_lt}
use Rattle.std.specs.Cmp.Lexicographic.{slice_cmp, nat_list_cmp_total}
use Rattle.std.proofs.lemmas.Fn.{always_returns_same}
use Rattle.std.proofs.lemmas.List.Sorted.{ranks_by}
use Rattle.cms_setof.specs.internal.Tracing.{member_octets}
use Rattle.cms_setof.proofs.members.sort_members.Goals as goal

pub returns-clause-sorted : goal.returns-clause-sorted
returns-clause-sorted c =
    let octets = member_octets c.args.octets.now in
    c.sort_unstable_by.ensures.sorted (λ a b. is_lt (slice_cmp nat_cmp (octets a) (octets b))) (ranks_by {K = List ℕ} nat_list_cmp_total octets)
    (always_returns_same _ _ _ (λ a r f' called. search rules))
