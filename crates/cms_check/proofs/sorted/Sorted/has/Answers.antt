use Rattle.std.proofs.Common.{◌∙◌, rules}
use Rattle.std.proofs.lemmas.Fn.{always_returns_same}
use Rattle.std.specs.Cmp.Lexicographic.{slice_cmp}
use Rattle.std.specs.Ordering.{nat_cmp}
use Rattle.cms_check.proofs.Found.{found}
use Rattle.cms_check.proofs.sorted.Sorted.has.Goals as goal

pub returns : goal.returns
returns g c =
    let octets_of = g.T.AsSlice.items in
    rw (← c.self.view_is, ← c.deref.ensures.value) (c.is_ok.ensures.value
    ∙ found octets_of c.deref.result.now c.args.octets.now c.binary_search_by.result (rw c.deref.ensures.value c.self.invariant)
    c.binary_search_by.ensures.bound (c.binary_search_by.ensures.position (λ x. slice_cmp nat_cmp (octets_of x) c.args.octets.now)
    (search (rules, always_returns_same))))
