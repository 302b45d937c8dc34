use Rattle.std.proofs.Common.{◌++◌, List, ℕ, Bor, map, IsPermutation, append-nil, subst, sym, ap, ◌∙◌}
use Rattle.cms_message.specs.Algorithms.{algorithm}
use Rattle.cms_check.proofs.digest_oids.algorithms_listed.Goals as goal

pub returns : goal.returns
returns c =
    let now : Bor (List ℕ) → List ℕ = λ n. n.now in
    let names = c.loop-listed.names.items in
    let listed = sym (append-nil (map now names)) ∙ ap (λ ys. map now names ++ map algorithm ys) (sym c.in-None.ensures.steps.0) ∙ c.loop-listed.invariant.2 in
    subst (λ ns. IsPermutation ns c.new.result) listed c.new.ensures
