use Rattle.std.proofs.Common.{◌≡◌, ◌∙◌, List, ℕ, Option, Some, None, refl, arith}
use Rattle.std.proofs.lemmas.List.Elements.{All-push, Contains-get_or}
use Rattle.cms_check.specs.declared.digests.Hashed.{Hashed}
use Rattle.cms_check.specs.Digests.{digest_by, digest_octets}
use Rattle.cms_c.specs.Digests.{AreDigestsOfC}
use Rattle.cms_c.proofs.digests.digests_among.Goals as goal

none_of : (o : Option Hashed) → ((x : Hashed) → o ≡ Some x → ⊥) → o ≡ None
none_of None f = refl
none_of (Some x) f = absurd (f x refl)

pub returns-in_default-clause-err : goal.returns-in_default-clause-err
returns-in_default-clause-err c =
    let i = c.loop-algorithm.algorithm-index in
    (_, Contains-get_or c.args.asked.now i _ (omega arith), c.digest_among.ensures.none (none_of c.digest_among.result c.in_default.not-Some))

pub loop-algorithm-preserved : goal.loop-algorithm-preserved
loop-algorithm-preserved c =
    let found = c.in-Some.ensures.some in
    rw (c.push.ensures.items, c.is_err.ensures.negation, c.if-is_err.false)
    (All-push (λ d. (m : List ℕ) → AreDigestsOfC c.args.given.now m → digest_octets d.1 ≡ digest_by d.0 m)
    c.loop-algorithm.digests.items (_, c.in-Some.hashed) c.loop-algorithm.invariant (λ m are. found.2 ∙ are _ found.0 found.1))
