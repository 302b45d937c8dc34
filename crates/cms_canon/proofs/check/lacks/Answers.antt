use Rattle.std.proofs.Common.{◌≡◌, ◌<◌, ℕ, zero, suc, List, [], ◌∷◌, length, slice_index_or, Bool, true, false, not, Option, Some, None, refl, sym, ap, subst, ◌∙◌, arith}
use Rattle.std.specs.List.{Contains}
use Rattle.std.specs.Option.{is_some, option_copied}
use Rattle.cms_check.specs.declared.digests.HashAlg.{HashAlg}
use Rattle.cms_check.specs.declared.digests.Hashed.{Hashed}
use Rattle.cms_canon.specs.Asked.{LacksOneOf}
use Rattle.cms_canon.proofs.check.lacks.Goals as goal

there : {A : Type 0} (xs : List A) (k : ℕ) (d e : A) → k < length xs → slice_index_or xs k d ≡ slice_index_or xs k e
there [] k d e l = absurd (omega arith)
there (x ∷ xs) zero d e l = refl
there (x ∷ xs) (suc k) d e l = there xs k d e (omega arith)

one_lacks : (asked : List HashAlg) (k : ℕ) (d : HashAlg) (given : List (HashAlg × Hashed)) → k < length asked
    → ((h : Hashed) → Contains given (slice_index_or asked k d, h) → ⊥) → LacksOneOf asked (Some given)
one_lacks asked k d given l none = (slice_index_or asked k d, (k, l, there asked k (slice_index_or asked k d) d l), none)

no_value : {A : Type 0} (o : Option A) (b : Bool) → is_some o ≡ not b → b ≡ true → o ≡ None
no_value None b e t = refl
no_value (Some x) b e t = absurd (let z : true ≡ false = e ∙ ap not t in cc)

pub returns-then-is_none : goal.returns-then-is_none
returns-then-is_none c e =
    subst (λ g. LacksOneOf c.args.asked.now (option_copied g)) (sym c.in-Some.is) (one_lacks c.args.asked.now c.loop-algorithm.algorithm-index _
    c.in-Some.digests.now c.loop-algorithm-test.true (c.by.ensures.none (no_value c.by.result c.is_none.result c.is_none.ensures c.if-is_none.true)))
