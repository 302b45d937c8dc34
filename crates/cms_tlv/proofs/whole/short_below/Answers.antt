use Rattle.std.proofs.Common.{◌≡◌, ℕ, zero, suc, ◌+◌, ◌<◌, ◌&&◌, ◌==◌, Bool, true, List, [], ◌∷◌, length, slice_index_or, refl, ap, ◌∙◌, arith}
use Rattle.std.proofs.lemmas.Bool.{eqb-true}
use Rattle.cms_tlv.specs.internal.Whole.{short_below}
use Rattle.cms_tlv.proofs.Inverse.{and_first, and_second}
use Rattle.cms_tlv.specs.declared.whole.TheConstants.{SHORT_BELOW}
use Rattle.cms_tlv.proofs.whole.short_below.Goals as goal

-- a table tells what is below, from the octet n on
abbrev tells : List ℕ → ℕ → Bool
tells [] n = true
tells (b ∷ bs) n = (b == short_below n) && tells bs (suc n)

told : (bs : List ℕ) (n k : ℕ) → tells bs n ≡ true → k < length bs → slice_index_or bs k 0 ≡ short_below (n + k)
told [] n k e l = absurd (omega arith)
told (b ∷ bs) n zero e l =
    let z : n ≡ n + 0 = omega arith in
    eqb-true b (short_below n) (and_first (b == short_below n) (tells bs (suc n)) e) ∙ ap short_below z
told (b ∷ bs) n (suc k) e l =
    let z : suc n + k ≡ n + suc k = omega arith in
    told bs (suc n) k (and_second (b == short_below n) (tells bs (suc n)) e) (omega arith) ∙ ap short_below z

pub returns : goal.returns
returns c =
    let z : 0 + c.args.ident ≡ c.args.ident = omega arith in
    told SHORT_BELOW 0 c.args.ident refl (omega (arith, c.ranges.ident.fits)) ∙ ap short_below z
