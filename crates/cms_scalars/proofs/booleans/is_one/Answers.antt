use Rattle.std.proofs.Common.{◌≡◌, ◌==◌, ℕ, List, [], ◌∷◌, length, refl, arith}
use Rattle.cms_tlv.proofs.Inverse.{eqb_no}
use Rattle.cms_scalars.specs.Booleans.{is_one_octet}
use Rattle.cms_scalars.proofs.booleans.is_one.Goals as goal

one_is : (c : List ℕ) → (length c == 1) ≡ is_one_octet c
one_is [] = refl
one_is (x ∷ []) = refl
one_is (x ∷ y ∷ ys) = eqb_no (length (x ∷ y ∷ ys)) 1 (λ e. omega arith)

pub returns : goal.returns
returns c = one_is c.args.octets.now
