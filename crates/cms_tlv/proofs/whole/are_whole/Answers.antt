use Rattle.std.proofs.Common.{arith, refl}
use Rattle.std.proofs.lemmas.Bool.{eqb-true}
use Rattle.cms_tlv.proofs.Walks.{begun, ended, out_of}
use Rattle.cms_tlv.proofs.whole.are_whole.Goals as goal

pub loop-end-init : goal.loop-end-init
loop-end-init c = begun _ _ _ (omega (arith, c.min-most.ensures)) refl

pub returns-then-end-eq1 : goal.returns-then-end-eq1
returns-then-end-eq1 c =
    λ e. ended _ _ _ _ _ _ _ c.in-Some.ensures.walks (eqb-true _ 0 e) (omega (arith, c.min-most.ensures))

pub loop-end-preserved : goal.loop-end-preserved
loop-end-preserved c = out_of _ _ _ _ _ _ c.in-Some.ensures.walks (omega (arith, c.in-Some.ensures.ended))
