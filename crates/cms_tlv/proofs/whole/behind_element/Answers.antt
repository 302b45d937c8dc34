use Rattle.std.proofs.Common.{arith, sym, ◌∙◌}
use Rattle.std.proofs.lemmas.Bool.{eqb-true, eqb-false}
use Rattle.cms_tlv.proofs.AtHand.{contents_octets, whole_primitive, whole_constructed}
use Rattle.cms_tlv.proofs.whole.behind_element.Goals as goal
use Rattle.cms_tlv.proofs.whole.behind_element.Goals.{else-is_constructed-via-then-is_constructed+else-not-are_whole, else-is_constructed-via-else-is_constructed}

pub returns : goal.returns
returns c = elim c.else-is_constructed.branch [
  | else-is_constructed-via-then-is_constructed+else-not-are_whole w ↦
      whole_constructed c.args.levels _ _ _ _ c.in_ok-element.ensures c.if-levels-eq0.false
      (eqb-true _ 1 (sym c.is_constructed.ensures ∙ w.if-is_constructed.true)) (w.are_whole.ensures w.if-not-are_whole.false)
  | else-is_constructed-via-else-is_constructed w ↦
      whole_primitive c.args.levels _ _ _ _ c.in_ok-element.ensures c.if-levels-eq0.false
      (eqb-false _ 1 (sym c.is_constructed.ensures ∙ w.if-is_constructed.false))
      (contents_octets _ _ _ _ c.in_ok-element.ensures (λ k. omega (arith, c.type_inv.octets k)))
]
