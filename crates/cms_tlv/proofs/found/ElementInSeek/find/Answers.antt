use Rattle.std.proofs.Common.{arith, sym, ◌∙◌}
use Rattle.std.proofs.lemmas.Bool.{eqb-true, eqb-false}
use Rattle.cms_tlv.proofs.AtHand.{element_found, contents_octets, all_octets, whole_primitive, whole_constructed, value_begins}
use Rattle.cms_tlv.proofs.found.ElementInSeek.find.Goals as goal
use Rattle.cms_tlv.proofs.found.ElementInSeek.find.Goals.{else-is_constructed-via-then-is_constructed+else-not-are_whole, else-is_constructed-via-else-is_constructed}

pub returns-clause-finds : goal.returns-clause-finds
returns-clause-finds c =
    let v = value_begins c.args.first (sym c.begins_value.ensures ∙ c.if-not-begins_value.false) in
    element_found _ _ _ _ _ c.in_ok-len.ensures (omega arith) v.0 v.1 v.2 (omega (arith, c.if-rest-len.false)) (λ h. elim c.else-is_constructed.branch [
      | else-is_constructed-via-then-is_constructed+else-not-are_whole w ↦
          whole_constructed 64 _ _ _ _ h (λ e. absurd cc) (eqb-true _ 1 (sym c.is_constructed.ensures ∙ w.if-is_constructed.true))
          (w.are_whole.ensures w.if-not-are_whole.false)
      | else-is_constructed-via-else-is_constructed w ↦ whole_primitive 64 _ _ _ _ h (λ e. absurd cc)
          (eqb-false _ 1 (sym c.is_constructed.ensures ∙ w.if-is_constructed.false))
          (contents_octets _ _ _ _ h (all_octets _ _ (omega arith) (λ k. omega (arith, c.type_inv.octets k))))
    ]) (omega (arith, c.if-self-behind.false))
