use Rattle.std.proofs.Common.{arith, sym, ◌∙◌}
use Rattle.cms_tlv.proofs.Walks.{head_of_3, head_of_4}
use Rattle.cms_tlv.proofs.whole.long_head.Goals as goal

pub returns-in-129 : goal.returns-in-129
returns-in-129 c =
    head_of_3 _ _ (λ k. omega (arith, c.type_inv.octets k)) (omega arith) (sym c.begins_value.ensures ∙ c.if-not-begins_value.false)
    c.in-129.is (omega arith)

pub returns-in-130 : goal.returns-in-130
returns-in-130 c =
    head_of_4 _ _ (λ k. omega (arith, c.type_inv.octets k)) (omega arith) (sym c.begins_value.ensures ∙ c.if-not-begins_value.false)
    c.in-130.is (λ e. omega (arith, e))
