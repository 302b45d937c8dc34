use Rattle.std.proofs.Common.{arith, sym, ◌∙◌}
use Rattle.std.proofs.lemmas.Grind.{common_steps}
use Rattle.cms_tlv.proofs.AtHand.{header_of_one, value_begins}
use Rattle.cms_tlv.proofs.whole.short_header.Goals as goal

pub returns : goal.returns
returns c =
    let v = value_begins _ (sym c.begins_value.ensures ∙ c.if-not-begins_value.false) in
    header_of_one _ _ _ _ _ c.in_ok-ident.ensures.cases.0 c.in_ok-len.ensures (grind (arith, common_steps)) v.0 v.1 v.2
