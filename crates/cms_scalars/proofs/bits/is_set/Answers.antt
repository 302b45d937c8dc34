use Rattle.std.proofs.Common.{sym, ◌∙◌}
use Rattle.std.proofs.lemmas.Bool.{eqb-true}
use Rattle.cms_tlv.proofs.Inverse.{eqb_yes}
use Rattle.cms_scalars.proofs.BitLists.{bit_at}
use Rattle.cms_scalars.proofs.bits.is_set.Goals as goal

pub returns : goal.returns
returns c =
    let e = bit_at c.args.octet c.args.number c.requires in
    (λ h. e ∙ eqb-true _ 1 h, λ h. eqb_yes _ 1 (sym e ∙ h))
