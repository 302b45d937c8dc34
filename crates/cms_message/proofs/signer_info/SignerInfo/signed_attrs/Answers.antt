use Rattle.std.proofs.Common.{◌≡◌, Some, map, option_map, sym, ap, ◌∙◌}
use Rattle.cms_message.specs.SignerInfo.{signed_attrs}
use Rattle.cms_message.specs.Signers.{BorrowedSigner, as_any_attribute}
use Rattle.cms_message.specs.Spanned.{attribute_spanned, signed_attributes_spanned}
use Rattle.cms_message.proofs.BorrowedLaws.{map_again}
use Rattle.cms_message.proofs.signer_info.SignerInfo.signed_attrs.Goals as goal

pub returns-in-Some : goal.returns-in-Some
returns-in-Some c =
    let k = c.self.inside.kept.now in
    let e : c.signed.result ≡ map (λ x. as_any_attribute (attribute_spanned k x)) c.in-Some.field-0.field.0.0 = rw c.in-Some.is at c.signed.ensures in
    ap Some (e ∙ map_again as_any_attribute (attribute_spanned k) c.in-Some.field-0.field.0.0)
    ∙ (ap (λ o. option_map (λ a. map as_any_attribute a.1) (signed_attributes_spanned k o)) (sym c.in-Some.is)
    ∙ ap (λ (v : BorrowedSigner). option_map (λ a. map as_any_attribute a.1) (signed_attrs v)) c.self.view_is)
