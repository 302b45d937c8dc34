use Rattle.std.proofs.Common.{ℕ, Option, option_map, slice_get, sym, ap, ◌∙◌}
use Rattle.cms_message.specs.Signers.{AnyAttribute, BorrowedSigner, countersignatures, borrowed_signer}
use Rattle.cms_message.specs.Spanned.{primitive_spanned, borrowed_values}
use Rattle.cms_message.specs.declared.attribute.Values.{Values}
use Rattle.cms_message.proofs.BorrowedLaws.{at_depth}
use Rattle.cms_message.proofs.attribute.Attribute.countersignature.Goals as goal

abbrev found : ℕ → AnyAttribute → Option BorrowedSigner
found i a = option_map borrowed_signer (slice_get (countersignatures a) i)

pub returns-in-Depth1 : goal.returns-in-Depth1
returns-in-Depth1 c =
    let k = c.self.inside.kept.now in
    c.countersignature_in.ensures ∙ (at_depth 3 k c.in-Depth1.set.now c.args.i
    ∙ (ap (λ (v : Values). found c.args.i (primitive_spanned k c.self.inside.attr_type.now, borrowed_values k v)) (sym c.in-Depth1.is)
    ∙ ap (found c.args.i) c.self.view_is))

pub returns-in-Depth2 : goal.returns-in-Depth2
returns-in-Depth2 c =
    let k = c.self.inside.kept.now in
    c.countersignature_in-in-Depth2.ensures ∙ (at_depth 2 k c.in-Depth2.set.now c.args.i
    ∙ (ap (λ (v : Values). found c.args.i (primitive_spanned k c.self.inside.attr_type.now, borrowed_values k v)) (sym c.in-Depth2.is)
    ∙ ap (found c.args.i) c.self.view_is))

pub returns-in-Depth3 : goal.returns-in-Depth3
returns-in-Depth3 c =
    let k = c.self.inside.kept.now in
    c.countersignature_in-in-Depth3.ensures ∙ (at_depth 1 k c.in-Depth3.set.now c.args.i
    ∙ (ap (λ (v : Values). found c.args.i (primitive_spanned k c.self.inside.attr_type.now, borrowed_values k v)) (sym c.in-Depth3.is)
    ∙ ap (found c.args.i) c.self.view_is))

pub returns-in-Depth4 : goal.returns-in-Depth4
returns-in-Depth4 c =
    let k = c.self.inside.kept.now in
    c.countersignature_in-in-Depth4.ensures ∙ (at_depth 0 k c.in-Depth4.set.now c.args.i
    ∙ (ap (λ (v : Values). found c.args.i (primitive_spanned k c.self.inside.attr_type.now, borrowed_values k v)) (sym c.in-Depth4.is)
    ∙ ap (found c.args.i) c.self.view_is))
