use Rattle.std.proofs.Common.{◌≡◌, ◌++◌, [], ap, sym, ◌∙◌, arith}
use Rattle.std.proofs.lemmas.List.{append-nil}
use Rattle.std.proofs.lemmas.Result.{IfOk-weaker}
use Rattle.cms_tlv.specs.Spelling.{join}
use Rattle.cms_fields.specs.Received.{spanned_in}
use Rattle.cms_setof.specs.Gathering.{octets_of_parts}
use Rattle.cms_setof.proofs.FrontLaws.{no_items}
use Rattle.cms_setof.proofs.gathered.Gathered.into_octets.Goals as goal

pub returns-then-is_empty-2 : goal.returns-then-is_empty-2
returns-then-is_empty-2 c =
    let k = c.args.kept.now in
    let inside = c.self.inside in
    let none : inside.borrowed.items ≡ [] = no_items inside.borrowed.items (grind (arith, c.is_empty.ensures, c.if-is_empty.true)) in
    let last : inside.after ≡ [] = sym c.octets.ensures ∙ no_items c.octets.result.now (grind (arith, c.is_empty-then-is_empty.ensures, c.if-is_empty-2.true)) in
    let rest = ap (λ z. inside.before ++ (join (spanned_in k z) ++ inside.after)) none ∙ (ap (λ z. inside.before ++ z) last ∙ append-nil inside.before) in
    let whole = sym (ap (octets_of_parts k) c.self.view_is) ∙ rest in
    IfOk-weaker c.into_octets.result _ _ (λ v e. e ∙ sym whole) c.into_octets.ensures
