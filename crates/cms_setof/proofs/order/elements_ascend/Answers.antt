use Rattle.std.specs.Ordering.{is_le}
use Rattle.std.proofs.Common.{◌≡◌, ap, ◌∙◌, sym, subst, true, ◌↔◌}
use Rattle.cms_tlv.specs.Order.{ComesAfter}
use Rattle.cms_setof.proofs.MergeLaws.{told_by_order}
use Rattle.cms_setof.proofs.order.elements_ascend.Goals as goal

pub returns : goal.returns
returns c f g =
    subst (λ r. (r ≡ true) ↔ (ComesAfter c.args.a.now c.args.b.now → ⊥)) (sym (c.is_le.ensures ∙ ap is_le c.cmp.ensures))
    (told_by_order c.args.a.now c.args.b.now f g)
