use Rattle.std.proofs.Common.{◌≡◌, ◌++◌}
use Rattle.cms_fields.specs.Indexed.{left}
use Rattle.cms_check.proofs.OfType.{of_type, as_list}
use Rattle.cms_check.proofs.attributes.only_attribute.Given as goal

abbrev pub invariant-loop-attribute : goal.invariant-loop-attribute
invariant-loop-attribute l =
    (goal.iterator-loop-attribute).can_next l.attribute-iterator × (goal.iterator-loop-attribute).is_finite l.attribute-iterator
    × (as_list l.only ++ of_type l.oid (left (λ x. x) l.attribute-iterator) ≡ of_type l.oid l.attributes)
