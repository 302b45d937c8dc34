use Rattle.std.proofs.Common.{◌≡◌}
use Rattle.cms_fields.specs.Indexed.{left}
use Rattle.cms_message.specs.Signers.{first_of_type}
use Rattle.cms_message.proofs.attribute.first_attribute.Given as goal

abbrev pub invariant-loop-attribute : goal.invariant-loop-attribute
invariant-loop-attribute l =
    (goal.iterator-loop-attribute).can_next l.attribute-iterator × (goal.iterator-loop-attribute).is_finite l.attribute-iterator
    × (first_of_type l.oid (left (λ x. x) l.attribute-iterator) ≡ first_of_type l.oid l.attributes)
