use Rattle.std.proofs.Common.{◌≡◌, ◌==◌}
use Rattle.std.specs.List.{list_any}
use Rattle.cms_fields.specs.Indexed.{left}
use Rattle.cms_message.specs.Choices.{identifier_octet}
use Rattle.cms_message.proofs.choices.Choices.any_begins_with.Given as goal

abbrev pub invariant-loop-octets : goal.invariant-loop-octets
invariant-loop-octets g l =
    (goal.iterator-loop-octets g).can_next l.octets-iterator × (goal.iterator-loop-octets g).is_finite l.octets-iterator
    × (list_any (λ c. identifier_octet c == l.ident) (left (λ x. x) l.octets-iterator) ≡ list_any (λ c. identifier_octet c == l.ident) l.self)
