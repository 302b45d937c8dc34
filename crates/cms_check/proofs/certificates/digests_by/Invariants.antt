use Rattle.std.proofs.Common.{◌≡◌, ◌++◌, map}
use Rattle.cms_fields.specs.Indexed.{left}
use Rattle.cms_check.specs.Certificates.{certificate_digests}
use Rattle.cms_check.specs.Digests.{digest_octets}
use Rattle.cms_check.proofs.certificates.digests_by.Given as goal

abbrev pub invariant-loop-element : goal.invariant-loop-element
invariant-loop-element l =
    (goal.iterator-loop-element).can_next l.element-iterator × (goal.iterator-loop-element).is_finite l.element-iterator
    × (map digest_octets l.digests.items ++ certificate_digests l.algorithm (left (λ x. x) l.element-iterator) ≡ certificate_digests l.algorithm l.choices)
