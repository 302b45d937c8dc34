use Rattle.std.proofs.Common.{◌≡◌, ◌++◌, map}
use Rattle.cms_fields.specs.Indexed.{left}
use Rattle.cms_message.specs.Algorithms.{algorithm}
use Rattle.cms_message.specs.SignedData.{digest_algorithms}
use Rattle.cms_check.proofs.digest_oids.algorithms_listed.Given as goal

abbrev pub invariant-loop-listed : goal.invariant-loop-listed
invariant-loop-listed l =
    (goal.iterator-loop-listed).can_next l.listed-iterator × (goal.iterator-loop-listed).is_finite l.listed-iterator
    × (map (λ n. n.now) l.names.items ++ map algorithm (left (λ x. x) l.listed-iterator) ≡ map algorithm (digest_algorithms l.signed_data))
