use Rattle.std.proofs.Common.{◌≡◌, slice_get}
use Rattle.cms_fields.specs.Indexed.{left}
use Rattle.cms_message.specs.Signers.{countersignatures_in}
use Rattle.cms_message.proofs.signer_info.countersignature_among.Given as goal

abbrev pub invariant-loop-attribute : goal.invariant-loop-attribute
invariant-loop-attribute l =
    (goal.iterator-loop-attribute).can_next l.attribute-iterator × (goal.iterator-loop-attribute).is_finite l.attribute-iterator
    × (slice_get (countersignatures_in (left (λ x. x) l.attribute-iterator)) l.left ≡ slice_get (countersignatures_in l.attributes) l.i)
