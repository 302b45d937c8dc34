use Rattle.std.proofs.Common.{◌≡◌}
use Rattle.std.specs.List.{list_any}
use Rattle.cms_fields.specs.Indexed.{left}
use Rattle.cms_message.specs.SignedData.{borrowed_signers}
use Rattle.cms_message.specs.Versions.{is_version_3}
use Rattle.cms_message.proofs.signed_data.SignedData.has_signer_of_version_3.Given as goal

abbrev pub invariant-loop-signer : goal.invariant-loop-signer
invariant-loop-signer l =
    (goal.iterator-loop-signer).can_next l.signer-iterator × (goal.iterator-loop-signer).is_finite l.signer-iterator
    × (list_any is_version_3 (left (λ x. x) l.signer-iterator) ≡ list_any is_version_3 (borrowed_signers l.self))
