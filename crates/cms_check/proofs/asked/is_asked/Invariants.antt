use Rattle.std.proofs.Common.{◌≡◌}
use Rattle.std.specs.List.{list_any}
use Rattle.cms_fields.specs.Indexed.{left}
use Rattle.cms_message.specs.SignedData.{borrowed_signers}
use Rattle.cms_check.specs.Asked.{asks_for}
use Rattle.cms_check.proofs.asked.is_asked.Given as goal

abbrev pub invariant-loop-signer : goal.invariant-loop-signer
invariant-loop-signer l =
    (goal.iterator-loop-signer).can_next l.signer-iterator × (goal.iterator-loop-signer).is_finite l.signer-iterator
    × (list_any (asks_for l.algorithm) (left (λ x. x) l.signer-iterator) ≡ list_any (asks_for l.algorithm) (borrowed_signers l.signed_data))
