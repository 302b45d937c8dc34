use Rattle.std.proofs.Common.{◌≡◌, take, filter}
use Rattle.std.specs.List.{list_any}
use Rattle.cms_message.specs.SignedData.{borrowed_signers}
use Rattle.cms_check.specs.Asked.{asks_for}
use Rattle.cms_check.specs.Digests.{known_algorithms}
use Rattle.cms_check.proofs.asked.digests_asked.Given as goal

abbrev pub invariant-loop-algorithm : goal.invariant-loop-algorithm
invariant-loop-algorithm l = l.asked.items ≡ filter (λ h. list_any (asks_for h) (borrowed_signers l.signed_data)) (take l.algorithm-index known_algorithms)
