use denote.Text.{Utf8}
use denote.Shadow.{shadow}
use Rattle.cms_listing.proofs.json.signer.append_signers.Given as goal

-- says that each `&str` the loop changes is text
abbrev pub invariant-loop-signer : goal.invariant-loop-signer
invariant-loop-signer l =
    (goal.iterator-loop-signer).can_next l.signer-iterator ×
    (goal.iterator-loop-signer).is_finite l.signer-iterator ×
    shadow (Utf8 l.between)
