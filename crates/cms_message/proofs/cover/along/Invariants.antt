use Rattle.std.proofs.Common.{◌≡◌, ℕ, List, Option, option_map, drop}
use Rattle.std.specs.Option.{option_or}
use Rattle.cms_tlv.specs.Spelling.{join}
use Rattle.cms_scalars.specs.Borrowed.{borrowed_pieces}
use Rattle.cms_message.specs.Cover.{cover_from}
use Rattle.cms_message.proofs.cover.along.Given as goal

abbrev pub invariant-loop-j : goal.invariant-loop-j
invariant-loop-j l =
    (content : Option (List ℕ)) → cover_from l.signer (option_or (option_map (λ o. join (borrowed_pieces o)) l.signed) content)
    (drop l.j l.path) ≡ cover_from l.fn.signer content l.path
