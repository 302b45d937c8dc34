use Rattle.std.proofs.Common.{map, take}
use Rattle.sha1.specs.Sha1.{Holds}
use Rattle.cms_tlv.specs.Spelling.{join}
use Rattle.cms_check.proofs.digests.sha_1.Given as goal

abbrev pub invariant-loop-piece : goal.invariant-loop-piece
invariant-loop-piece l = Holds l.hasher (join (map (λ p. p.now) (take l.piece-index l.pieces)))
