use Rattle.std.proofs.Common.{map, take}
use Rattle.cms_tlv.specs.Spelling.{join}
use Rattle.cms_check.proofs.digests.sha_2.Given as goal

abbrev pub invariant-loop-piece : goal.invariant-loop-piece
invariant-loop-piece g l = g.D.Digest.holds l.hasher (join (map (λ p. p.now) (take l.piece-index l.pieces)))
