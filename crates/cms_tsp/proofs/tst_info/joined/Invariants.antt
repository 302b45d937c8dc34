use Rattle.std.proofs.Common.{◌≡◌, map, take}
use Rattle.cms_tlv.specs.Spelling.{join}
use Rattle.cms_tsp.proofs.tst_info.joined.Given as goal

abbrev pub invariant-loop-piece : goal.invariant-loop-piece
invariant-loop-piece l = l.octets.items ≡ join (map (λ p. p.now) (take l.piece-index l.pieces))
