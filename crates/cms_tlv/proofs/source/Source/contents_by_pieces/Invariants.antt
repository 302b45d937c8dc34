use Rattle.cms_tlv.proofs.ContentsGives.{HasTaken}
use Rattle.cms_tlv.proofs.source.Source.contents_by_pieces.Given as goal

abbrev pub invariant-loop-due : goal.invariant-loop-due
invariant-loop-due g l = HasTaken l.n l.due l.fn.self l.self

abbrev pub decreases-loop-due : goal.decreases-loop-due
decreases-loop-due g l = l.due
