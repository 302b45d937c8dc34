use Rattle.std.proofs.Common.{◌≡◌, ◌++◌, length, map, take}
use Rattle.cms_tlv.specs.Spelling.{join}
use Rattle.cms_message.proofs.cover.append_pieces.Given as goal

abbrev pub invariant-loop-piece : goal.invariant-loop-piece
invariant-loop-piece l = record {
  before : l.before ≡ length l.fn.out.items;
  appended : l.out.items ≡ l.fn.out.items ++ join (map (λ s. s.now) (take l.piece-index l.pieces));
}
