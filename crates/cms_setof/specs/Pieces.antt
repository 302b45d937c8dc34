-- An encoding in pieces: octets of the input, and octets that are made.
use Rattle.std.specs.Prelude.{◌≡◌, ◌<◌, ◌≤◌, ℕ, List, [], ◌∷◌, length, ⊤}
use Rattle.std.specs.List.{flat_map}
use Rattle.cms_tlv.specs.Spans.{octets_in}
use Rattle.cms_fields.specs.Assembly.{Marked, marked, copied, made}
use Rattle.cms_setof.specs.declared.piece.Piece.{Piece}
use Rattle.cms_setof.specs.declared.piece.Piece.TheVariants as piece

--- `marked_piece k p`: the octets of a piece: copied ones, that its span names in `k`, or made ones
abbrev pub marked_piece : List ℕ → Piece → List Marked
marked_piece k (piece.Copied span) = marked copied (octets_in k span.start span.end)
marked_piece k (piece.Made octets) = marked made octets.items

--- `marked_pieces k ps`: those of the pieces `ps`, one after another
abbrev pub marked_pieces : List ℕ → List Piece → List Marked
marked_pieces k ps = flat_map (marked_piece k) ps

--- `HasOctets k p`: a piece has octets: its span names some that lie in `k`, or some are made
abbrev pub HasOctets : List ℕ → Piece → Type 0
HasOctets k (piece.Copied span) = (span.start < span.end) × (span.end ≤ length k)
HasOctets k (piece.Made octets) = 0 < length octets.items

--- `GoesOn p q`: `q` goes on where `p` ends: in the input, or as both are made
abbrev pub GoesOn : Piece → Piece → Type 0
GoesOn (piece.Copied p) (piece.Copied q) = p.end ≡ q.start
GoesOn (piece.Copied p) (piece.Made q) = ⊥
GoesOn (piece.Made p) (piece.Copied q) = ⊥
GoesOn (piece.Made p) (piece.Made q) = ⊤

--- `AreJoined ps`: no piece goes on where the one before it ends
abbrev pub AreJoined : List Piece → Type 0
AreJoined [] = ⊤
AreJoined (p ∷ []) = ⊤
AreJoined (p ∷ q ∷ ps) = (GoesOn p q → ⊥) × AreJoined (q ∷ ps)
