-- The pieces of a message as C has them.
use Rattle.std.specs.Prelude.{◌≡◌, ℕ, ◌+◌, List, [], ◌∷◌, length}
use Rattle.cms_setof.specs.declared.piece.Piece.{Piece}
use Rattle.cms_setof.specs.declared.piece.Piece.TheVariants as piece
use Rattle.cms_setof.specs.Pieces.{marked_piece}
use Rattle.cms_canon.specs.Kinds.{MessageValue}
use Rattle.cms_canon.specs.Pieces.{IsMadeUpOf}
use Rattle.cms_c.specs.declared.pieces.Piece.{Piece as PieceOfC}
use Rattle.cms_c.specs.declared.outcome.Outcome.{Outcome}
use Rattle.cms_c.specs.Calls.{IsAccepted, IsHandedOver, FailsBy}
use Rattle.cms_c.specs.Outcomes.{SaysFault}

--- `place_of at p`: where a piece begins: a copied one in the input, a made one in the DER, at `at`
abbrev pub place_of : ℕ → Piece → ℕ
place_of at (piece.Copied span) = span.start
place_of at (piece.Made octets) = at

--- `is_made p`: 1 if the piece is made, 0 if it is copied
abbrev pub is_made : Piece → ℕ
is_made (piece.Copied span) = 0
is_made (piece.Made octets) = 1

--- `piece_of_c k at p`: the piece as C has it, of the input `k`; `at` is where it begins in the DER
abbrev pub piece_of_c : List ℕ → ℕ → Piece → PieceOfC
piece_of_c k at p =
    record { place = place_of at p; length = length (marked_piece k p); made = is_made p }

--- `pieces_of_c k at ps`: pieces, one after another in the DER, as C has them; the first of them
---   begins there at `at`
abbrev pub pieces_of_c : List ℕ → ℕ → List Piece → List PieceOfC
pieces_of_c k at [] = []
pieces_of_c k at (p ∷ ps) = piece_of_c k at p ∷ pieces_of_c k (at + length (marked_piece k p)) ps

--- `ArePiecesOfInput input limit items`: the input is an accepted message that `IsMadeUpOf` some
---   pieces, and the items are these
abbrev pub ArePiecesOfInput : List ℕ → ℕ → List PieceOfC → Type 0
ArePiecesOfInput input limit items =
    (v : MessageValue) × (ps : List Piece) × IsAccepted input limit v
    × IsMadeUpOf (record { octets = input; value = v }) ps × (items ≡ pieces_of_c input 0 ps)

--- `ArePieces input limit before after o`: such pieces are handed over
abbrev pub ArePieces : List ℕ → ℕ → List PieceOfC → List PieceOfC → Outcome → Type 0
ArePieces input limit = IsHandedOver (ArePiecesOfInput input limit) (FailsBy input limit) SaysFault
