-- Pieces of an encoding that grows at its front.
use Rattle.std.specs.Prelude.{◌≡◌, ℕ, List, [], ◌∷◌, ◌++◌, length, map}
use Rattle.cms_fields.specs.Assembly.{Marked, unmarked}
use Rattle.cms_setof.specs.declared.piece.Piece.{Piece}
use Rattle.cms_setof.specs.declared.members.Member.{Member}
use Rattle.cms_setof.specs.internal.Sorting.{span_octets}
use Rattle.cms_setof.specs.Pieces.{marked_piece, marked_pieces}

-- the octets of pieces, of which the last comes first
abbrev pub stacked : List ℕ → List Piece → List Marked
stacked k [] = []
stacked k (p ∷ ps) = stacked k ps ++ marked_piece k p

-- the first n octets were taken off
pub record TakesOff (k : List ℕ) (n : ℕ) (old first new : List Piece) : Type 0 where
  pub parts : stacked k old ≡ marked_pieces k first ++ stacked k new
  pub counted : length (marked_pieces k first) ≡ n

-- the octets of a member's pieces
abbrev pub marked_member : List ℕ → Member → List Marked
marked_member k m = marked_pieces k m.pieces.items

-- the octets of a member, in a buffer
abbrev pub member_octets : List ℕ → Member → List ℕ
member_octets buffer m = span_octets buffer m.span

-- each member has the pieces of one of the frames, in their order, and its octets in the buffer
pub record AreMembers (k buffer : List ℕ) (frames : List (List Marked)) (members : List Member)
    : Type 0 where
  pub pieces : map (marked_member k) members ≡ frames
  pub octets : map (member_octets buffer) members ≡ map unmarked frames
