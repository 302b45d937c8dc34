-- Of what the DER of a message is put together.
use Rattle.std.specs.Prelude.{List}
use Rattle.std.specs.List.{All}
use Rattle.cms_fields.specs.Assembly.{Marked, unmarked, IsAssembled}
use Rattle.cms_setof.specs.declared.piece.Piece.{Piece}
use Rattle.cms_setof.specs.Pieces.{marked_pieces, HasOctets, AreJoined}
use Rattle.cms_setof.specs.Copies.{CopiesMore}
use Rattle.cms_canon.specs.Kinds.{message}
use Rattle.cms_canon.specs.Messages.{IsDerOf}
use Rattle.cms_canon.specs.Whole.{Whole}

--- `IsMadeUpOf m ps`: the pieces `ps`, of the octets of `m` and of made ones, are DER of `m`
--- | all is copied that the grammar of a message assembles of copied octets, and maybe more
pub record IsMadeUpOf (m : Whole) (ps : List Piece) : Type 0 where
  --- `der`: their octets are DER of the message
  pub der : IsDerOf m.value (unmarked (marked_pieces m.octets ps))
  --- `assembly`, `assembled`: how the grammar assembles such DER
  pub assembly : List Marked
  pub assembled : IsAssembled message.assembled message.same m.value assembly
  --- `copies`: the pieces have the same octets, and copy all that is copied there
  pub copies : CopiesMore assembly (marked_pieces m.octets ps)
  --- `have`: each has octets, and what is copied lies in the octets of `m`
  pub have : All (HasOctets m.octets) ps
  --- `joined`: no two neighbours could be one piece
  pub joined : AreJoined ps
