use Rattle.std.proofs.Common.{refl}
use Rattle.cms_tlv.specs.Spelling.{ber}
use Rattle.cms_canon.proofs.PieceLaws.{made_up}
use Rattle.cms_canon.proofs.message.Message.assembled.Goals as goal

pub pieces-requires : goal.pieces-requires
pieces-requires c =
    c.spelled_values_are_values.ensures ber c.self.inside.kept.items refl (rw c.deref-kept.ensures.value c.self.invariant.spells)

pub returns : goal.returns
returns c =
    made_up (λ v. v.items) _ c.args.self.now c.in_ok-pieces.field-0.items c.absorbed.result (rw c.deref-kept.ensures.value c.self.view_is)
    c.in_ok-pieces.ensures.written c.in_ok-pieces.ensures.assembled c.absorbed.ensures.copies c.absorbed.ensures.have c.absorbed.ensures.joined
