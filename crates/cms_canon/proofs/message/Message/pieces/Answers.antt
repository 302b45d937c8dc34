use Rattle.std.proofs.lemmas.Result.{IfOk-weaker}
use Rattle.cms_tlv.specs.Spelling.{ber}
use Rattle.cms_canon.proofs.PieceLaws.{one_piece}
use Rattle.cms_canon.proofs.message.Message.pieces.Goals as goal

pub returns-then-is_der : goal.returns-then-is_der
returns-then-is_der c =
    IfOk-weaker c.whole.result _ _ (λ v h.
    one_piece (c.message_laws.ensures.is_field ber) c.message_laws.ensures.by_der c.args.self.now c.in_ok-assembled.assembled.items v.items
    (c.is_der.ensures c.if-is_der.true) c.in_ok-assembled.ensures h) c.whole.ensures
