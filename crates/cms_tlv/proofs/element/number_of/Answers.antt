use Rattle.std.proofs.Common.{get_or, arith, ◌∙◌}
use Rattle.cms_tlv.proofs.Numbers.{digit_more, digit_fits}
use Rattle.cms_tlv.proofs.FirstElements.{number_with}
use Rattle.cms_tlv.proofs.element.number_of.Goals as goal

pub overflow_mul-number : goal.overflow_mul-number
overflow_mul-number c =
    let h = digit_fits 256 c.loop-digit.digit-index 8 c.loop-digit.number 0 (omega arith) (omega arith) c.loop-digit.invariant.1
    (omega arith) in omega arith

pub overflow_add-number : goal.overflow_add-number
overflow_add-number c =
    let h = digit_fits 256 c.loop-digit.digit-index 8 c.loop-digit.number (get_or c.args.digits.now c.loop-digit.digit-index 0)
    (omega arith) (omega arith) c.loop-digit.invariant.1 (omega (arith, c.type_inv.digits c.loop-digit.digit-index)) in omega arith

pub loop-digit-preserved : goal.loop-digit-preserved
loop-digit-preserved c =
    let i = c.loop-digit.digit-index in
    let below = digit_more 256 i c.loop-digit.number (get_or c.args.digits.now i 0) c.loop-digit.invariant.1 (omega (arith, c.type_inv.digits i)) in
    (number_with c.loop-digit.number i c.args.digits.now (omega arith) ∙ c.loop-digit.invariant.0, omega (arith, below))
