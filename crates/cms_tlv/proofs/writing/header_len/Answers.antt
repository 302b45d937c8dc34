use Rattle.std.proofs.Common.{◌≡◌, ◌+◌, ◌-◌, ◌∷◌, [], length, drop, arith}
use Rattle.std.proofs.lemmas.List.{length-drop}
use Rattle.cms_tlv.proofs.DigitLaws.{short_length, long_digits, same_length}
use Rattle.cms_tlv.proofs.writing.header_len.Goals as goal

pub returns-then-n-lt128-clause-length : goal.returns-then-n-lt128-clause-length
returns-then-n-lt128-clause-length c l p =
    let h = same_length l (c.args.n ∷ []) c.args.n p (short_length c.args.n c.if-n-lt128.true) in
    omega arith

pub returns-else-n-lt128-clause-length : goal.returns-else-n-lt128-clause-length
returns-else-n-lt128-clause-length c l p =
    let s = c.digits-start.result.1 in
    let ds = drop s c.digits-start.result.0 in
    let e : length ds ≡ length c.digits-start.result.0 - s = length-drop s c.digits-start.result.0 in
    let t = c.digits-start.ensures.len in
    let h =
    same_length l ((0x80 + length ds) ∷ ds) c.args.n p (long_digits ds c.args.n c.digits-start.ensures.digits c.if-n-lt128.false
    (omega (arith, c.digits-start.ensures.room))) in
    omega (arith, c.digits-start.ensures.room, c.digits-start.ensures.end)
