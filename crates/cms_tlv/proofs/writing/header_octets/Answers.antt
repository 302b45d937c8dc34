use Rattle.std.proofs.Common.{◌≡◌, ◌-◌, ◌∷◌, [], length, drop, refl, subst, arith}
use Rattle.cms_tlv.specs.Headers.{IsShortLength}
use Rattle.std.proofs.lemmas.List.{length-drop}
use Rattle.cms_tlv.proofs.DigitLaws.{short_length, long_digits, header_octets}
use Rattle.cms_tlv.proofs.writing.header_octets.Goals as goal

pub returns-then-n-lt128-clause-header : goal.returns-then-n-lt128-clause-header
returns-then-n-lt128-clause-header c = (c.args.n ∷ [], short_length c.args.n c.if-n-lt128.true, refl)

pub returns-clause-header : goal.returns-clause-header
returns-clause-header c =
    let s = c.digits-start.result.1 in
    let xs = c.digits-start.result.0 in
    let ds = drop s xs in
    let e : length ds ≡ length xs - s = length-drop s xs in
    let t = c.digits-start.ensures.len in
    let r = c.digits-start.ensures.room in
    let f = header_octets xs s c.args.ident (0x8a - s) r (omega (arith, c.digits-start.ensures.end)) in
    let k = long_digits ds c.args.n c.digits-start.ensures.digits c.if-n-lt128.false (omega arith) in
    let m : IsShortLength ((0x8a - s) ∷ ds) c.args.n = subst (λ x. IsShortLength (x ∷ ds) c.args.n) (omega (arith, c.digits-start.ensures.end)) k in
    ((0x8a - s) ∷ ds, m, f)
