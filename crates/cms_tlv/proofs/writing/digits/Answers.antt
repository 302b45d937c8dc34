use Rattle.std.proofs.Common.{◌≡◌, ◌-◌, ◌%◌, drop, slice_set, ◌∷◌, arith}
use Rattle.std.proofs.lemmas.Grind.{common_steps}
use Rattle.cms_tlv.proofs.DigitLaws.{more_digits, room_left, drop_before}
use Rattle.cms_tlv.proofs.writing.digits.Goals as goal

pub loop-rest-preserved : goal.loop-rest-preserved
loop-rest-preserved c =
    let s = c.loop-rest.start in
    let r = c.loop-rest.rest in
    let i = c.loop-rest.invariant in
    let h = room_left (s - 2) r c.loop-rest-test.true i.2 in
    let e : s - 1 - 2 ≡ h.0 = omega (arith, h.1, i.0) in
    let d : drop (s - 1) (slice_set c.loop-rest.octets (s - 1) (r % 256)) ≡ (r % 256) ∷ drop s c.loop-rest.octets =
    drop_before c.loop-rest.octets s (r % 256) (omega (arith, i.0)) (omega (arith, i.1, i.3)) in (
      omega (arith, h.1, i.0),
      omega (arith, i.1),
      rw e h.2,
      grind (arith, common_steps),
      rw d (more_digits (drop s c.loop-rest.octets) r c.args.n c.loop-rest-test.true i.4),
    )
