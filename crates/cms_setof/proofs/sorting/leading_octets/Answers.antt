use Rattle.std.proofs.Common.{◌^◌, ◌≤◌, arith}
use Rattle.std.proofs.Math.Nat.{pow-le-pow_right}
use Rattle.cms_setof.proofs.sorting.leading_octets.Goals as goal

pub overflow_mul-number : goal.overflow_mul-number
overflow_mul-number c =
    let w : 256 ^ c.loop-i.i ≤ 256 ^ 7 = (let k : c.loop-i.i ≤ 7 = omega arith in pow-le-pow_right (omega arith) k) in
    omega (arith, w, c.loop-i.invariant.fits)

pub overflow_add-number : goal.overflow_add-number
overflow_add-number c =
    let w : 256 ^ c.loop-i.i ≤ 256 ^ 7 = (let k : c.loop-i.i ≤ 7 = omega arith in pow-le-pow_right (omega arith) k) in
    omega (arith, w, c.loop-i.invariant.fits)
