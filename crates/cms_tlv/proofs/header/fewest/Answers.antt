use Rattle.std.proofs.Common.{◌≡◌, ◌+◌, ◌-◌, ◌*◌, ◌^◌, ◌≤◌, arith, ap, ◌∙◌}
use Rattle.std.proofs.Math.Nat.{pow-le-pow_right}
use Rattle.cms_tlv.proofs.Numbers.{next_power}
use Rattle.cms_tlv.proofs.header.fewest.Goals as goal

pub overflow_mul-least : goal.overflow_mul-least
overflow_mul-least c =
    let i = c.loop.counter - 1 in
    let l : 256 ^ i ≤ 256 ^ 6 = pow-le-pow_right {n = 256} (omega arith) {i = i} {j = 6} (omega (arith, c.requires.few)) in
    omega (arith, c.loop.invariant)

pub loop-preserved : goal.loop-preserved
loop-preserved c =
    let i = c.loop.counter - 1 in
    let e : i + 1 ≡ c.loop.counter = omega arith in
    ap (λ n. n * 256) c.loop.invariant ∙ next_power 256 i ∙ ap (λ k. 256 ^ k) e ∙ ap (λ k. 256 ^ k) (omega arith)
