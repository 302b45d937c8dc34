-- Numbers that grow by a digit.
use Rattle.std.proofs.Common.{◌≡◌, ℕ, ◌+◌, ◌*◌, ◌^◌, ◌<◌, ◌≤◌, add-one, arith}
use Rattle.std.proofs.Math.Nat.{pow-le-pow_right, pow-suc, mul-le-mul_right}

below_row : (w p n d : ℕ) → n < p → d < w → n * w + d < p * w
below_row w p n d l m = let h : (n + 1) * w ≤ p * w = mul-le-mul_right w (omega arith) in omega arith

-- a digit more in the base w
pub digit_more : (w i n d : ℕ) → n < w ^ i → d < w → n * w + d < w ^ (i + 1)
digit_more w i n d l m = rw (add-one, pow-suc w i) (below_row w (w ^ i) n d l m)

-- and the number is still below that of any more digits
pub digit_fits : (w i k n d : ℕ) → 0 < w → i < k → n < w ^ i → d < w → n * w + d < w ^ k
digit_fits w i k n d z h l m =
    let p : w ^ (i + 1) ≤ w ^ k = pow-le-pow_right {n = w} z {i = i + 1} {j = k} (omega arith) in
    let q = digit_more w i n d l m in
    omega arith

pub next_power : (w i : ℕ) → w ^ i * w ≡ w ^ (i + 1)
next_power w i = rw (add-one, pow-suc w i) (λ j. w ^ i * w)
