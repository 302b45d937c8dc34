-- Numbers that the digits of a time stand for.
use Rattle.std.proofs.Common.{◌≡◌, ℕ, zero, suc, ◌-◌, ◌*◌, ◌^◌, ◌<◌, ◌≤◌, List, [], ◌∷◌, length, take, get_or, arith}
use Rattle.std.specs.List.{AllByRecursion}
use Rattle.std.proofs.lemmas.List.{length-take-le}
use Rattle.std.proofs.Math.Nat.{mul-le-mul_right, pow-suc}
use Rattle.cms_scalars.specs.Times.{IsDigit, decimal_value}

pub digits_taken : (n : ℕ) (ds : List ℕ) → AllByRecursion IsDigit ds → AllByRecursion IsDigit (take n ds)
digits_taken zero ds h = tt
digits_taken (suc n) [] h = tt
digits_taken (suc n) (d ∷ ds) h = (h.0, digits_taken n ds h.1)

pub digit_of : (ds : List ℕ) (i : ℕ) → AllByRecursion IsDigit ds → i < length ds → IsDigit (get_or ds i 0)
digit_of [] i h l = absurd (omega arith)
digit_of (d ∷ ds) zero h l = h.0
digit_of (d ∷ ds) (suc i) h l = digit_of ds i h.1 (omega arith)

pub value_below : (ds : List ℕ) → AllByRecursion IsDigit ds → decimal_value ds < 10 ^ length ds
value_below [] h = omega arith
value_below (d ∷ ds) h =
    let v = value_below ds h.1 in
    let k = h.0.1 in
    let p : (d - 48) * 10 ^ length ds ≤ 9 * 10 ^ length ds = mul-le-mul_right (10 ^ length ds) (omega arith) in
    rw pow-suc (omega (arith, v, p))

-- less than four digits
pub value_of_few : (ds : List ℕ) → AllByRecursion IsDigit ds → length ds < 4 → decimal_value ds < 1000
value_of_few [] h l = omega arith
value_of_few (a ∷ []) h l = (let v = value_below (a ∷ []) h in omega (arith, v))
value_of_few (a ∷ b ∷ []) h l = (let v = value_below (a ∷ b ∷ []) h in omega (arith, v))
value_of_few (a ∷ b ∷ c ∷ []) h l = value_below (a ∷ b ∷ c ∷ []) h
value_of_few (a ∷ b ∷ c ∷ d ∷ ds) h l = absurd (omega arith)

pub value_fits : (ds : List ℕ) (i n : ℕ) → AllByRecursion IsDigit ds → length ds ≤ 4 → i < length ds → n ≡ decimal_value (take i ds) → n < 1000
value_fits ds i n h few l e =
    let k : length (take i ds) ≡ i = length-take-le i ds (omega arith) in
    let v = value_of_few (take i ds) (digits_taken i ds h) (omega arith) in
    omega (arith, e, v)
