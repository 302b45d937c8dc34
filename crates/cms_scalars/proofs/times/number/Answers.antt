use Rattle.std.proofs.Common.{◌≡◌, take, arith}
use Rattle.std.proofs.lemmas.List.{take_all}
use Rattle.cms_scalars.proofs.TimeNumbers.{digit_of, value_fits, value_below}
use Rattle.cms_scalars.proofs.times.number.Goals as goal

pub overflow_mul-number : goal.overflow_mul-number
overflow_mul-number c =
    let few =
    value_fits c.args.digits.now c.loop-digit.digit-index c.loop-digit.number c.requires.digits c.requires.few c.loop-digit-test.true
    c.loop-digit.invariant in
    omega (arith, few)

pub overflow_add-number : goal.overflow_add-number
overflow_add-number c =
    let few =
    value_fits c.args.digits.now c.loop-digit.digit-index c.loop-digit.number c.requires.digits c.requires.few c.loop-digit-test.true
    c.loop-digit.invariant in
    let most = digit_of c.args.digits.now c.loop-digit.digit-index c.requires.digits c.loop-digit-test.true in
    omega (arith, few, most.1)

pub returns-clause-bound : goal.returns-clause-bound
returns-clause-bound c =
    let all : take c.loop-digit.digit-index c.args.digits.now ≡ c.args.digits.now = take_all _ _ c.loop-digit-test.false in
    rw (c.loop-digit.invariant, all) (value_below c.args.digits.now c.requires.digits)
