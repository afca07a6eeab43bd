use Rattle.std.proofs.Common.{◌<◌, arith}
use Rattle.command_words.proofs.NumberLemmas.{pow_small, digit_small}
use Rattle.command_words.proofs.requests.number.Goals as goal

pub overflow_mul-n : goal.overflow_mul-n
overflow_mul-n c =
    let index : c.loop-digit.digit-index < 9 = omega arith in
    let small = pow_small c.loop-digit.digit-index index in
    omega arith

pub overflow_add-n : goal.overflow_add-n
overflow_add-n c =
    let index : c.loop-digit.digit-index < 9 = omega arith in
    let small = pow_small c.loop-digit.digit-index index in
    let digit = digit_small c.args.digits.now c.loop-digit.digit-index 0 c.loop-digit-test.true c.requires.digits in
    omega arith
