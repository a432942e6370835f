use Rattle.std.proofs.Common.{◌∙◌, ◌≤◌, ◌+◌, ◌^◌, take, arith}
use Rattle.std.specs.Str.Parse.{digits_value}
use Rattle.dory_io.proofs.Numerals.{one_digit_more, too_large, whole_value}
use Rattle.dory_io.proofs.numbers.value.Goals as goal

pub returns-in_err-checked_mul : goal.returns-in_err-checked_mul
returns-in_err-checked_mul c =
    let more = one_digit_more c.args.digits.now c.loop-digit.digit-index c.loop-digit.n c.requires c.loop-digit-test.true c.loop-digit.invariant.value in
    let large : 2 ^ 64 ≤ digits_value 10 (take (c.loop-digit.digit-index + 1) c.args.digits.now) = omega (arith, more, c.in_err-checked_mul.ensures) in
    c.from_residual.ensures ∙ too_large c.args.digits.now (c.loop-digit.digit-index + 1) large

pub returns-in_err-n : goal.returns-in_err-n
returns-in_err-n c =
    let more = one_digit_more c.args.digits.now c.loop-digit.digit-index c.loop-digit.n c.requires c.loop-digit-test.true c.loop-digit.invariant.value in
    let large : 2 ^ 64 ≤ digits_value 10 (take (c.loop-digit.digit-index + 1) c.args.digits.now) = omega (arith, more, c.in_ok-checked_mul.ensures, c.from.ensures, c.in_err-n.ensures) in
    c.from_residual-in_err-n.ensures ∙ too_large c.args.digits.now (c.loop-digit.digit-index + 1) large

pub loop-digit-preserved : goal.loop-digit-preserved
loop-digit-preserved c =
    let more = one_digit_more c.args.digits.now c.loop-digit.digit-index c.loop-digit.n c.requires c.loop-digit-test.true c.loop-digit.invariant.value in
    record {
      small = omega (arith, c.in_ok-n.ensures);
      value = omega (arith, more, c.in_ok-checked_mul.ensures, c.from.ensures, c.in_ok-n.ensures);
    }

pub returns : goal.returns
returns c = whole_value c.args.digits.now c.loop-digit.digit-index c.loop-digit.n c.loop-digit-test.false c.loop-digit.invariant.small c.loop-digit.invariant.value
