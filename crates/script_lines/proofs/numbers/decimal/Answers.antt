use Rattle.std.proofs.Common.{◌≡◌, ◌<◌, ◌+◌, ◌-◌, ◌*◌, length, get_or, true, None, arith, ◌∙◌}
use Rattle.std.proofs.lemmas.Bool.Decides.{nat_tests}
use Rattle.script_lines.specs.Numbers.{is_digit, at_most, digits_from, number_of}
use Rattle.script_lines.proofs.Decimals.{past_most}
use Rattle.script_lines.proofs.numbers.decimal.Goals as goal

pub returns-then-number-from-clause-value : goal.returns-then-number-from-clause-value
unfolding number_of
returns-then-number-from-clause-value c =
    let within : c.loop-digit.digit-index < length c.args.digits.now = omega arith in
    let digit : is_digit (get_or c.args.digits.now c.loop-digit.digit-index 0) ≡ true = grind (arith, nat_tests) in
    let past : c.args.most < c.loop-digit.number * 10 + (get_or c.args.digits.now c.loop-digit.digit-index 0 - 48) = omega arith in
    let none : at_most c.args.most (digits_from 0 c.args.digits.now) ≡ None =
    c.loop-digit.invariant.1 ∙ past_most c.args.most c.loop-digit.number c.loop-digit.digit-index c.args.digits.now within digit past in
    grind (arith, nat_tests)
