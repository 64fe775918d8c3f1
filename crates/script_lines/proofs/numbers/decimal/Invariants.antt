use Rattle.std.proofs.Common.{◌≡◌, ◌≤◌, drop}
use Rattle.script_lines.specs.Numbers.{at_most, digits_from}
use Rattle.script_lines.proofs.numbers.decimal.Given as goal

abbrev pub invariant-loop-digit : goal.invariant-loop-digit
invariant-loop-digit l =
    (l.number ≤ l.most) × (at_most l.most (digits_from 0 l.digits) ≡ at_most l.most (digits_from l.number (drop l.digit-index l.digits)))
