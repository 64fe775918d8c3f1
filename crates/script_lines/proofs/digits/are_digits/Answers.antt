use Rattle.std.proofs.Common.{arith, subst}
use Rattle.std.proofs.lemmas.List.{take_all}
use Rattle.std.specs.List.{AllPass}
use Rattle.hex.specs.Hex.{is_hex_digit}
use Rattle.script_lines.proofs.Hex.{tested_on}
use Rattle.script_lines.proofs.digits.are_digits.Goals as goal

pub loop-place-preserved : goal.loop-place-preserved
loop-place-preserved c =
    tested_on c.args.digits.now c.loop-place.are c.is_ascii_hexdigit-are.result c.loop-place.place (omega arith) c.is_ascii_hexdigit-are.ensures.value c.loop-place.invariant

pub returns-clause-yes : goal.returns-clause-yes
returns-clause-yes c is =
    subst (AllPass is_hex_digit) (take_all c.loop-place.place c.args.digits.now (omega arith)) (c.loop-place.invariant.good is)
