use Rattle.script_lines.proofs.Hex.{AreTested}
use Rattle.script_lines.proofs.digits.are_digits.Given as goal

abbrev pub invariant-loop-place : goal.invariant-loop-place
invariant-loop-place l = AreTested l.digits l.are l.place
