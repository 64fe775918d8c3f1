-- The lines so far, and those of the rest.
use Rattle.std.proofs.Common.{◌≡◌, ◌++◌, drop, flat_map}
use Rattle.script_lines.specs.Show.{stands_line}
use Rattle.script_lines.proofs.show.each_diagnosis.Given as goal

abbrev pub invariant-loop-diagnosis : goal.invariant-loop-diagnosis
invariant-loop-diagnosis l =
    l.initial.text.items ++ flat_map stands_line l.diagnoses ≡ l.text.items ++ flat_map stands_line (drop l.diagnosis-index l.diagnoses)
