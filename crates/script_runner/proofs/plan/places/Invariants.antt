use Rattle.std.proofs.Common.{◌≡◌, ◌++◌, flat_map, drop}
use Rattle.script_runner.specs.Planned.{place_line}
use Rattle.script_runner.proofs.plan.places.Given as goal

abbrev pub invariant-loop-entry : goal.invariant-loop-entry
invariant-loop-entry l =
    l.initial.text.items ++ flat_map place_line l.places ≡ l.text.items ++ flat_map place_line (drop l.entry-index l.places)
