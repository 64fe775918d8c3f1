-- The lines so far, and those of the remaining modules.
use Rattle.std.proofs.Common.{◌≡◌, ◌++◌, drop, flat_map}
use Rattle.script_lines.specs.Places.{lines_of}
use Rattle.script_lines.proofs.places.all.Given as goal

abbrev pub invariant-loop-entry : goal.invariant-loop-entry
invariant-loop-entry l =
    l.initial.text.items ++ flat_map (lines_of l.controller) l.controller.setup.plan.real.modules.items
    ≡ l.text.items ++ flat_map (lines_of l.controller) (drop l.entry-index l.controller.setup.plan.real.modules.items)
