-- The lines so far, and those of the remaining submodules.
use Rattle.std.proofs.Common.{◌≡◌, ◌++◌, drop, flat_map}
use Rattle.script_lines.specs.Places.{part_line}
use Rattle.script_lines.proofs.places.places_of.Given as goal

abbrev pub invariant-loop-part : goal.invariant-loop-part
invariant-loop-part l =
    l.initial.text.items ++ flat_map (part_line l.controller l.entry.slot) l.entry.submodules.items
    ≡ l.text.items ++ flat_map (part_line l.controller l.entry.slot) (drop l.part-index l.entry.submodules.items)
