-- The outputs so far, and those of the remaining modules or submodules.
use Rattle.std.proofs.Common.{◌≡◌, ◌++◌, drop}
use Rattle.std.specs.Prelude.{flat_map}
use Rattle.script_lines.specs.Show.{part_shown}
use Rattle.script_session.proofs.outputs.module_outputs.Given as goal

abbrev pub invariant-loop-part : goal.invariant-loop-part
invariant-loop-part l =
    l.initial.text.items ++ flat_map (part_shown l.device.live.rest.real l.device.live.rest.link l.entry.slot) l.entry.submodules.items
    ≡ l.text.items ++ flat_map (part_shown l.device.live.rest.real l.device.live.rest.link l.entry.slot) (drop l.part-index l.entry.submodules.items)
