-- The outputs so far, and those of the remaining modules or submodules.
use Rattle.std.proofs.Common.{◌≡◌, ◌++◌, drop}
use Rattle.std.specs.Prelude.{flat_map}
use Rattle.script_lines.specs.Show.{module_shown}
use Rattle.script_session.proofs.outputs.outputs.Given as goal

abbrev pub invariant-loop-entry : goal.invariant-loop-entry
invariant-loop-entry l =
    l.initial.text.items ++ flat_map (module_shown l.device.live.rest.real l.device.live.rest.link) l.device.live.rest.real.modules.items
    ≡ l.text.items ++ flat_map (module_shown l.device.live.rest.real l.device.live.rest.link) (drop l.entry-index l.device.live.rest.real.modules.items)
