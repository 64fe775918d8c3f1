-- The outputs so far.
use Rattle.std.proofs.Common.{◌≡◌, map, take}
use Rattle.startup_octets.specs.OutputWorlds.{octets_in, shown_at}
use Rattle.startup_octets.proofs.outputs.shown_outputs.Given as goal

abbrev pub invariant-loop-output : goal.invariant-loop-output
invariant-loop-output g l = octets_in l.shown.items ≡ map (shown_at l.world.device) (take l.output-index l.output-items)
