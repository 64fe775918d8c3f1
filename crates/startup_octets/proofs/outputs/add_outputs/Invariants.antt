-- The outputs of the submodules so far.
use Rattle.std.proofs.Common.{◌≡◌, ◌++◌, flat_map, take}
use Rattle.startup_octets.specs.Outputs.{part_outputs}
use Rattle.startup_octets.proofs.outputs.add_outputs.Given as goal

abbrev pub invariant-loop-part : goal.invariant-loop-part
invariant-loop-part l = l.outputs.items ≡ l.initial.outputs.items ++ flat_map (part_outputs l.slot) (take l.part-index l.parts)
