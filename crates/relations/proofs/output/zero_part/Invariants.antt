-- The submodules so far are others, or have no output.
use Rattle.std.proofs.Common.{◌≡◌, drop}
use Rattle.relations.specs.Outputs.{output_part}
use Rattle.relations.proofs.output.zero_part.Given as goal

abbrev pub invariant-loop-part : goal.invariant-loop-part
invariant-loop-part l = output_part l.subslot (drop l.part-index l.entry.submodules.items) ≡ output_part l.subslot l.entry.submodules.items
