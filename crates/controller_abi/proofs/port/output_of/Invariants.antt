-- The output in all submodules is that in the remaining ones.
use Rattle.std.proofs.Common.{◌≡◌, drop}
use Rattle.controller_abi.specs.Outputs.{output_of}
use Rattle.controller_abi.proofs.port.output_of.Given as goal

abbrev pub invariant-loop-part : goal.invariant-loop-part
invariant-loop-part l = output_of l.subslot l.submodules ≡ output_of l.subslot (drop l.part-index l.submodules)
