-- The output in all modules is that in the remaining ones.
use Rattle.std.proofs.Common.{◌≡◌, drop}
use Rattle.controller_abi.specs.Outputs.{output_at}
use Rattle.controller_abi.proofs.port.output_at.Given as goal

abbrev pub invariant-loop-plugged : goal.invariant-loop-plugged
invariant-loop-plugged l = output_at l.slot l.subslot l.modules ≡ output_at l.slot l.subslot (drop l.plugged-index l.modules)
