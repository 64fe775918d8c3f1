-- The items so far, and the remaining ones.
use Rattle.std.proofs.Common.{◌≡◌, ◌++◌, drop, length, map}
use Rattle.c_layout.specs.Modules.{parameter_of}
use Rattle.c_layout.proofs.plugged.parameters.Given as goal

abbrev pub invariant-loop-parameter : goal.invariant-loop-parameter
invariant-loop-parameter l = record {
  items : l.parameters.items ++ map parameter_of (drop l.parameter-index l.written) ≡ map parameter_of l.written;
  len : length l.parameters.items ≡ l.parameter-index;
}
