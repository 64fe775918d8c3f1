use Rattle.std.proofs.Common.{◌≡◌, drop}
use Rattle.configurator.specs.Standing.{module_with}
use Rattle.configurator.proofs.station.module_with.Given as goal

-- what is found in all is found in the rest
abbrev pub invariant-loop-module : goal.invariant-loop-module
invariant-loop-module l = module_with l.target l.modules ≡ module_with l.target (drop l.module-index l.modules)
