use Rattle.std.proofs.Common.{◌≡◌, drop}
use Rattle.configurator.specs.Standing.{fixed_in}
use Rattle.configurator.proofs.station.fixed_in.Given as goal

-- what is found in all is found in the rest
abbrev pub invariant-loop-reference : goal.invariant-loop-reference
invariant-loop-reference l = fixed_in l.slot l.references ≡ fixed_in l.slot (drop l.reference-index l.references)
