-- The module in a slot, as the code has it.
use Rattle.configurator.specs.declared.station.Standing.{Standing}
use Rattle.configurator.specs.Standing.{Stands}

-- the module
abbrev pub seen : Standing → Stands
seen standing = record { ident = standing.ident; submodules = standing.submodules.now }
