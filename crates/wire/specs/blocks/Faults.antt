-- The numbers of the faults.
use Rattle.std.specs.Prelude.{ℕ}
use Rattle.wire.specs.declared.blocks.fault.BlockFault.{BlockFault}
use Rattle.wire.specs.declared.blocks.fault.BlockFault.TheVariants.{Truncated, Kind, Length, Version, Count, Field}

-- The number of a fault.
abbrev pub number_of : BlockFault → ℕ
number_of Truncated = 1
number_of Kind = 2
number_of Length = 3
number_of (Version _) = 4
number_of Count = 5
number_of (Field _) = 6
