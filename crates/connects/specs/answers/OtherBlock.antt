-- A block of any type and any version (IEC 61158-6-10, 5.2.1).
use Rattle.std.specs.Prelude.{ℕ, List}
use Rattle.wire.specs.Codec.{Codec}
use Rattle.wire.specs.Formats.{number, ◌⨾◌, framed}
use Rattle.wire.specs.Whole.{everything}
use Rattle.wire.specs.declared.blocks.fault.BlockFault.{BlockFault}
use Rattle.wire.specs.declared.blocks.fault.BlockFault.TheVariants.{Truncated}

-- BlockType, and as many octets as BlockLength counts.
unfoldable pub other_block : Codec BlockFault (ℕ × List ℕ)
other_block = number Truncated 2 ⨾ framed (number Truncated 2) Truncated everything
