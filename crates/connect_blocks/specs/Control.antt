-- PrmEnd, ApplicationReady and Release: their requests and their responses (IEC 61158-6-10, 5.2.4.5).
use Rattle.std.specs.Prelude.{◌==◌, ℕ, Bool, true, Option, Some, None}
use Rattle.wire.specs.Codec.{Codec}
use Rattle.wire.specs.Formats.{◌⨾◌, seen}
use Rattle.wire.specs.Checks.{checked}
use Rattle.wire.specs.declared.blocks.fault.BlockFault.{BlockFault}
use Rattle.wire.specs.declared.blocks.fault.BlockFault.TheVariants.{Field}
use Rattle.wire.specs.blocks.Fields.{two, blank, octets}
use Rattle.connect_blocks.specs.declared.control.ControlBlock.{ControlBlock}

-- Whether a ControlCommand is the wanted one; any is if none is wanted.
abbrev pub is_command : Option ℕ → ℕ → Bool
is_command None value = true
is_command (Some wanted) value = value == wanted

-- A ControlCommand, field 8.
unfoldable pub command : Option ℕ → Codec BlockFault ℕ
command wanted = checked (is_command wanted) (Field 8) two

-- Two reserved octets, ARUUID, SessionKey, two reserved octets, ControlCommand, ControlBlockProperties.
unfoldable pub control : Option ℕ → Codec BlockFault ControlBlock
control wanted = seen
    (λ x. record { ar_uuid = x.1.0; session_key = x.1.1.0; control_command = x.1.1.1.1.0; control_block_properties = x.1.1.1.1.1 })
    (λ block. (tt, (block.ar_uuid, (block.session_key, (tt, (block.control_command, block.control_block_properties))))))
    (blank 2 ⨾ octets 16 ⨾ two ⨾ blank 2 ⨾ command wanted ⨾ two)
