-- PrmEnd and ApplicationReady after a plug, and their answers, as whole blocks (IEC 61158-6-10, 5.2.4.5).
use Rattle.std.specs.Prelude.{◌==◌, ℕ}
use Rattle.wire.specs.Codec.{Codec}
use Rattle.wire.specs.Formats.{◌⨾◌, seen}
use Rattle.wire.specs.Checks.{checked}
use Rattle.wire.specs.declared.blocks.fault.BlockFault.{BlockFault}
use Rattle.wire.specs.declared.blocks.fault.BlockFault.TheVariants.{Field}
use Rattle.wire.specs.blocks.Fields.{two, fixed, fixed_one, blank, octets}
use Rattle.connect_blocks.specs.declared.plug_control.PlugControlBlock.{PlugControlBlock}

-- BlockType, BlockLength 28, version 1.0, two reserved octets, ARUUID, SessionKey, AlarmSequenceNumber, ControlCommand,
-- ControlBlockProperties.
unfoldable pub plug_control : ℕ → Codec BlockFault PlugControlBlock
plug_control kind = seen
    (λ x. record {
      ar_uuid = x.1.1.1.1.1.0;
      session_key = x.1.1.1.1.1.1.0;
      alarm_sequence_number = x.1.1.1.1.1.1.1.0;
      control_command = x.1.1.1.1.1.1.1.1.0;
      control_block_properties = x.1.1.1.1.1.1.1.1.1;
    })
    (λ block. (tt, (tt, (tt, (tt, (tt, (block.ar_uuid, (block.session_key, (block.alarm_sequence_number, (block.control_command, block.control_block_properties))))))))))
    (fixed 0 kind ⨾ fixed 1 28 ⨾ fixed_one 2 1 ⨾ fixed_one 3 0 ⨾ blank 2 ⨾ octets 16 ⨾ two ⨾ two ⨾ two ⨾ two)

-- The answer to an ApplicationReady after a plug: its ControlCommand is Done.
abbrev pub plug_ready_res : Codec BlockFault PlugControlBlock
plug_ready_res = checked (λ block. block.control_command == 8) (Field 8) (plug_control 0x8113)
