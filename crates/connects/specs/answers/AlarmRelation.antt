-- The AlarmCRBlockRes of a device of any maker (IEC 61158-6-10, 5.2.4.8).
use Rattle.std.specs.Prelude.{◌≤◌}
use Rattle.wire.specs.Codec.{Codec}
use Rattle.wire.specs.Formats.{◌⨾◌, seen}
use Rattle.wire.specs.declared.blocks.fault.BlockFault.{BlockFault}
use Rattle.wire.specs.blocks.Fields.{two, fixed, fixed_one, ranged, unchecked_two}
use Rattle.connects.specs.declared.answers.alarm_relation.AlarmRelation.{AlarmRelation}

-- The whole block: BlockType 0x8103, BlockLength 8, version 1.0, AlarmCRType, LocalAlarmReference and
-- MaxAlarmDataLength.
unfoldable pub alarm_relation : Codec BlockFault AlarmRelation
alarm_relation = seen
    (λ x. record { local_alarm_reference = x.1.1.1.1.1.0; max_alarm_data_length = x.1.1.1.1.1.1 })
    (λ block. (tt, (tt, (tt, (tt, (tt, (block.local_alarm_reference, block.max_alarm_data_length)))))))
    (fixed 0 0x8103 ⨾ fixed 1 8 ⨾ fixed_one 2 1 ⨾ fixed_one 3 0 ⨾ unchecked_two 1 ⨾ two ⨾ ranged 6 200 1432)

-- MaxAlarmDataLength is accepted.
pub record IsAlarmRelation (block : AlarmRelation) : Type 0 where
  pub least : 200 ≤ block.max_alarm_data_length
  pub greatest : block.max_alarm_data_length ≤ 1432
