-- AlarmCRBlockReq and AlarmCRBlockRes (IEC 61158-6-10, 5.2.4.7 and 5.2.4.8).
use Rattle.std.specs.Prelude.{◌≤◌}
use Rattle.wire.specs.Codec.{Codec}
use Rattle.wire.specs.Formats.{◌⨾◌, seen}
use Rattle.wire.specs.declared.blocks.fault.BlockFault.{BlockFault}
use Rattle.wire.specs.blocks.Fields.{two, four, ranged, fixed, unchecked_two}
use Rattle.connect_blocks.specs.declared.alarm_cr.AlarmCrBlockReq.{AlarmCrBlockReq}
use Rattle.connect_blocks.specs.declared.alarm_cr.AlarmCrBlockRes.{AlarmCrBlockRes}

-- AlarmCRType 1, LT 0x8892, AlarmCRProperties, RTATimeoutFactor, RTARetries, LocalAlarmReference, MaxAlarmDataLength and
-- the two tag headers.
unfoldable pub alarm_cr_block_req : Codec BlockFault AlarmCrBlockReq
alarm_cr_block_req = seen
    (λ x. record {
      alarm_cr_properties = x.1.1.0;
      rta_timeout_factor = x.1.1.1.0;
      rta_retries = x.1.1.1.1.0;
      local_alarm_reference = x.1.1.1.1.1.0;
      max_alarm_data_length = x.1.1.1.1.1.1.0;
      tag_header_high = x.1.1.1.1.1.1.1.0;
      tag_header_low = x.1.1.1.1.1.1.1.1;
    })
    (λ block. (
      tt,
      (
        tt,
        (
          block.alarm_cr_properties,
          (
            block.rta_timeout_factor,
            (
              block.rta_retries,
              (
                block.local_alarm_reference,
                (block.max_alarm_data_length, (block.tag_header_high, block.tag_header_low)),
              ),
            ),
          ),
        ),
      ),
    ))
    (fixed 4 1 ⨾ fixed 5 0x8892 ⨾ four ⨾ ranged 7 1 65535
    ⨾ ranged 8 1 15 ⨾ two ⨾ ranged 10 200 1432 ⨾ two ⨾ two)

-- The fields of an AlarmCRBlockReq are accepted.
pub record IsAlarmCrBlockReq (block : AlarmCrBlockReq) : Type 0 where
  pub timeout : 1 ≤ block.rta_timeout_factor
  pub retries_least : 1 ≤ block.rta_retries
  pub retries_greatest : block.rta_retries ≤ 15
  pub data_least : 200 ≤ block.max_alarm_data_length
  pub data_greatest : block.max_alarm_data_length ≤ 1432

-- The fields of an AlarmCRBlockRes: AlarmCRType, LocalAlarmReference 1 and MaxAlarmDataLength 200.
unfoldable pub alarm_cr_block_res : Codec BlockFault AlarmCrBlockRes
alarm_cr_block_res = seen (λ _. record {}) (λ _. (tt, (tt, tt)))
    (unchecked_two 1 ⨾ fixed 5 1 ⨾ fixed 6 200)
