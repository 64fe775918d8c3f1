-- AlarmAck (IEC 61158-6-10, 5.2.6).
use Rattle.wire.specs.Codec.{Codec}
use Rattle.wire.specs.Formats.{◌⨾◌, seen}
use Rattle.wire.specs.declared.blocks.fault.BlockFault.{BlockFault}
use Rattle.wire.specs.blocks.Fields.{two, four}
use Rattle.record_blocks.specs.declared.alarm_ack.AlarmAck.{AlarmAck}

-- The fields of an AlarmAck.
unfoldable pub alarm_ack : Codec BlockFault AlarmAck
alarm_ack = seen
    (λ x. record {
      alarm_type = x.0;
      api = x.1.0;
      slot_number = x.1.1.0;
      subslot_number = x.1.1.1.0;
      alarm_specifier = x.1.1.1.1.0;
      pnio_status = x.1.1.1.1.1;
    })
    (λ block. (
      block.alarm_type,
      (
        block.api,
        (
          block.slot_number,
          (
            block.subslot_number,
            (
              block.alarm_specifier,
              block.pnio_status,
            ),
          ),
        ),
      ),
    ))
    (two ⨾ four ⨾ two ⨾ two ⨾ two ⨾ four)
