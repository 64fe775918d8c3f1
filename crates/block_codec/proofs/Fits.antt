-- What can be written fits its format.
use Rattle.std.proofs.Common.{◌≡◌, ◌<◌, ℕ, Option, Some, None, true, refl, arith}
use Rattle.std.proofs.lemmas.Bool.{eq-eqb}
use Rattle.wire.specs.blocks.Fields.{body, open_body, version}
use Rattle.connect_blocks.specs.ArBlock.{ar_block_res}
use Rattle.connect_blocks.specs.Control.{command, control, is_command}
use Rattle.connect_blocks.specs.Iocr.{iocr_block_res}
use Rattle.connect_blocks.specs.declared.ar_block.ArBlockRes.{ArBlockRes}
use Rattle.connect_blocks.specs.declared.control.ControlBlock.{ControlBlock}
use Rattle.connect_blocks.specs.declared.iocr.IocrBlockRes.{IocrBlockRes}
use Rattle.record_blocks.specs.declared.alarm_ack.AlarmAck.{AlarmAck}
use Rattle.record_blocks.specs.declared.alarm_notification.AlarmNotification.{AlarmNotification}
use Rattle.record_blocks.specs.declared.record_header.RecordHeader.{RecordHeader}
use Rattle.record_blocks.specs.declared.write_record.IodWriteReq.{IodWriteReq}
use Rattle.record_blocks.specs.declared.write_record.IodWriteRes.{IodWriteRes}
use Rattle.record_blocks.specs.AlarmAck.{alarm_ack}
use Rattle.record_blocks.specs.AlarmNotification.{alarm_notification, alarm_place, alarm_subject}
use Rattle.record_blocks.specs.RecordHeader.{record_header}
use Rattle.record_blocks.specs.WriteRecord.{iod_write_req, iod_write_res}
use Rattle.block_codec.specs.declared.block.Block.{Block}
use Rattle.block_codec.specs.declared.block.Block.TheVariants as is
use Rattle.block_codec.specs.Block.{fields_of, kind_of}
use Rattle.block_codec.specs.Writable.{CanBeWritten, IsAck, IsAlarm, IsArAnswer, IsControl, IsIocrAnswer, IsRecord, IsWrite, IsWritten}

-- ---- the values that the formats of fields can write

version_fits : version.Fits tt
unfolding version
version_fits = ((refl, omega arith), (refl, omega arith))

control_fits : (wanted : Option ℕ) (block : ControlBlock) → IsControl block → is_command wanted block.control_command ≡ true → (control wanted).Fits block
unfolding control command
control_fits wanted block is right = (tt, (is.ar_uuid, (omega (arith, is.session_key), (tt, ((right, omega (arith, is.control_command)), omega (arith, is.control_block_properties))))))

control_size : (wanted : Option ℕ) (block : ControlBlock) → IsControl block → (control wanted).size block < 1000
unfolding control command
control_size wanted block is = omega (arith, is.ar_uuid)

record_fits : (header : RecordHeader) → IsRecord header → record_header.Fits header
unfolding record_header
record_fits header is = (
  omega (arith, is.seq_number),
  (
    is.ar_uuid,
    (
      omega (arith, is.api),
      (
        omega (arith, is.slot_number),
        (omega (arith, is.subslot_number), (tt, (omega (arith, is.index), omega (arith, is.record_data_length)))),
      ),
    ),
  ),
)

record_size : (header : RecordHeader) → IsRecord header → record_header.size header ≡ 34
unfolding record_header
record_size header is = omega (arith, is.ar_uuid)

write_fits : (block : IodWriteReq) → IsWrite block → iod_write_req.Fits block
unfolding iod_write_req
write_fits block is = (record_fits block.header is.header, tt)

write_size : (block : IodWriteReq) → IsWrite block → iod_write_req.size block < 1000
unfolding iod_write_req
write_size block is = omega (arith, record_size block.header is.header)

written_fits : (block : IodWriteRes) → IsWritten block → iod_write_res.Fits block
unfolding iod_write_res
written_fits block is = (
  record_fits block.header is.header,
  (omega (arith, is.additional_value_1), (omega (arith, is.additional_value_2), (omega (arith, is.pnio_status), tt))),
)

written_size : (block : IodWriteRes) → IsWritten block → iod_write_res.size block < 1000
unfolding iod_write_res
written_size block is = omega (arith, record_size block.header is.header)

ar_fits : (block : ArBlockRes) → IsArAnswer block → ar_block_res.Fits block
unfolding ar_block_res
ar_fits block is = (omega arith, (is.ar_uuid, (omega (arith, is.session_key), (is.cm_responder_mac_add, omega arith))))

ar_size : (block : ArBlockRes) → IsArAnswer block → ar_block_res.size block < 1000
unfolding ar_block_res
ar_size block is = omega (arith, is.ar_uuid, is.cm_responder_mac_add)

iocr_fits : (block : IocrBlockRes) → IsIocrAnswer block → iocr_block_res.Fits block
unfolding iocr_block_res
iocr_fits block is = (omega (arith, is.iocr_type), (omega (arith, is.iocr_reference), omega (arith, is.frame_id)))

iocr_size : (block : IocrBlockRes) → iocr_block_res.size block < 1000
unfolding iocr_block_res
iocr_size block = omega arith

ack_fits : (ack : AlarmAck) → IsAck ack → alarm_ack.Fits ack
unfolding alarm_ack
ack_fits ack is = (
  omega (arith, is.alarm_type),
  (omega (arith, is.api), (omega (arith, is.slot_number), (omega (arith, is.subslot_number), (omega (arith, is.alarm_specifier), omega (arith, is.pnio_status))))),
)

ack_size : (ack : AlarmAck) → alarm_ack.size ack < 1000
unfolding alarm_ack
ack_size ack = omega arith

place_fits : (alarm : AlarmNotification) → IsAlarm alarm
    → alarm_place.Fits (record { alarm_type = alarm.alarm_type; api = alarm.api; slot_number = alarm.slot_number; subslot_number = alarm.subslot_number })
unfolding alarm_place
place_fits alarm is = (omega (arith, is.alarm_type), (omega (arith, is.api), (omega (arith, is.slot_number), omega (arith, is.subslot_number))))

subject_fits : (alarm : AlarmNotification) → IsAlarm alarm
    → alarm_subject.Fits (record { module_ident_number = alarm.module_ident_number; submodule_ident_number = alarm.submodule_ident_number; alarm_specifier = alarm.alarm_specifier })
unfolding alarm_subject
subject_fits alarm is = (omega (arith, is.module_ident_number), (omega (arith, is.submodule_ident_number), (omega (arith, is.alarm_specifier), (refl, omega arith))))

alarm_fits : (alarm : AlarmNotification) → IsAlarm alarm → alarm_notification.Fits alarm
unfolding alarm_notification
alarm_fits alarm is = ((place_fits alarm is, subject_fits alarm is), tt)

alarm_size : (alarm : AlarmNotification) → IsAlarm alarm → alarm_notification.size alarm < 2000
unfolding alarm_notification alarm_place alarm_subject
alarm_size alarm is = omega (arith, is.few)

-- ---- a block

-- the format of its fields can write it
abbrev pub Fits : Block → Type 0
Fits block = ((fields_of (kind_of block)).size block < 65536) × (fields_of (kind_of block)).Fits block

pub block_fits : (block : Block) → CanBeWritten block → Fits block
unfolding fields_of body open_body version
block_fits (is.ArBlockReq block) w = w
block_fits (is.ArBlockRes block) w = (omega (arith, ar_size block w), (version_fits, ar_fits block w))
block_fits (is.IocrBlockReq block) w = w
block_fits (is.IocrBlockRes block) w = (omega (arith, iocr_size block), (version_fits, iocr_fits block w))
block_fits (is.AlarmCrBlockReq block) w = w
block_fits (is.AlarmCrBlockRes block) w = w
block_fits (is.ExpectedSubmoduleBlockReq block) w = w
block_fits (is.ModuleDiffBlock block) w = w
block_fits (is.PrmEnd block) w = (omega (arith, control_size None block w), (version_fits, control_fits None block w refl))
block_fits (is.PrmEndRes block) w = (omega (arith, control_size (Some 8) block w.0), (version_fits, control_fits (Some 8) block w.0 (eq-eqb _ _ w.1)))
block_fits (is.ApplicationReady block) w = (omega (arith, control_size (Some 2) block w.0), (version_fits, control_fits (Some 2) block w.0 (eq-eqb _ _ w.1)))
block_fits (is.ApplicationReadyRes block) w = (omega (arith, control_size (Some 8) block w.0), (version_fits, control_fits (Some 8) block w.0 (eq-eqb _ _ w.1)))
block_fits (is.Release block) w = (omega (arith, control_size None block w), (version_fits, control_fits None block w refl))
block_fits (is.ReleaseRes block) w = (omega (arith, control_size (Some 8) block w.0), (version_fits, control_fits (Some 8) block w.0 (eq-eqb _ _ w.1)))
block_fits (is.IodReadReq block) w = w
block_fits (is.IodReadRes block) w = w
block_fits (is.IodWriteReq block) w = (omega (arith, write_size block w), (version_fits, write_fits block w))
block_fits (is.IodWriteRes block) w = (omega (arith, written_size block w), (version_fits, written_fits block w))
block_fits (is.Im0 block) w = w
block_fits (is.Im1 block) w = w
block_fits (is.Im2 block) w = w
block_fits (is.Im3 block) w = w
block_fits (is.Im4 block) w = w
block_fits (is.ImFilterDataSubmodule block) w = w
block_fits (is.ImFilterDataDevice block) w = w
block_fits (is.AlarmNotification block) w = (omega (arith, alarm_size block w), (version_fits, alarm_fits block w))
block_fits (is.AlarmAck block) w = (omega (arith, ack_size block), (version_fits, ack_fits block w))
