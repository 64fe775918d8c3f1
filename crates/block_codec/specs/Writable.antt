-- Which blocks can be written: each field has its size.
use Rattle.std.specs.Prelude.{◌≡◌, ◌≤◌, ◌<◌, ◌++◌, ℕ, List, [], ◌∷◌, length}
use Rattle.connect_blocks.specs.declared.ar_block.ArBlockRes.{ArBlockRes}
use Rattle.connect_blocks.specs.declared.control.ControlBlock.{ControlBlock}
use Rattle.connect_blocks.specs.declared.iocr.IocrBlockRes.{IocrBlockRes}
use Rattle.record_blocks.specs.declared.alarm_ack.AlarmAck.{AlarmAck}
use Rattle.record_blocks.specs.declared.alarm_notification.AlarmNotification.{AlarmNotification}
use Rattle.record_blocks.specs.declared.record_header.RecordHeader.{RecordHeader}
use Rattle.record_blocks.specs.declared.write_record.IodWriteReq.{IodWriteReq}
use Rattle.record_blocks.specs.declared.write_record.IodWriteRes.{IodWriteRes}
use Rattle.block_codec.specs.declared.block.Block.{Block}
use Rattle.block_codec.specs.declared.block.Block.TheVariants as is
use Rattle.block_codec.specs.Block.{block_bytes, block_of, fields_of, front, kind_of}

-- PrmEnd, ApplicationReady and Release, and their responses
pub record IsControl (block : ControlBlock) : Type 0 where
  pub ar_uuid : length block.ar_uuid ≡ 16
  pub session_key : block.session_key < 65536
  pub control_command : block.control_command < 65536
  pub control_block_properties : block.control_block_properties < 65536

-- the header of a record: which record, in which call
pub record IsRecord (header : RecordHeader) : Type 0 where
  pub seq_number : header.seq_number < 65536
  pub ar_uuid : length header.ar_uuid ≡ 16
  pub api : header.api < 4294967296
  pub slot_number : header.slot_number < 65536
  pub subslot_number : header.subslot_number < 65536
  pub index : header.index < 65536
  pub record_data_length : header.record_data_length < 4294967296

-- the header of a record that is written
pub record IsWrite (block : IodWriteReq) : Type 0 where
  pub header : IsRecord block.header

-- the outcome of writing a record
pub record IsWritten (block : IodWriteRes) : Type 0 where
  pub header : IsRecord block.header
  pub additional_value_1 : block.additional_value_1 < 65536
  pub additional_value_2 : block.additional_value_2 < 65536
  pub pnio_status : block.pnio_status < 4294967296

-- the ARBlockRes of a response to a Connect
pub record IsArAnswer (block : ArBlockRes) : Type 0 where
  pub ar_uuid : length block.ar_uuid ≡ 16
  pub session_key : block.session_key < 65536
  pub cm_responder_mac_add : length block.cm_responder_mac_add.octets ≡ 6

-- an IOCRBlockRes of a response to a Connect
pub record IsIocrAnswer (block : IocrBlockRes) : Type 0 where
  pub iocr_type : block.iocr_type < 65536
  pub iocr_reference : block.iocr_reference < 65536
  pub frame_id : block.frame_id < 65536

-- an AlarmAck
pub record IsAck (ack : AlarmAck) : Type 0 where
  pub alarm_type : ack.alarm_type < 65536
  pub api : ack.api < 4294967296
  pub slot_number : ack.slot_number < 65536
  pub subslot_number : ack.subslot_number < 65536
  pub alarm_specifier : ack.alarm_specifier < 65536
  pub pnio_status : ack.pnio_status < 4294967296

-- an alarm whose data fits a frame
pub record IsAlarm (alarm : AlarmNotification) : Type 0 where
  pub alarm_type : alarm.alarm_type < 65536
  pub api : alarm.api < 4294967296
  pub slot_number : alarm.slot_number < 65536
  pub subslot_number : alarm.subslot_number < 65536
  pub module_ident_number : alarm.module_ident_number < 4294967296
  pub submodule_ident_number : alarm.submodule_ident_number < 4294967296
  pub alarm_specifier : alarm.alarm_specifier < 65536
  pub few : length alarm.alarm_data ≤ 1458

-- a block that can be written: one of a start-up or of alarms, or any other block that its format can write
abbrev pub CanBeWritten : Block → Type 0
CanBeWritten (is.PrmEnd block) = IsControl block
CanBeWritten (is.PrmEndRes block) = IsControl block × (block.control_command ≡ 8)
CanBeWritten (is.ApplicationReady block) = IsControl block × (block.control_command ≡ 2)
CanBeWritten (is.ApplicationReadyRes block) = IsControl block × (block.control_command ≡ 8)
CanBeWritten (is.Release block) = IsControl block
CanBeWritten (is.ReleaseRes block) = IsControl block × (block.control_command ≡ 8)
CanBeWritten (is.IodWriteReq block) = IsWrite block
CanBeWritten (is.IodWriteRes block) = IsWritten block
CanBeWritten (is.ArBlockRes block) = IsArAnswer block
CanBeWritten (is.IocrBlockRes block) = IsIocrAnswer block
CanBeWritten (is.AlarmNotification alarm) = IsAlarm alarm
CanBeWritten (is.AlarmAck ack) = IsAck ack
CanBeWritten block = ((fields_of (kind_of block)).size block < 65536) × (fields_of (kind_of block)).Fits block

-- the octets of blocks, one after the other
abbrev pub octets_of : List Block → List ℕ
octets_of [] = []
octets_of (block ∷ blocks) = block_bytes block ++ octets_of blocks

-- the octets are read as these blocks, one after the other, followed by the last octets
abbrev pub AreRead : List ℕ → List Block → List ℕ → Type 0
AreRead octets [] rest = octets ≡ rest
AreRead octets (block ∷ blocks) rest = (behind : List ℕ) × (block_of octets ≡ front block behind) × AreRead behind blocks rest
