-- Alarms as a reader finds them (IEC 61158-6-10, 4.8, 5.2.5 and 5.2.6): the octets after the FrameID.
use Rattle.std.specs.Prelude.{◌≡◌, ◌+◌, ◌^◌, ◌<◌, ℕ, Bool, List, [], ◌∷◌, drop, length, if◌then◌else◌}
use Rattle.record_blocks.specs.declared.alarm_ack.AlarmAck.{AlarmAck}
use Rattle.pn_alarms.specs.declared.pdu.Header.{Header}
use Rattle.pn_alarms.specs.declared.pdu.PduType.{PduType}
use Rattle.pn_alarms.specs.declared.pdu.PduType.TheVariants.{Data, Nack, Ack, Error}
use Rattle.diagnosis.specs.declared.diagnosis.Change.{Change}
use Rattle.diagnosis.specs.declared.module_change.ModuleChange.{ModuleChange}
use Rattle.diagnosis.specs.declared.module_change.ModuleChangeKind.{ModuleChangeKind}
use Rattle.diagnosis.specs.declared.module_change.ModuleChangeKind.TheVariants.{Pull, PullModule, Plug, PlugWrong}
use Rattle.diagnosis.specs.declared.queue.QueuedAlarm.{QueuedAlarm}
use Rattle.diagnosis.specs.declared.reports.priority.Priority.{Priority}
use Rattle.diagnosis.specs.declared.reports.priority.Priority.TheVariants.{High, Low}
use Rattle.end_laws.specs.log_data.Reading.{number_at, octets_at}

-- ---- PDUs

-- PDUType: version 1 in the high half, the type in the low half.
abbrev pub pdu_type : PduType → ℕ
pdu_type Data = 0x11
pdu_type Nack = 0x12
pdu_type Ack = 0x13
pdu_type Error = 0x14

-- AddFlags: WindowSize 1, and TACK (bit 4) of data, which must be acknowledged.
abbrev pub add_flags : PduType → ℕ
add_flags Data = 0x11
add_flags Nack = 0x01
add_flags Ack = 0x01
add_flags Error = 0x01

-- AlarmDstEndpoint, AlarmSrcEndpoint, PDUType, AddFlags, SendSeqNum, AckSeqNum, VarPartLen, which counts what follows it.
pub record IsPdu (octets : List ℕ) (header : Header) (size : ℕ) : Type 0 where
  pub destination : number_at 0 2 octets ≡ header.destination
  pub source : number_at 2 2 octets ≡ header.source
  pub type_is : number_at 4 1 octets ≡ pdu_type header.kind
  pub flags : number_at 5 1 octets ≡ add_flags header.kind
  pub send_number : number_at 6 2 octets ≡ header.send_number
  pub ack_number : number_at 8 2 octets ≡ header.ack_number
  pub var_part : number_at 10 2 octets ≡ size
  pub end : length octets ≡ 12 + size

-- The FrameID of a PDU of a priority: 0xFC01 of high, 0xFE01 of low, and of an ERR always 0xFE01.
abbrev pub alarm_id : Priority → PduType → ℕ
alarm_id High Data = 0xFC01
alarm_id High Nack = 0xFC01
alarm_id High Ack = 0xFC01
alarm_id High Error = 0xFE01
alarm_id Low kind = 0xFE01

-- ---- AlarmNotification

-- A block at place 12: BlockType, BlockLength, which counts what follows it, and version 1.0.
pub record IsCarried (octets : List ℕ) (type_of size : ℕ) : Type 0 where
  pub kind : number_at 12 2 octets ≡ type_of
  pub length_is : number_at 14 2 octets ≡ size
  pub version : octets_at 16 2 octets ≡ 1 ∷ 0 ∷ []

-- AlarmNotification: AlarmType, API, SlotNumber, SubslotNumber, ModuleIdentNumber, SubmoduleIdentNumber, AlarmSpecifier.
pub record IsNotification (octets : List ℕ) (alarm_type slot subslot module_ident submodule_ident specifier : ℕ) : Type 0 where
  pub type_is : number_at 18 2 octets ≡ alarm_type
  pub api : number_at 20 4 octets ≡ 0
  pub slot_is : number_at 24 2 octets ≡ slot
  pub subslot_is : number_at 26 2 octets ≡ subslot
  pub module_is : number_at 28 4 octets ≡ module_ident
  pub submodule_is : number_at 32 4 octets ≡ submodule_ident
  pub specifier_is : number_at 36 2 octets ≡ specifier

-- AlarmSpecifier of a change: SequenceNumber in bits 0 to 10, ChannelDiagnosis (11) and SubmoduleDiagnosisState (13) if a diagnosis exists at the
-- submodule, ARDiagnosisState (15) if one exists in the relation.
abbrev pub change_specifier : ℕ → Bool → Bool → ℕ
change_specifier sequence at_submodule in_relation = sequence + (if at_submodule then 2 ^ 11 + 2 ^ 13 else 0) + (if in_relation then 2 ^ 15 else 0)

-- A diagnosis appears (AlarmType 1) or disappears (12), BlockType 0x0002: UserStructureIdentifier 0x8000; ChannelNumber; ChannelProperties with Specifier
-- (bits 11 and 12) 1 for appears and 2 for disappears; ChannelErrorType.
pub record IsDiagnosisAlarm (octets : List ℕ) (header : Header) (change : Change) (alarm : QueuedAlarm) (sequence : ℕ) : Type 0 where
  pub pdu : IsPdu octets header 34
  pub block : IsCarried octets 0x0002 30
  pub notification : IsNotification octets (if change.appears then 1 else 12) change.diagnosis.slot change.diagnosis.subslot alarm.module_ident_number
      alarm.submodule_ident_number
      (change_specifier sequence alarm.is_any_at_submodule alarm.is_any_in_relation)
  pub structure : number_at 38 2 octets ≡ 0x8000
  pub channel : number_at 40 2 octets ≡ change.diagnosis.channel
  pub properties : number_at 42 2 octets ≡ (if change.appears then 2 ^ 11 else 2 ^ 12)
  pub error : number_at 44 2 octets ≡ change.diagnosis.error

-- AlarmType of a pull, of a pulled module, of a plug, and of a plug of a wrong submodule.
abbrev pub change_type : ModuleChangeKind → ℕ
change_type Pull = 0x0003
change_type PullModule = 0x001F
change_type Plug = 0x0004
change_type PlugWrong = 0x000A

-- A pull or a plug, BlockType 0x0002: nothing follows AlarmSpecifier.
pub record IsModuleAlarm (octets : List ℕ) (header : Header) (made : ModuleChange) (alarm : QueuedAlarm) (sequence : ℕ) : Type 0 where
  pub pdu : IsPdu octets header 26
  pub block : IsCarried octets 0x0002 22
  pub notification : IsNotification octets (change_type made.kind) made.slot made.subslot alarm.module_ident_number alarm.submodule_ident_number
      (change_specifier sequence alarm.is_any_at_submodule alarm.is_any_in_relation)

-- A process alarm (AlarmType 2), BlockType 0x0001: UserStructureIdentifier 1, and the octets of the application.
pub record IsProcessAlarm (octets : List ℕ) (header : Header) (slot subslot module_ident submodule_ident specifier : ℕ) (data_is : List ℕ) : Type 0 where
  pub pdu : IsPdu octets header (28 + length data_is)
  pub block : IsCarried octets 0x0001 (24 + length data_is)
  pub notification : IsNotification octets 2 slot subslot module_ident submodule_ident specifier
  pub structure : number_at 38 2 octets ≡ 1
  pub data_there : drop 40 octets ≡ data_is

-- ---- AlarmAck

-- BlockType of an AlarmAck.
abbrev pub ack_type : Priority → ℕ
ack_type High = 0x8001
ack_type Low = 0x8002

-- AlarmAck: AlarmType, API, SlotNumber, SubslotNumber, AlarmSpecifier and PNIOStatus.
pub record IsAlarmAck (octets : List ℕ) (header : Header) (priority : Priority) (ack : AlarmAck) : Type 0 where
  pub pdu : IsPdu octets header 22
  pub block : IsCarried octets (ack_type priority) 18
  pub alarm_type : number_at 18 2 octets ≡ ack.alarm_type
  pub api : number_at 20 4 octets ≡ ack.api
  pub slot : number_at 24 2 octets ≡ ack.slot_number
  pub subslot : number_at 26 2 octets ≡ ack.subslot_number
  pub specifier : number_at 28 2 octets ≡ ack.alarm_specifier
  pub status : number_at 30 4 octets ≡ ack.pnio_status

-- ---- sizes

-- The numbers of a change have their sizes.
pub record IsSizedChange (change : Change) : Type 0 where
  pub slot : change.diagnosis.slot < 65536
  pub subslot : change.diagnosis.subslot < 65536
  pub channel : change.diagnosis.channel < 65536
  pub error : change.diagnosis.error < 65536

-- So have those of a pull or a plug.
pub record IsSizedPlug (made : ModuleChange) : Type 0 where
  pub slot : made.slot < 65536
  pub subslot : made.subslot < 65536

-- So have the idents of a change that waits, and its sequence number, which has 11 bits.
pub record IsSizedQueued (alarm : QueuedAlarm) (sequence : ℕ) : Type 0 where
  pub module_ident : alarm.module_ident_number < 256 ^ 4
  pub submodule_ident : alarm.submodule_ident_number < 256 ^ 4
  pub sequence_fits : sequence < 2 ^ 11
