-- The blocks of Control, Release, Read and Write as a reader finds them (IEC 61158-6-10, 5.2.3 and 5.2.4.5).
use Rattle.std.specs.Prelude.{◌≡◌, ◌+◌, ◌<◌, ℕ, List, [], ◌∷◌, drop, length, replicate}
use Rattle.rpc_core.specs.declared.header.CallHeader.{CallHeader}
use Rattle.rpc_core.specs.Call.{Asked}
use Rattle.rpc_core.specs.Response.{Answered}
use Rattle.connect_blocks.specs.declared.control.ControlBlock.{ControlBlock}
use Rattle.connect_blocks.specs.declared.plug_control.PlugControlBlock.{PlugControlBlock}
use Rattle.record_blocks.specs.declared.read_record.IodReadReq.{IodReadReq}
use Rattle.record_blocks.specs.declared.read_record.IodReadRes.{IodReadRes}
use Rattle.record_blocks.specs.declared.record_header.RecordHeader.{RecordHeader}
use Rattle.record_blocks.specs.declared.write_record.IodWriteReq.{IodWriteReq}
use Rattle.record_blocks.specs.declared.write_record.IodWriteRes.{IodWriteRes}
use Rattle.end_laws.specs.log_data.Reading.{number_at, octets_at}
use Rattle.fields_law.specs.Port.{IsBlock}

-- ---- Control and Release

-- Two reserved octets, ARUUID, SessionKey, two octets that are reserved, or AlarmSequenceNumber after a plug, ControlCommand, ControlBlockProperties.
pub record IsControl (octets : List ℕ) (type_of : ℕ) (uuid : List ℕ) (session sequence command properties : ℕ) : Type 0 where
  pub block : IsBlock octets type_of
  pub reserved : number_at 6 2 octets ≡ 0
  pub ar_uuid : octets_at 8 16 octets ≡ uuid
  pub session_key : number_at 24 2 octets ≡ session
  pub sequence_is : number_at 26 2 octets ≡ sequence
  pub command_is : number_at 28 2 octets ≡ command
  pub properties_are : number_at 30 2 octets ≡ properties
  pub end : length octets ≡ 32

-- A block of this type with the fields of a control.
abbrev pub IsControlOf : List ℕ → ℕ → ControlBlock → Type 0
IsControlOf octets type_of block = IsControl octets type_of block.ar_uuid block.session_key 0 block.control_command block.control_block_properties

-- A block of this type with the fields of a control after a plug.
abbrev pub IsPlugControl : List ℕ → ℕ → PlugControlBlock → Type 0
IsPlugControl octets type_of block =
    IsControl octets type_of block.ar_uuid block.session_key block.alarm_sequence_number block.control_command block.control_block_properties

-- ---- Read and Write

-- A block of this type: SeqNumber, ARUUID, API, SlotNumber, SubslotNumber, two octets of padding, Index, RecordDataLength. It has 64 octets.
pub record IsRecordBlock (octets : List ℕ) (type_of : ℕ) (header : RecordHeader) : Type 0 where
  pub block : IsBlock octets type_of
  pub seq_number : number_at 6 2 octets ≡ header.seq_number
  pub ar_uuid : octets_at 8 16 octets ≡ header.ar_uuid
  pub api : number_at 24 4 octets ≡ header.api
  pub slot : number_at 28 2 octets ≡ header.slot_number
  pub subslot : number_at 30 2 octets ≡ header.subslot_number
  pub padding : number_at 32 2 octets ≡ 0
  pub index : number_at 34 2 octets ≡ header.index
  pub data_length : number_at 36 4 octets ≡ header.record_data_length
  pub end : length octets ≡ 64

-- IODWriteReqHeader, BlockType 0x0008: nothing but padding follows.
pub record IsWriteRequest (octets : List ℕ) (write : IodWriteReq) : Type 0 where
  pub head : IsRecordBlock octets 0x0008 write.header
  pub rest : drop 40 octets ≡ replicate 24 0

-- IODWriteResHeader, BlockType 0x8008: AdditionalValue1, AdditionalValue2, PNIOStatus.
pub record IsWriteAnswer (octets : List ℕ) (written : IodWriteRes) : Type 0 where
  pub head : IsRecordBlock octets 0x8008 written.header
  pub value_1 : number_at 40 2 octets ≡ written.additional_value_1
  pub value_2 : number_at 42 2 octets ≡ written.additional_value_2
  pub status : number_at 44 4 octets ≡ written.pnio_status
  pub rest : drop 48 octets ≡ replicate 16 0

-- IODReadReqHeader, BlockType 0x0009: TargetARUUID.
pub record IsReadRequest (octets : List ℕ) (read : IodReadReq) : Type 0 where
  pub head : IsRecordBlock octets 0x0009 read.header
  pub target : octets_at 40 16 octets ≡ read.target_ar_uuid
  pub rest : drop 56 octets ≡ replicate 8 0

-- IODReadResHeader, BlockType 0x8009: AdditionalValue1, AdditionalValue2.
pub record IsReadAnswer (octets : List ℕ) (read : IodReadRes) : Type 0 where
  pub head : IsRecordBlock octets 0x8009 read.header
  pub value_1 : number_at 40 2 octets ≡ read.additional_value_1
  pub value_2 : number_at 42 2 octets ≡ read.additional_value_2
  pub rest : drop 44 octets ≡ replicate 20 0

-- ---- sizes

-- The fields of a control after a plug have their sizes.
pub record IsSizedPlugControl (block : PlugControlBlock) : Type 0 where
  pub ar_uuid : length block.ar_uuid ≡ 16
  pub session_key : block.session_key < 65536
  pub sequence : block.alarm_sequence_number < 65536
  pub command : block.control_command < 65536
  pub properties : block.control_block_properties < 65536

-- ---- packets of RPC (C706, 12.5; 4.10.3)

-- A packet of this type: rpc_vers 4; ptype; flags1 and flags2; drep of big-endian numbers; serial_hi; object, if_id and act_id; server_boot 0; if_vers 1;
-- seqnum; opnum; ihint and ahint 0xFFFF; len of the body; fragnum, auth_proto and serial_lo 0.
pub record IsPacket (octets : List ℕ) (header : CallHeader) (packet_type flag body : ℕ) : Type 0 where
  pub rpc_vers : number_at 0 1 octets ≡ 4
  pub ptype : number_at 1 1 octets ≡ packet_type
  pub flags : octets_at 2 2 octets ≡ flag ∷ 0 ∷ []
  pub drep : octets_at 4 3 octets ≡ 0 ∷ 0 ∷ 0 ∷ []
  pub serial_hi : number_at 7 1 octets ≡ 0
  pub object : octets_at 8 16 octets ≡ header.object
  pub if_id : octets_at 24 16 octets ≡ header.interface
  pub act_id : octets_at 40 16 octets ≡ header.activity
  pub server_boot : number_at 56 4 octets ≡ 0
  pub if_vers : number_at 60 4 octets ≡ 1
  pub seqnum : number_at 64 4 octets ≡ header.sequence
  pub opnum : number_at 68 2 octets ≡ header.operation
  pub ihint : number_at 70 2 octets ≡ 0xFFFF
  pub ahint : number_at 72 2 octets ≡ 0xFFFF
  pub len : number_at 74 2 octets ≡ body
  pub fragnum : number_at 76 2 octets ≡ 0
  pub auth_proto : number_at 78 1 octets ≡ 0
  pub serial_lo : number_at 79 1 octets ≡ 0

-- A request, ptype 0, idempotent (flags1 0x20): ArgsMaximum, ArgsLength, MaximumCount, Offset 0, ActualCount, and the blocks.
pub record IsRequestPacket (octets : List ℕ) (call : Asked) (blocks : List ℕ) : Type 0 where
  pub packet : IsPacket octets call.header 0 0x20 (20 + length blocks)
  pub args_maximum : number_at 80 4 octets ≡ call.args_maximum
  pub args_length : number_at 84 4 octets ≡ length blocks
  pub maximum_count : number_at 88 4 octets ≡ call.args_maximum
  pub offset : number_at 92 4 octets ≡ 0
  pub actual_count : number_at 96 4 octets ≡ length blocks
  pub blocks_are : drop 100 octets ≡ blocks

-- A response, ptype 2: PNIOStatus, and the same.
pub record IsResponsePacket (octets : List ℕ) (answer : Answered) : Type 0 where
  pub packet : IsPacket octets answer.header 2 0x0A (20 + length answer.blocks)
  pub error_code : number_at 80 1 octets ≡ answer.status.code
  pub error_decode : number_at 81 1 octets ≡ answer.status.decode
  pub error_code_1 : number_at 82 1 octets ≡ answer.status.code1
  pub error_code_2 : number_at 83 1 octets ≡ answer.status.code2
  pub args_length : number_at 84 4 octets ≡ length answer.blocks
  pub maximum_count : number_at 88 4 octets ≡ answer.maximum_count
  pub offset : number_at 92 4 octets ≡ 0
  pub actual_count : number_at 96 4 octets ≡ length answer.blocks
  pub blocks_are : drop 100 octets ≡ answer.blocks

-- The interface of devices, DEA00001-6C97-11D1-8271-00A02442DF7D, and that of controllers, DEA00002 and so on.
abbrev pub interface_of : ℕ → List ℕ
interface_of last = 0xDE ∷ 0xA0 ∷ 0x00 ∷ last ∷ 0x6C ∷ 0x97 ∷ 0x11 ∷ 0xD1 ∷ 0x82 ∷ 0x71 ∷ 0x00 ∷ 0xA0 ∷ 0x24 ∷ 0x42 ∷ 0xDF ∷ 0x7D ∷ []
