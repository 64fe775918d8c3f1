-- What a controller asks of a device at a start-up, and the messages for it.
use Rattle.std.specs.Prelude.{◌+◌, ◌-◌, ◌*◌, ◌/◌, ℕ, List, [], ◌∷◌, ◌++◌, length, take, drop, replicate, nat_lt, Option, Some, None, if◌then◌else◌}
use Rattle.std.specs.List.{slice_get}
use Rattle.std.specs.Int.{w16, to_be_bytes}
use Rattle.dcp_core.specs.declared.kind.Kind.TheVariants.{IpSuite, NameOfStation}
use Rattle.dcp_core.specs.declared.request.Service.TheVariants.{Set, Identify as Identifies}
use Rattle.dcp_core.specs.Request.{Asked}
use Rattle.dcp_core.specs.Identify.{suite_bytes}
use Rattle.rpc_core.specs.declared.header.CallHeader.{CallHeader}
use Rattle.rpc_core.specs.declared.interface.Interface.TheVariants.{Device}
use Rattle.rpc_core.specs.Interface.{interface_uuid}
use Rattle.rpc_core.specs.Call.{Asked as Call}
use Rattle.connect_blocks.specs.declared.control.ControlBlock.{ControlBlock}
use Rattle.record_blocks.specs.declared.write_record.IodWriteReq.{IodWriteReq}
use Rattle.block_codec.specs.declared.block.Block.TheVariants as is
use Rattle.block_codec.specs.Block.{block_bytes}
use Rattle.plans.specs.declared.parts.Parts.{Parts}
use Rattle.plans.specs.declared.parts.Station.{Station}
use Rattle.plans.specs.declared.parts.PlanRecord.{PlanRecord}
use Rattle.plans.specs.Connect.{connect_of}
use Rattle.plans.specs.Numbers.{session_number}
use Rattle.controller_messages.specs.declared.setup.Setup.{Setup}
use Rattle.controller_messages.specs.declared.request.Request.{Request}
use Rattle.controller_messages.specs.declared.request.Request.TheVariants.{Identify, Address, Connect, Write, PrmEnd, Release, WriteAfter, PrmEndAfter}

-- ---- the order

-- The records are written in order, by Writes with numbers from 0. If the device can, each carries a list of ten, the last
-- one of those that are left: a list of ten fits a frame. If not, each carries one.
abbrev pub per_call : Parts → ℕ
per_call plan = if plan.multiple_write then 10 else 1

-- The number of Writes.
abbrev pub write_count : Parts → ℕ
write_count plan = if plan.multiple_write then (length plan.records.items + 9) / 10 else length plan.records.items

-- The number of the first record of a Write, and its records.
abbrev pub first_of : Parts → ℕ → ℕ
first_of plan number = if plan.multiple_write then number * 10 else number

-- The records of the plan that the Write with this number carries.
abbrev pub group_of : Parts → ℕ → List PlanRecord
group_of plan number = take (per_call plan) (drop (first_of plan number) plan.records.items)

-- The Write with this number, if there is one, otherwise PrmEnd.
abbrev pub writing_from : Parts → ℕ → Request
writing_from plan number = if nat_lt number (write_count plan) then Write number else PrmEnd

-- The same after this many calls were refused as busy.
abbrev pub writing_after : Parts → ℕ → ℕ → Request
writing_after plan number tries = if nat_lt number (write_count plan) then WriteAfter number tries else PrmEndAfter tries

-- ---- DCP requests

-- An Identify for the name of the station.
abbrev pub identify_asked : Parts → Asked
identify_asked plan = record { service = Identifies; xid = 1; blocks = record { kind = NameOfStation; contents = plan.station.name } ∷ [] }

-- A Set of the IP suite, which is not kept after the next start: BlockQualifier 0.
abbrev pub address_asked : Parts → Asked
address_asked plan = record { service = Set; xid = 2; blocks = record { kind = IpSuite; contents = to_be_bytes w16 0 ++ suite_bytes plan.station.suite } ∷ [] }

-- ---- calls

-- The number of a call: it depends on the request, so that a repeated request has the same number.
abbrev pub sequence_of : Parts → Request → ℕ
sequence_of plan Identify = 0
sequence_of plan Address = 0
sequence_of plan Connect = 0
sequence_of plan (Write number) = number + 1
sequence_of plan PrmEnd = write_count plan + 1
sequence_of plan (Release sequence) = sequence
sequence_of plan (WriteAfter number tries) = number + tries + 1
sequence_of plan (PrmEndAfter tries) = write_count plan + tries + 1

-- The operation: 0 Connect, 1 Release, 3 Write, 4 Control.
abbrev pub operation_of : Request → ℕ
operation_of Identify = 0
operation_of Address = 0
operation_of Connect = 0
operation_of (Write number) = 3
operation_of PrmEnd = 4
operation_of (Release sequence) = 1
operation_of (WriteAfter number tries) = 3
operation_of (PrmEndAfter tries) = 4

-- The object that is called: DEA00000-6C97-11D1-8271, then the instance, 1, DeviceID and VendorID of the plan.
unfoldable pub object_of : Station → List ℕ
object_of station =
    (0xDE ∷ 0xA0 ∷ 0x00 ∷ 0x00 ∷ 0x6C ∷ 0x97 ∷ 0x11 ∷ 0xD1 ∷ 0x82 ∷ 0x71 ∷ 0x00 ∷ 0x01 ∷ [])
    ++ to_be_bytes w16 station.device_id ++ to_be_bytes w16 station.vendor_id

-- The header of a call: all calls of a start-up have the same activity.
abbrev pub header_of : Setup → Request → CallHeader
header_of setup request = record {
  object = object_of setup.plan.station;
  interface = interface_uuid Device;
  activity = setup.activity;
  sequence = sequence_of setup.plan request;
  operation = operation_of request;
}

-- The block of a control, for the relation.
abbrev pub control_of : Setup → ℕ → ControlBlock
control_of setup command = record { ar_uuid = setup.ar; session_key = session_number; control_command = command; control_block_properties = 0 }

-- The block before a record that is written: its SeqNumber is that of its call.
abbrev pub write_of : Setup → ℕ → PlanRecord → IodWriteReq
write_of setup number entry = record {
  header = record {
    seq_number = number + 1;
    ar_uuid = setup.ar;
    api = 0;
    slot_number = entry.slot;
    subslot_number = entry.subslot;
    index = entry.index;
    record_data_length = length entry.data.items;
  };
}

-- The block and the record after it; nothing if the plan has no such record.
abbrev pub write_blocks : Setup → ℕ → Option PlanRecord → List ℕ
write_blocks setup number (Some entry) = block_bytes (is.IodWriteReq (write_of setup number entry)) ++ entry.data.items
write_blocks setup number None = []

-- ---- a list of records (MultipleWrite; IEC 61158-6-10, 5.2.3)

-- The octets after a record of this many: zeros up to a multiple of 4.
abbrev pub padding_of : ℕ → List ℕ
padding_of size = take ((size + 3) / 4 * 4 - size) (replicate 3 0)

-- A record of a list: its block, its octets, and the padding.
abbrev pub entry_bytes : Setup → ℕ → PlanRecord → List ℕ
entry_bytes setup number entry = write_blocks setup number (Some entry) ++ padding_of (length entry.data.items)

-- These records as the entries of a list.
abbrev pub entries_bytes : Setup → ℕ → List PlanRecord → List ℕ
entries_bytes setup number [] = []
entries_bytes setup number (entry ∷ entries) = entry_bytes setup number entry ++ entries_bytes setup number entries

-- The block before a list of this many octets: API, slot and subslot are all ones, and its index is that of a list.
abbrev pub list_of : Setup → ℕ → ℕ → IodWriteReq
list_of setup number octets = record {
  header = record {
    seq_number = number + 1;
    ar_uuid = setup.ar;
    api = 0xFFFFFFFF;
    slot_number = 0xFFFF;
    subslot_number = 0xFFFF;
    index = 0xE040;
    record_data_length = octets;
  };
}

-- The block and the list after it; nothing if there are no records.
abbrev pub list_blocks : Setup → ℕ → List PlanRecord → List ℕ
list_blocks setup number [] = []
list_blocks setup number (entry ∷ entries) =
    block_bytes (is.IodWriteReq (list_of setup number (length (entries_bytes setup number (entry ∷ entries)))))
    ++ entries_bytes setup number (entry ∷ entries)

-- The blocks of a Write: those of a list, or of the one record.
abbrev pub writing_blocks : Setup → ℕ → List ℕ
writing_blocks setup number =
    if setup.plan.multiple_write then list_blocks setup number (group_of setup.plan number)
    else write_blocks setup number (slice_get setup.plan.records.items number)

-- ---- the blocks of a call

-- The blocks of each call. Those of a try are those of the first call, SeqNumber included: only the call has a number of its own.
abbrev pub blocks_of : Setup → Request → List ℕ
blocks_of setup Identify = []
blocks_of setup Address = []
blocks_of setup Connect = connect_of setup.plan setup.ar
blocks_of setup (Write number) = writing_blocks setup number
blocks_of setup PrmEnd = block_bytes (is.PrmEnd (control_of setup 1))
blocks_of setup (Release sequence) = block_bytes (is.Release (control_of setup 4))
blocks_of setup (WriteAfter number tries) = writing_blocks setup number
blocks_of setup (PrmEndAfter tries) = block_bytes (is.PrmEnd (control_of setup 1))

-- The call: its response may have 1,372 octets of blocks.
abbrev pub call_for : Setup → Request → Call
call_for setup request = record { header = header_of setup request; args_maximum = 1372; blocks = Some (blocks_of setup request) }
