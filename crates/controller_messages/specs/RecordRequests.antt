-- The requests of the application while data is exchanged: records that are read or written (IEC 61158-6-10, 5.2.3).
use Rattle.std.specs.Prelude.{◌%◌, ℕ, List, [], ◌++◌, length, Some}
use Rattle.uuid.specs.Parts.{zero_bytes}
use Rattle.rpc_core.specs.declared.header.CallHeader.{CallHeader}
use Rattle.rpc_core.specs.declared.interface.Interface.TheVariants.{Device}
use Rattle.rpc_core.specs.Interface.{interface_uuid}
use Rattle.rpc_core.specs.Call.{Asked as Call}
use Rattle.record_blocks.specs.declared.read_record.IodReadReq.{IodReadReq}
use Rattle.record_blocks.specs.declared.record_header.RecordHeader.{RecordHeader}
use Rattle.record_blocks.specs.declared.write_record.IodWriteReq.{IodWriteReq}
use Rattle.block_codec.specs.declared.block.Block.TheVariants as is
use Rattle.block_codec.specs.Block.{block_bytes}
use Rattle.controller_messages.specs.declared.record_request.RecordRequest.{RecordRequest}
use Rattle.controller_messages.specs.declared.record_request.RecordService.{RecordService}
use Rattle.controller_messages.specs.declared.record_request.RecordService.TheVariants.{Read, Write}
use Rattle.controller_messages.specs.declared.setup.Setup.{Setup}
use Rattle.controller_messages.specs.Requests.{object_of}

-- The maximum number of octets of a record: with them a call fills a frame.
abbrev pub most_record_octets : ℕ
most_record_octets = 1308

-- The operation: 2 Read, 3 Write.
abbrev pub service_operation : RecordService → ℕ
service_operation Read = 2
service_operation Write = 3

-- The header of the call: it has the activity of the start-up's calls.
abbrev pub record_header : Setup → RecordRequest → CallHeader
record_header setup request = record {
  object = object_of setup.plan.station;
  interface = interface_uuid Device;
  activity = setup.activity;
  sequence = request.sequence;
  operation = service_operation request.service;
}

-- The fields that both blocks have: SeqNumber has the low half of the call's number.
abbrev pub record_place : Setup → RecordRequest → ℕ → RecordHeader
record_place setup request octets = record {
  seq_number = request.sequence % 65536;
  ar_uuid = setup.ar;
  api = 0;
  slot_number = request.slot;
  subslot_number = request.subslot;
  index = request.index;
  record_data_length = octets;
}

-- A Read asks for as many octets as a record may have.
abbrev pub read_of : Setup → RecordRequest → IodReadReq
read_of setup request = record { header = record_place setup request most_record_octets; target_ar_uuid = zero_bytes }

-- A Write of a record with this many octets.
abbrev pub written_of : Setup → RecordRequest → ℕ → IodWriteReq
written_of setup request octets = record { header = record_place setup request octets }

-- The blocks of the call, and the record that is written.
abbrev pub record_blocks : Setup → RecordRequest → List ℕ → RecordService → List ℕ
record_blocks setup request octets Read = block_bytes (is.IodReadReq (read_of setup request))
record_blocks setup request octets Write = block_bytes (is.IodWriteReq (written_of setup request (length octets))) ++ octets

-- The call: its response may have 1,372 octets of blocks.
abbrev pub record_call : Setup → RecordRequest → List ℕ → Call
record_call setup request octets =
    record { header = record_header setup request; args_maximum = 1372; blocks = Some (record_blocks setup request octets request.service) }
