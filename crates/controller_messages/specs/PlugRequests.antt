-- The requests of a controller after a plug, and the ApplicationReady that follows (IEC 61158-6-10, 5.2.3 and 5.2.4.5).
use Rattle.std.specs.Prelude.{◌==◌, ◌&&◌, ℕ, Bool, nat_eq, List, [], Option, Some, None, unwrap_or, Result, Ok, Err, if◌then◌else◌}
use Rattle.std.specs.Cmp.Lexicographic.{pointwise}
use Rattle.std.specs.List.{slice_get}
use Rattle.wire.specs.declared.blocks.fault.BlockFault.{BlockFault}
use Rattle.rpc_core.specs.declared.header.CallHeader.{CallHeader}
use Rattle.rpc_core.specs.declared.interface.Interface.TheVariants.{Device}
use Rattle.rpc_core.specs.Interface.{interface_uuid}
use Rattle.rpc_core.specs.Call.{Asked as Call}
use Rattle.rpc_core.specs.Response.{Answered, answer_to}
use Rattle.rpc_core.specs.declared.response.Status.{Status}
use Rattle.connect_blocks.specs.declared.plug_control.PlugControlBlock.{PlugControlBlock}
use Rattle.connect_blocks.specs.PlugControl.{plug_control}
use Rattle.plans.specs.declared.parts.PlanRecord.{PlanRecord}
use Rattle.plans.specs.Numbers.{session_number}
use Rattle.controller_messages.specs.declared.plug_request.PlugRequest.{PlugRequest}
use Rattle.controller_messages.specs.declared.plug_request.PlugStep.{PlugStep}
use Rattle.controller_messages.specs.declared.plug_request.PlugStep.TheVariants.{Record, PrmEnd}
use Rattle.controller_messages.specs.declared.record_request.RecordRequest.{RecordRequest}
use Rattle.controller_messages.specs.declared.record_request.RecordService.TheVariants.{Write}
use Rattle.controller_messages.specs.declared.setup.Setup.{Setup}
use Rattle.controller_messages.specs.RecordRequests.{record_blocks}
use Rattle.controller_messages.specs.Requests.{object_of}

-- ---- what is asked

-- The operation: 3 Write, 4 Control.
abbrev pub plug_operation : PlugStep → ℕ
plug_operation (Record number) = 3
plug_operation PrmEnd = 4

-- The header of the call: it has the activity of the start-up's calls.
abbrev pub plug_header : Setup → PlugRequest → CallHeader
plug_header setup request = record {
  object = object_of setup.plan.station;
  interface = interface_uuid Device;
  activity = setup.activity;
  sequence = request.sequence;
  operation = plug_operation request.step;
}

-- The Write of a record of the plan.
abbrev pub plug_write : PlugRequest → PlanRecord → RecordRequest
plug_write request entry =
    record { sequence = request.sequence; service = Write; slot = request.slot; subslot = request.subslot; index = entry.index }

-- Its blocks; none if the plan has no such record.
abbrev pub plug_write_blocks : Setup → PlugRequest → Option PlanRecord → List ℕ
plug_write_blocks setup request (Some entry) = record_blocks setup (plug_write request entry) entry.data.items Write
plug_write_blocks setup request None = []

-- The block of PrmEnd after the plug whose alarm has this SequenceNumber.
abbrev pub plug_end : Setup → ℕ → PlugControlBlock
plug_end setup number = record {
  ar_uuid = setup.ar;
  session_key = session_number;
  alarm_sequence_number = number;
  control_command = 1;
  control_block_properties = 0;
}

-- The blocks of the call.
abbrev pub plug_blocks : Setup → PlugRequest → PlugStep → List ℕ
plug_blocks setup request (Record number) = plug_write_blocks setup request (slice_get setup.plan.records.items number)
plug_blocks setup request PrmEnd = (plug_control 0x0111).write (plug_end setup request.number) []

-- The call: its response may have 1,372 octets of blocks.
abbrev pub plug_call : Setup → PlugRequest → Call
plug_call setup request =
    record { header = plug_header setup request; args_maximum = 1372; blocks = Some (plug_blocks setup request request.step) }

-- A response, or a refusal, of the call for a request: with the activity of the controller, and the number of the call.
abbrev pub is_plug_answer : Setup → PlugRequest → List ℕ → ℕ → Bool
is_plug_answer setup request activity sequence = pointwise nat_eq activity setup.activity && sequence == request.sequence

-- ---- ApplicationReady for a plug

-- The block that was read, if it was.
abbrev pub plug_ready_block : Result (PlugControlBlock × List ℕ) BlockFault → Option PlugControlBlock
plug_ready_block (Ok x) = Some x.0
plug_ready_block (Err fault) = None

-- The block of a call ApplicationReady for a plug (operation 4), if it is one.
abbrev pub plug_ready_in : Call → Option PlugControlBlock
plug_ready_in call =
    if call.header.operation == 4 then plug_ready_block ((plug_control 0x0113).read (unwrap_or call.blocks [])) else None

-- Whether it belongs to the relation, and its ControlCommand is 2.
abbrev pub is_plug_ready : Setup → PlugControlBlock → Bool
is_plug_ready setup block =
    pointwise nat_eq block.ar_uuid setup.ar && (block.session_key == session_number && block.control_command == 2)

-- The block of its answer: that of the call, with ControlCommand Done.
abbrev pub plug_done : PlugControlBlock → PlugControlBlock
plug_done block = record block { control_command = 8 }

-- The answer to a call with this block.
abbrev pub plug_answer : Call → PlugControlBlock → Answered
plug_answer call block =
    answer_to call (record { code = 0; decode = 0; code1 = 0; code2 = 0 }) ((plug_control 0x8113).write (plug_done block) [])
