-- The answers that a controller expects.
use Rattle.std.specs.Prelude.{◌==◌, ◌&&◌, ◌++◌, ℕ, Bool, true, false, nat_eq, nat_lt, List, Option, Some, None, [], unwrap_or, if◌then◌else◌, Result, Ok, Err}
use Rattle.std.specs.Cmp.Lexicographic.{pointwise}
use Rattle.std.specs.Int.{w16, to_be_bytes}
use Rattle.dcp_core.specs.declared.kind.Kind.TheVariants.{NameOfStation, DeviceId, IpSuite}
use Rattle.dcp_core.specs.declared.request.Service.{Service}
use Rattle.dcp_core.specs.declared.request.Service.TheVariants.{Get, Set, Identify}
use Rattle.dcp_core.specs.Response.{Answered}
use Rattle.dcp_core.specs.Answered.{value_among}
use Rattle.dcp_core.specs.Identify.{suite_bytes}
use Rattle.rpc_core.specs.declared.header.CallHeader.{CallHeader}
use Rattle.rpc_core.specs.declared.response.Status.{Status}
use Rattle.connect_blocks.specs.declared.control.ControlBlock.{ControlBlock}
use Rattle.plans.specs.declared.parts.Parts.{Parts}
use Rattle.plans.specs.declared.parts.Station.{Station}
use Rattle.plans.specs.Numbers.{session_number}
use Rattle.controller_messages.specs.declared.refusal.Refusal.{Refusal}
use Rattle.controller_messages.specs.declared.setup.Setup.{Setup}
use Rattle.controller_messages.specs.declared.request.Request.{Request}
use Rattle.controller_messages.specs.declared.request.Request.TheVariants as asks
use Rattle.controller_messages.specs.Requests.{sequence_of}
use Rattle.rpc_core.specs.Call.{Asked as Call}
use Rattle.wire.specs.declared.blocks.fault.BlockFault.{BlockFault}
use Rattle.block_codec.specs.declared.block.Block.{Block}
use Rattle.block_codec.specs.Block.{block_of, in_application_ready}

-- ---- DCP answers

-- Whether a DCP answer belongs to an Identify.
abbrev pub is_identify : Service → Bool
is_identify Identify = true
is_identify Get = false
is_identify Set = false

-- Whether a DCP answer belongs to a Set.
abbrev pub is_set : Service → Bool
is_set Set = true
is_set Get = false
is_set Identify = false

-- Whether there is a value, and it equals the expected one.
abbrev pub is_reported : List ℕ → Option (List ℕ) → Bool
is_reported wanted (Some value) = pointwise nat_eq value wanted
is_reported wanted None = false

-- An answer to the Identify, from the station that has the plan's name. An answer that Identify is not supported
-- (ServiceType 5) does not count.
abbrev pub is_found : Parts → Answered → Bool
is_found plan answer =
    is_identify answer.service
    && (answer.is_supported && (answer.xid == 1 && is_reported plan.station.name (value_among NameOfStation answer.blocks)))

-- VendorID and DeviceID.
abbrev pub ident_bytes : Station → List ℕ
ident_bytes station = to_be_bytes w16 station.vendor_id ++ to_be_bytes w16 station.device_id

-- Whether it is the device of the plan, and whether it has the plan's IP suite.
abbrev pub is_right : Parts → Answered → Bool
is_right plan answer = is_reported (ident_bytes plan.station) (value_among DeviceId answer.blocks)

-- Whether a station reports the IP suite of the plan.
abbrev pub is_addressed : Parts → Answered → Bool
is_addressed plan answer = is_reported (suite_bytes plan.station.suite) (value_among IpSuite answer.blocks)

-- An answer to the Set of the IP suite.
abbrev pub is_set_answer : Answered → Bool
is_set_answer answer = is_set answer.service && answer.xid == 2

-- ---- responses to calls

-- Whether the request is a call.
abbrev pub is_call : Request → Bool
is_call asks.Identify = false
is_call asks.Address = false
is_call asks.Connect = true
is_call (asks.Write number) = true
is_call asks.PrmEnd = true
is_call (asks.Release sequence) = true
is_call (asks.WriteAfter number tries) = true
is_call (asks.PrmEndAfter tries) = true

-- A response to the call for this request: with the activity of the controller, and the number of the call.
abbrev pub is_answer : Setup → Request → CallHeader → Bool
is_answer setup request header =
    is_call request && (pointwise nat_eq header.activity setup.activity && header.sequence == sequence_of setup.plan request)

-- A refusal of the call for this request.
abbrev pub is_refused : Setup → Request → Refusal → Bool
is_refused setup request refusal =
    is_call request && (pointwise nat_eq refusal.activity setup.activity && refusal.sequence == sequence_of setup.plan request)

-- State conflict of a Connect (IEC 61158-6-10, 5.2.6: ErrorCode Connect, ErrorDecode PNIO, ErrorCode1 CMRPC): the device holds this relation
-- already.
abbrev pub is_state_conflict : Status → Bool
is_state_conflict status = status.code == 0xDB && (status.decode == 0x81 && (status.code1 == 0x40 && status.code2 == 6))

-- Whether the plan says that a Connect with this status is followed by a Release: the device holds the relation, since the positive answer
-- to its Connect was lost.
abbrev pub is_held : Parts → Status → Bool
is_held plan status = plan.persistent_start && is_state_conflict status

-- Resource busy (IEC 61158-6-10, 5.2.6: ErrorDecode PNIORW, ErrorCode1 resource busy, any ErrorCode): the device may do the same later.
abbrev pub is_busy : Status → Bool
is_busy status = status.decode == 0x80 && status.code1 == 0xC2

-- Whether the plan says that a Write, or PrmEnd, with this status is tried again by a new call, after this many calls were refused as busy.
abbrev pub is_tried : Parts → Status → ℕ → Bool
is_tried plan status tries = plan.persistent_start && (is_busy status && nat_lt tries 65535)

-- An ApplicationReady of the relation.
abbrev pub is_ready : Setup → ControlBlock → Bool
is_ready setup block = pointwise nat_eq block.ar_uuid setup.ar && block.session_key == session_number

-- ---- ApplicationReady

-- The block, if it is one of ApplicationReady.
abbrev pub ready_block : Result (Block × List ℕ) BlockFault → Option ControlBlock
ready_block (Ok x) = in_application_ready x.0
ready_block (Err fault) = None

-- The ControlBlock of a call ApplicationReady (operation 4), if it is one.
abbrev pub ready_in : Call → Option ControlBlock
ready_in call = if call.header.operation == 4 then ready_block (block_of (unwrap_or call.blocks [])) else None
