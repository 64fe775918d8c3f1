-- Records that a tool reads without a relation (IEC 61158-6-10, 5.2.3).
use Rattle.std.specs.Prelude.{◌≡◌, ◌≤◌, ⊤, ℕ, Bool, nat_eq, List, [], ◌∷◌, ◌++◌, length, Option, Some, None, Result, Ok, Err, if◌then◌else◌}
use Rattle.std.specs.Cmp.Lexicographic.{pointwise}
use Rattle.std.specs.Int.{w16, to_be_bytes}
use Rattle.uuid.specs.Parts.{zero_bytes}
use Rattle.frame_codec.specs.Calls.{calls_at}
use Rattle.frame_codec.specs.Frame.{frame_bytes, frame_of}
use Rattle.frame_codec.specs.Meaning.{Meaning, UdpDatagram}
use Rattle.rpc_core.specs.declared.header.CallHeader.{CallHeader}
use Rattle.rpc_core.specs.declared.interface.Interface.TheVariants.{Device}
use Rattle.rpc_core.specs.declared.response.Status.{Status}
use Rattle.rpc_core.specs.Interface.{interface_uuid}
use Rattle.rpc_core.specs.Call.{Asked as Call, call_bytes, call_of}
use Rattle.rpc_core.specs.Response.{Answered, is_done}
use Rattle.record_blocks.specs.declared.read_record.IodReadReq.{IodReadReq}
use Rattle.block_codec.specs.declared.block.Block.TheVariants as is
use Rattle.block_codec.specs.Block.{block_bytes, block_of}
use Rattle.plans.specs.declared.parts.Controller.{Controller}
use Rattle.controller_messages.specs.Heard.{Heard, Responds, Refuses, heard_of}
use Rattle.controller_messages.specs.RecordRequests.{most_record_octets}
use Rattle.controller_messages.specs.Access.{record_in}
use Rattle.commissioning.specs.declared.record.Target.{Target}
use Rattle.commissioning.specs.declared.record.RecordPlace.{RecordPlace}
use Rattle.commissioning.specs.declared.record.RecordTold.{RecordTold}
use Rattle.commissioning.specs.declared.record.RecordTold.TheVariants.{Record, Refused}

-- ---- the call

-- The object that is called: DEA00000-6C97-11D1-8271, then the instance, 1, DeviceID and VendorID of the station.
unfoldable pub object_of : Target → List ℕ
object_of target =
    (0xDE ∷ 0xA0 ∷ 0x00 ∷ 0x00 ∷ 0x6C ∷ 0x97 ∷ 0x11 ∷ 0xD1 ∷ 0x82 ∷ 0x71 ∷ 0x00 ∷ 0x01 ∷ [])
    ++ to_be_bytes w16 target.device_id ++ to_be_bytes w16 target.vendor_id

-- The header of the only call of an activity: operation 5, Read Implicit.
abbrev pub header_of : Target → List ℕ → CallHeader
header_of target activity = record { object = object_of target; interface = interface_uuid Device; activity = activity; sequence = 0; operation = 5 }

-- A Read of as many octets as a record may have, in no relation.
abbrev pub read_of : RecordPlace → IodReadReq
read_of place = record {
  header = record {
    seq_number = 0;
    ar_uuid = zero_bytes;
    api = 0;
    slot_number = place.slot;
    subslot_number = place.subslot;
    index = place.index;
    record_data_length = most_record_octets;
  };
  target_ar_uuid = zero_bytes;
}

-- The call, whose response may have 1,372 octets of blocks.
abbrev pub read_asked : Target → List ℕ → RecordPlace → Call
read_asked target activity place =
    record { header = header_of target activity; args_maximum = 1372; blocks = Some (block_bytes (is.IodReadReq (read_of place))) }

-- A datagram of the tool to the station, with these octets.
abbrev pub datagram_to : Controller → Target → List ℕ → Meaning
datagram_to tool target body =
    record { destination = target.mac; source = tool.mac; tag = None; content = UdpDatagram (calls_at tool.address) (calls_at target.address) body }

-- The station reads this frame as this call of the tool. The frame is that of a datagram with the octets of the call and no others.
pub record IsCallTo (frame : List ℕ) (tool : Controller) (target : Target) (call : Call) : Type 0 where
  pub body : List ℕ
  pub octets : body ≡ call_bytes Device call
  pub whole : frame ≡ frame_bytes (datagram_to tool target body)
  pub read : frame_of frame ≡ Ok (datagram_to tool target body)
  pub asks : call_of Device body ≡ Ok call

-- ---- its answer

-- The record, or the status with which it was refused, independent of where it lies in memory.
abbrev pub told_as : RecordTold → Result (List ℕ) Status
told_as (Record octets) = Ok octets.now
told_as (Refused status) = Err status

-- A record has at most 1,308 octets.
abbrev pub IsShort : RecordTold → Type 0
IsShort (Record octets) = length octets.now ≤ 1308
IsShort (Refused status) = ⊤

-- Whether a response is the one to the call with this activity.
abbrev pub is_of : List ℕ → Answered → Bool
is_of activity response = pointwise nat_eq response.header.activity activity

-- A record that was read.
abbrev pub some_record : Option (List ℕ) → Option (Result (List ℕ) Status)
some_record None = None
some_record (Some octets) = Some (Ok octets)

-- The record that a response brings, or why it was refused. A response that succeeds and brings no record tells nothing.
abbrev pub record_by : Answered → Option (Result (List ℕ) Status)
record_by response = if is_done response.status then some_record (record_in (block_of response.blocks)) else Some (Err response.status)

-- The record that a message brings, or the status with which it is refused, if it is the answer to this Read.
abbrev pub told_by : List ℕ → Heard → Option (Result (List ℕ) Status)
told_by activity (Responds response) = if is_of activity response then record_by response else None
told_by activity (Refuses refusal) = if pointwise nat_eq refusal.activity activity then Some (Err refusal.status) else None
told_by activity heard = None

-- What a frame answers to the call with this activity.
abbrev pub record_heard : Controller → List ℕ → List ℕ → Option (Result (List ℕ) Status)
record_heard tool activity octets = told_by activity (heard_of tool octets)
