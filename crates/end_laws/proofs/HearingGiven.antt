-- The laws of the crates below.
use Rattle.std.proofs.Common.{◌≡◌, ◌≤◌, ◌<◌, ◌+◌, ℕ, List, ◌++◌, length, Option, Ok, Err}
use Rattle.std.specs.Prelude.{IsErr}
use Rattle.pn_values.specs.declared.mac.Mac.{Mac}
use Rattle.frame_codec.specs.declared.arp.Arp.{Arp}
use Rattle.frame_codec.specs.declared.udp.Endpoint.{Endpoint}
use Rattle.frame_codec.specs.Meaning.{ArpPacket, RealTime, UdpDatagram}
use Rattle.frame_codec.specs.Frame.{frame_bytes, frame_of, padding_of}
use Rattle.rpc_core.specs.declared.fault.RpcFault.{RpcFault}
use Rattle.rpc_core.specs.declared.interface.Interface.{Interface}
use Rattle.rpc_core.specs.declared.interface.Interface.TheVariants.{Controller, Device}
use Rattle.rpc_core.specs.Call.{Asked, call_bytes, call_of}
use Rattle.rpc_core.specs.Response.{Answered, response_bytes, response_of}
use Rattle.block_codec.specs.declared.block.Block.{Block}
use Rattle.block_codec.specs.Block.{block_bytes, block_size}
use Rattle.pn_alarms.specs.Format.{Said, pdu_bytes}
use Rattle.controller_messages.specs.Refusal.{refusal_of}
use Rattle.frame_codec.specs.Sendable.{CanBeSent, IsMac, IsRealTimeOrNone, IsTag, carrying}
use Rattle.rpc_core.specs.Sendable.{CanBeAnswered, CanBeCalled, IsHeader}

-- ---- of frames

abbrev pub DataIsRead : Type 0
DataIsRead = (destination source : Mac) (tag : Option ℕ) (frame_id : ℕ) (body : List ℕ)
    → CanBeSent (carrying destination source tag (RealTime frame_id body))
    → frame_of (frame_bytes (carrying destination source tag (RealTime frame_id body)))
    ≡ Ok (carrying destination source tag (RealTime frame_id (body ++ padding_of (carrying destination source tag (RealTime frame_id body)))))

abbrev pub PacketsAreRead : Type 0
PacketsAreRead = (destination source : Mac) (tag : Option ℕ) (packet : Arp)
    → CanBeSent (carrying destination source tag (ArpPacket packet))
    → frame_of (frame_bytes (carrying destination source tag (ArpPacket packet))) ≡ Ok (carrying destination source tag (ArpPacket packet))

abbrev pub DatagramsAreRead : Type 0
DatagramsAreRead = (destination source : Mac) (tag : Option ℕ) (from to : Endpoint) (body : List ℕ)
    → CanBeSent (carrying destination source tag (UdpDatagram from to body))
    → frame_of (frame_bytes (carrying destination source tag (UdpDatagram from to body))) ≡ Ok (carrying destination source tag (UdpDatagram from to body))

abbrev pub DataIsAlone : Type 0
DataIsAlone = (destination source : Mac) (tag : Option ℕ) (frame_id : ℕ) (body : List ℕ) → IsMac destination → IsMac source → IsTag tag
    → IsRealTimeOrNone (frame_of (frame_bytes (carrying destination source tag (RealTime frame_id body))))

abbrev pub LongDatagramsAreLost : Type 0
LongDatagramsAreLost = (destination source : Mac) (tag : Option ℕ) (from to : Endpoint) (body : List ℕ) → IsMac destination → IsMac source → IsTag tag
    → length from.address ≡ 4 → length to.address ≡ 4 → 1472 < length body
    → IsErr (frame_of (frame_bytes (carrying destination source tag (UdpDatagram from to body))))

-- ---- of calls

abbrev pub CallsAreRead : Type 0
CallsAreRead = (interface : Interface) (call : Asked) (more : List ℕ) → CanBeCalled interface call → call_of interface (call_bytes interface call ++ more) ≡ Ok call

abbrev pub CallsAreShort : Type 0
CallsAreShort = (interface : Interface) (call : Asked) → CanBeCalled interface call → length (call_bytes interface call) ≤ 1472

abbrev pub ResponsesAreRead : Type 0
ResponsesAreRead = (response : Answered) (more : List ℕ) → CanBeAnswered response → response_of (response_bytes response ++ more) ≡ Ok response

abbrev pub ResponsesAreShort : Type 0
ResponsesAreShort = (response : Answered) → CanBeAnswered response → length (response_bytes response) ≤ 1472

abbrev pub ResponsesAreLong : Type 0
ResponsesAreLong = (response : Answered) → IsHeader response.header → length (response_bytes response) ≡ 100 + length response.blocks

abbrev pub CallsAreNoRefusals : Type 0
CallsAreNoRefusals = (interface : Interface) (call : Asked) → (fault : RpcFault) × (refusal_of (call_bytes interface call) ≡ Err fault)

abbrev pub CallsAreNoResponses : Type 0
CallsAreNoResponses = (interface : Interface) (bytes : List ℕ) (call : Asked) → call_of interface bytes ≡ Ok call → IsErr (response_of bytes)

abbrev pub ResponsesAreNoCalls : Type 0
ResponsesAreNoCalls = (interface : Interface) (bytes : List ℕ) (response : Answered) → response_of bytes ≡ Ok response → IsErr (call_of interface bytes)

-- a call that is read at one interface is not read at the other
abbrev pub DeviceIsMeant : Type 0
DeviceIsMeant = (bytes : List ℕ) (call : Asked) → call_of Device bytes ≡ Ok call → IsErr (call_of Controller bytes)

abbrev pub ControllerIsMeant : Type 0
ControllerIsMeant = (bytes : List ℕ) (call : Asked) → call_of Controller bytes ≡ Ok call → IsErr (call_of Device bytes)

-- ---- of blocks and PDUs

abbrev pub BlocksAreLong : Type 0
BlocksAreLong = (block : Block) → length (block_bytes block) ≡ block_size block

abbrev pub PdusAreLong : Type 0
PdusAreLong = (said : Said) → length (pdu_bytes said) ≡ 12 + length said.body
