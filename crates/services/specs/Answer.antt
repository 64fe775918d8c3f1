-- What the services make of a frame.
use Rattle.std.specs.Prelude.{◌%◌, ◌==◌, ◌&&◌, ◌||◌, not, ℕ, Bool, true, false, nat_eq, slice_index, List, Option, Some, None, Result, Ok, Err, if◌then◌else◌}
use Rattle.std.specs.Cmp.Lexicographic.{pointwise}
use Rattle.std.specs.Option.{option_map}
use Rattle.arrayvec.specs.ArrayVec.{ArrayVec as Items}
use Rattle.pn_values.specs.declared.mac.Mac.{Mac}
use Rattle.pn_values.specs.IpSuite.{is_host}
use Rattle.frame_codec.specs.declared.arp.Arp.{Arp}
use Rattle.frame_codec.specs.declared.arp.ArpOperation.{ArpOperation}
use Rattle.frame_codec.specs.declared.arp.ArpOperation.TheVariants as arp
use Rattle.frame_codec.specs.declared.arp.Holder.{Holder}
use Rattle.frame_codec.specs.declared.fault.FrameFault.{FrameFault}
use Rattle.frame_codec.specs.Meaning.{Meaning, Content, RealTime, ArpPacket, UdpDatagram}
use Rattle.frame_codec.specs.declared.udp.Endpoint.{Endpoint}
use Rattle.frame_codec.specs.Calls.{call_port, calls_at}
use Rattle.rpc_core.specs.call_headers.Unserved.{unserved_answer}
use Rattle.frame_codec.specs.Frame.{frame_bytes, frame_of}
use Rattle.services.specs.declared.announcement.Role.{Role}
use Rattle.services.specs.declared.announcement.Role.TheVariants.{Device, Controller}
use Rattle.services.specs.State.{State, broadcast, is_own, is_running, disputed}
use Rattle.services.specs.Echo.{Request, request_of, reply_frame}

-- ---- who may ask (RFC 1122, 3.2.1.3)

-- Whether a request may come from this IP address: from one that a station may have, and not from the running one of this
-- station. So none comes from 0.0.0.0, 127.0.0.0/8, a group or the broadcast address.
abbrev pub is_peer : State → List ℕ → Bool
is_peer state address = is_host (slice_index address 0) && not (pointwise nat_eq address state.address)

-- ---- echo (RFC 792)

-- Whether a MAC address names a group of stations: the lowest bit of its first octet is set (IEEE 802).
abbrev pub is_group : Mac → Bool
is_group mac = slice_index mac.octets 0 % 2 == 1

-- Whether an echo request is answered: it goes to the MAC address and the running address of this station, and comes from
-- one other station.
abbrev pub is_asked : State → Request → Bool
is_asked state request =
    is_own state request.destination && not (is_group request.source) && is_running state request.echo.destination && is_peer state request.echo.source

-- The answer to an echo request, and to nothing else that cannot be read as ARP or UDP.
abbrev pub echo_answer : State → Result Request FrameFault → Option (List ℕ)
echo_answer state (Ok request) = if is_asked state request then Some (reply_frame state.mac request) else None
echo_answer state (Err fault) = None

-- ---- ARP (RFC 826)

-- Whether a packet of ARP is a request.
abbrev pub is_request : ArpOperation → Bool
is_request arp.Request = true
is_request arp.Reply = false

-- Whether the services answer requests of ARP: the device itself does so.
abbrev pub resolves : Role → Bool
resolves Device = false
resolves Controller = true

-- Whether a packet of ARP to this destination is answered: it asks for the running address, and goes to this station or
-- to all.
abbrev pub is_sought : State → Mac → Arp → Bool
is_sought state destination packet =
    resolves state.role && is_request packet.operation
    && (is_own state destination || pointwise nat_eq destination.octets broadcast)
    && is_running state packet.target.address

-- The frame that tells a station that this one holds the running address.
abbrev pub arp_reply_of : Mac → List ℕ → Mac → Holder → Meaning
arp_reply_of mac address asker target = record {
  destination = asker;
  source = mac;
  tag = None;
  content = ArpPacket (record { operation = arp.Reply; sender = record { mac = mac; address = address }; target = target });
}

-- The reply to a packet of ARP, if it asks for the address of the station.
abbrev pub arp_answer : State → Mac → Mac → Arp → Option (List ℕ)
arp_answer state destination source packet =
    if is_sought state destination packet then Some (frame_bytes (arp_reply_of state.mac state.address source packet.sender)) else None

-- Whether another station uses the running address (RFC 5227, 2.4): the sender of this packet says that it holds it.
abbrev pub is_conflict : State → Holder → Bool
is_conflict state sender = is_running state sender.address && not (is_own state sender.mac)

-- ---- a frame

-- the octets of a frame, if there is one
abbrev pub frame_in : Option (Items ℕ) → Option (List ℕ)
frame_in frame = option_map (λ (items : Items ℕ). items.items) frame

-- ---- calls to unknown interfaces or operations (C706)

-- Whether the services answer calls: a controller's do not.
abbrev pub answers_calls : Role → Bool
answers_calls Device = true
answers_calls Controller = false

-- Whether a datagram between these ends is a call to this station: to its MAC address, its running address and the port of
-- calls, from the address of another station.
abbrev pub is_called : State → Mac → Endpoint → Endpoint → Bool
is_called state destination from to =
    answers_calls state.role && is_own state destination && is_running state to.address && to.port == call_port && is_peer state from.address

-- The frame that takes an answer to a caller.
abbrev pub call_reply_of : Mac → List ℕ → Mac → Endpoint → List ℕ → Meaning
call_reply_of mac address asker from body = record { destination = asker; source = mac; tag = None; content = UdpDatagram (calls_at address) from body }

-- The answer to a datagram, if it is a call to an unknown interface or operation, or a ping.
abbrev pub datagram_answer : State → Mac → Mac → Endpoint → Endpoint → List ℕ → Option (List ℕ)
datagram_answer state destination source from to body =
    if is_called state destination from to then option_map (λ answer. frame_bytes (call_reply_of state.mac state.address source from answer)) (unserved_answer body) else None

-- A call to this station: who sent it, where its answer goes, and the body of its datagram.
pub record Call : Type 0 where
  pub source : Mac
  pub caller : Endpoint
  pub body : List ℕ

-- The call in a frame to the port of calls, if it has one.
abbrev pub call_by : State → Mac → Mac → Content → Option Call
call_by state destination source (RealTime frame_id body) = None
call_by state destination source (ArpPacket packet) = None
call_by state destination source (UdpDatagram from to body) =
    if is_called state destination from to then Some (record { source = source; caller = from; body = body }) else None

-- The call that was read of a frame, if it is one to this station.
abbrev pub call_of : State → Result Meaning FrameFault → Option Call
call_of state (Ok meaning) = call_by state meaning.destination meaning.source meaning.content
call_of state (Err fault) = None

-- The call that these octets bring to this station.
unfoldable pub call_in : State → List ℕ → Option Call
call_in state bytes = call_of state (frame_of bytes)

-- The answer to a frame that was read.
abbrev pub content_answer : State → Mac → Mac → Content → Option (List ℕ)
content_answer state destination source (RealTime frame_id body) = None
content_answer state destination source (ArpPacket packet) = arp_answer state destination source packet
content_answer state destination source (UdpDatagram from to body) = datagram_answer state destination source from to body

-- The answer to a frame, by its layers if they can be read as real-time data, ARP or UDP, else by its echo request.
abbrev pub layers_answer : State → List ℕ → Result Meaning FrameFault → Option (List ℕ)
layers_answer state bytes (Ok meaning) = content_answer state meaning.destination meaning.source meaning.content
layers_answer state bytes (Err fault) = echo_answer state (request_of bytes)

-- The frame that the services answer to these octets with, if they answer.
unfoldable pub answer_to : State → List ℕ → Option (List ℕ)
answer_to state bytes = layers_answer state bytes (frame_of bytes)

-- anything but ARP and UDP
abbrev pub IsOther : Content → Type 0
IsOther (RealTime frame_id body) = Unit {0}
IsOther (ArpPacket packet) = ⊥
IsOther (UdpDatagram from to body) = ⊥

-- octets that are a frame neither of ARP nor of UDP
abbrev pub IsOtherFrame : Result Meaning FrameFault → Type 0
IsOtherFrame (Ok meaning) = IsOther meaning.content
IsOtherFrame (Err fault) = Unit {0}

-- The state after a packet of ARP from this sender.
abbrev pub after_packet : State → Holder → State
after_packet state sender = if is_conflict state sender then disputed state else state

-- The state after a frame: a packet of ARP may dispute the address.
abbrev pub after_content : State → Content → State
after_content state (RealTime frame_id body) = state
after_content state (ArpPacket packet) = after_packet state packet.sender
after_content state (UdpDatagram from to body) = state

-- The state after octets, unchanged if they are no frame.
abbrev pub after_layers : State → Result Meaning FrameFault → State
after_layers state (Ok meaning) = after_content state meaning.content
after_layers state (Err fault) = state

-- The state after a frame. Only a conflict changes it, whatever the frame's destination.
unfoldable pub heard : State → List ℕ → State
heard state bytes = after_layers state (frame_of bytes)

-- Whether what a frame carries is a conflict.
abbrev pub content_disputes : State → Content → Bool
content_disputes state (RealTime frame_id body) = false
content_disputes state (ArpPacket packet) = is_conflict state packet.sender
content_disputes state (UdpDatagram from to body) = false

-- Whether octets dispute the address.
abbrev pub layers_dispute : State → Result Meaning FrameFault → Bool
layers_dispute state (Ok meaning) = content_disputes state meaning.content
layers_dispute state (Err fault) = false

-- Whether a frame is a conflict: a packet of ARP of another station with the running address.
unfoldable pub disputes : State → List ℕ → Bool
disputes state bytes = layers_dispute state (frame_of bytes)
