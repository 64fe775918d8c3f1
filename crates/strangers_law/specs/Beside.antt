-- What the services beside one end send, and the relation at the other end.
use Rattle.std.specs.Prelude.{◌≡◌, ◌≤◌, ◌==◌, ◌&&◌, ℕ, Bool, true, false, List, [], length, take, drop, Option, Ok}
use Rattle.std.specs.List.{AllByRecursion}
use Rattle.flash_model.specs.declared.flash.Flash.{Ghosts as Flash}
use Rattle.relations.specs.RelationState.{RelationState}
use Rattle.device_frames.specs.declared.event.Event.{Event}
use Rattle.device_frames.specs.declared.event.Event.TheVariants.{Frame}
use Rattle.device_frames.specs.declared.note.Note.{Note}
use Rattle.pn_values.specs.declared.identity.Identity.{Identity}
use Rattle.pn_values.specs.declared.settings.Settings.{Settings}
use Rattle.frame_codec.specs.declared.udp.Endpoint.{Endpoint}
use Rattle.frame_codec.specs.Frame.{frame_of}
use Rattle.frame_codec.specs.Meaning.{Meaning, UdpDatagram}
use Rattle.rpc_core.specs.declared.interface.Interface.TheVariants.{Device}
use Rattle.rpc_core.specs.declared.call_headers.call.Head.{Head}
use Rattle.rpc_core.specs.Interface.{interface_uuid}
use Rattle.rpc_core.specs.call_headers.Call.{head}
use Rattle.rpc_core.specs.call_headers.Unserved.{names_interface}
use Rattle.rpc_services.specs.pieces.Piece.{is_fragment}
use Rattle.rpc_services.specs.pieces.State.{Unfinished}
use Rattle.device_station.specs.Serving.{Serving, serving_at}
use Rattle.device_station.specs.State.{Frames, State}
use Rattle.device_station.specs.Steps.{StationTakes}
use Rattle.controller_messages.specs.declared.setup.Setup.{Setup}
use Rattle.controller_core.specs.declared.stored.event.Event.{Event as ControllerEvent}
use Rattle.controller_core.specs.stored.State.{Controlling}
use Rattle.controller_station.specs.Beside.{Beside}
use Rattle.controller_station.specs.Runs.{after_event, sent_at}
use Rattle.controller_station.specs.Served.{Served, begun}
use Rattle.octets_law.specs.Octets.{activity_of, number, untagged}
use Rattle.strangers_law.specs.Controller.{belongs_to}
use Rattle.strangers_law.specs.Quiet.{is_quiet_stranger}
use Rattle.strangers_law.specs.Strange.{is_datagram, same}

-- ---- the services beside a device, and a controller

-- A header of a call of which fragments are missing: its identifiers have 16 octets.
pub record IsHeaded (call : Unfinished) : Type 0 where
  pub object : length call.head.names.object ≡ 16
  pub interface : length call.head.names.interface ≡ 16

-- The MAC addresses of the services have six octets, and the calls of which fragments are missing have such headers.
pub record HaveSizes (services : Serving) : Type 0 where
  pub ip : length services.ip.mac.octets ≡ 6
  pub near : length services.near.mac.octets ≡ 6
  pub calls : AllByRecursion IsHeaded services.pieces.calls

-- A packet of a call to the station with this MAC address: a datagram to port 34964 (36) with this activity.
abbrev pub is_packet_to : List ℕ → List ℕ → List ℕ → Bool
is_packet_to station activity frame =
    same (take 6 frame) station && is_datagram frame && number 36 2 frame == 34964 && same (activity_of (drop 42 frame)) activity

-- An event that is no packet to this station with the activity of the controller's own calls.
abbrev pub IsNoPacketOf : Controlling → List ℕ → Event → Type 0
IsNoPacketOf controlling station (Frame frame) = is_packet_to station controlling.setup.activity (untagged frame.items) ≡ false
IsNoPacketOf controlling station event = Unit {0}

-- Each of these frames is a stranger's to this controller.
abbrev pub AreStrangeTo : Controlling → List (List ℕ) → Type 0
AreStrangeTo controlling frames = AllByRecursion (λ frame. belongs_to controlling (untagged frame) ≡ false) frames

-- What the services beside a device send at such an event is strange to the controller: ARP, replies to echo requests, LLDP,
-- acknowledgements of fragments, refusals of calls and answers of the endpoint mapper. The last three have the activity of what they
-- answer.
abbrev pub ServicesLeaveControllers : {F : Type 0} {S : ℕ} → Flash F S → Type 0
ServicesLeaveControllers {F} as_flash = (old new : State F) (event : Event) (frames : Frames) (said : Note) (controlling : Controlling)
    → StationTakes as_flash old event frames said new → HaveSizes old.services → IsNoPacketOf controlling old.services.ip.mac.octets event
    → AreStrangeTo controlling frames.services

-- A frame that carries a whole call, no fragment, to the interface of the device, with an operation that the interface has (0 to 5).
pub record IsWholeCall (frame : List ℕ) : Type 0 where
  pub meaning : Meaning
  pub from : Endpoint
  pub to : Endpoint
  pub body : List ℕ
  pub header : Head
  pub rest : List ℕ
  pub read : frame_of frame ≡ Ok meaning
  pub datagram : meaning.content ≡ UdpDatagram from to body
  pub headed : head.read body ≡ Ok (header, rest)
  pub request : header.opening.packet_type ≡ 0
  pub whole : is_fragment header.opening.flags ≡ false
  pub interface : names_interface header (interface_uuid Device) ≡ true
  pub operation : header.turn.operation ≤ 5

-- An event that brings a frame with a whole call.
abbrev pub CallsWhole : Event → Type 0
CallsWhole (Frame frame) = IsWholeCall frame.items
CallsWhole event = ⊥

-- The services beside a device send nothing at such a frame, whether the device accepts the call or not.
abbrev pub ServicesLeaveCalls : {F : Type 0} {S : ℕ} → Flash F S → Type 0
ServicesLeaveCalls {F} as_flash = (old new : State F) (event : Event) (frames : Frames) (said : Note)
    → StationTakes as_flash old event frames said new → CallsWhole event → frames.services ≡ []

-- The sizes are so at the start of a station, and after each event.
pub record SizesAreKept {F : Type 0} {S : ℕ} (as_flash : Flash F S) : Type 0 where
  pub first : (identity : Identity) (running : Settings) → length identity.mac.octets ≡ 6 → HaveSizes (serving_at identity running)
  pub kept : (old new : State F) (event : Event) (frames : Frames) (said : Note) → StationTakes as_flash old event frames said new
      → HaveSizes old.services → HaveSizes new.services

-- ---- the services beside a controller, and a device

-- The MAC addresses of the services have six octets.
pub record HaveAddresses (services : Beside) : Type 0 where
  pub ip : length services.ip.mac.octets ≡ 6
  pub near : length services.near.mac.octets ≡ 6

-- Each of these frames is a quiet stranger's to the device with this MAC address, with this relation or without one.
abbrev pub AreQuietAt : List ℕ → Option RelationState → List (List ℕ) → Type 0
AreQuietAt station link frames = AllByRecursion (λ frame. is_quiet_stranger station link (untagged frame) ≡ true) frames

-- What the services beside a controller send at any event is so to each device: ARP, replies to echo requests and LLDP.
abbrev pub ServicesLeaveDevices : Type 0
ServicesLeaveDevices = (served : Served) (event : ControllerEvent) (station : List ℕ) (link : Option RelationState)
    → HaveAddresses served.services → AreQuietAt station link (sent_at served event).services

-- The addresses are so at the start of a controller, and after each event.
pub record AddressesAreKept : Type 0 where
  pub first : (setup : Setup) → length setup.plan.controller.mac.octets ≡ 6 → HaveAddresses (begun setup).services
  pub kept : (served : Served) (event : ControllerEvent) → HaveAddresses served.services → HaveAddresses (after_event served event).services
