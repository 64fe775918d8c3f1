-- Both ends of a network, and the worlds that moves lead to.
use Rattle.std.specs.Prelude.{◌≡◌, ◌++◌, ◌&&◌, ℕ, Bool, true, false, not, List, [], ◌∷◌, slice_get, Option, Some, None, Result, Ok, Err}
use Rattle.flash_model.specs.declared.flash.Flash.{Ghosts as Flash}
use Rattle.std.specs.Option.{option_map}
use Rattle.lldp.specs.Views.{peer_as}
use Rattle.frame_codec.specs.declared.fault.FrameFault.{FrameFault}
use Rattle.frame_codec.specs.FrameId.{is_cyclic}
use Rattle.frame_codec.specs.Meaning.{Meaning, Content, RealTime, ArpPacket, UdpDatagram}
use Rattle.frame_codec.specs.Frame.{frame_of}
use Rattle.records.specs.calls.Naming.{is_relation}
use Rattle.relations.specs.RelationState.{uuid_of}
use Rattle.device_frames.specs.declared.event.Event.TheVariants.{Frame}
use Rattle.device_frames.specs.Heard.{Heard, Ticks, Applied, Met, heard_of}
use Rattle.device_frames.specs.declared.note.Note.{Note}
use Rattle.device_core.specs.State.{State}
use Rattle.device_core.specs.Steps.{Steps}
use Rattle.controller_core.specs.declared.stored.state.State.{State as ControllerState}
use Rattle.controller_core.specs.declared.stored.state.State.TheVariants.{Looking, Addressing, Connecting, Writing, Ending, Waiting, Exchanging, Ended}
use Rattle.controller_core.specs.declared.stored.event.Event.{Event as ControllerEvent}
use Rattle.controller_core.specs.declared.stored.event.Event.TheVariants as controller
use Rattle.controller_core.specs.stored.State.{Controlling}
use Rattle.controller_core.specs.Machine.{step_of}
use Rattle.network_world.specs.declared.moves.End.{End}
use Rattle.network_world.specs.declared.moves.End.TheVariants.{Device, Controller}
use Rattle.network_world.specs.declared.moves.Move.{Move}
use Rattle.network_world.specs.declared.moves.Move.TheVariants as move
use Rattle.network_world.specs.Sent.{Sent}

-- a device with its flash, its controller, and the octets of each frame that either end ever sent, in order
pub record World (F : Type 0) : Type 0 where
  pub device : State F
  pub controller : Controlling
  pub sent : List (List ℕ)

-- the world with these parts
abbrev pub world_of : {F : Type 0} → State F → Controlling → Sent → World F
world_of device controller sent = record { device = device; controller = controller; sent = sent.frames }

-- ---- which frames are skipped

-- whether a content is cyclic data
abbrev pub is_cyclic_content : Content → Bool
is_cyclic_content (RealTime frame_id body) = is_cyclic frame_id
is_cyclic_content (ArpPacket arp) = false
is_cyclic_content (UdpDatagram source destination body) = false

-- whether a frame that was read is a cyclic frame
abbrev pub is_cyclic_read : Result Meaning FrameFault → Bool
is_cyclic_read (Ok meaning) = is_cyclic_content meaning.content
is_cyclic_read (Err fault) = false

-- whether octets are a cyclic frame, to any destination
unfoldable pub is_cyclic_frame : List ℕ → Bool
is_cyclic_frame octets = is_cyclic_read (frame_of octets)

-- whether a controller in this state has left its relation
abbrev pub is_ended : ControllerState → Bool
is_ended Looking = false
is_ended Addressing = false
is_ended Connecting = false
is_ended Writing = false
is_ended Ending = false
is_ended Waiting = false
is_ended Exchanging = false
is_ended (Ended cause) = true

-- Whether an end has left the relation of this controller: a device without a relation or with one of another ARUUID,
-- and a controller whose relation ended.
abbrev pub has_left : {F : Type 0} → State F → Controlling → End → Bool
has_left device controller Device = not (is_relation (uuid_of device.live.rest.link) controller.setup.ar)
has_left device controller Controller = is_ended controller.live.phase

-- whether a frame that is delivered to an end is skipped
abbrev pub is_skipped : {F : Type 0} → State F → Controlling → End → List ℕ → Bool
is_skipped device controller end octets = is_cyclic_frame octets && has_left device controller end

-- ---- the effect of a move

-- A device heard this, whatever its flash did: it made a step, and its frames are appended to all that were sent.
pub record IsHeard {F : Type 0} {S : ℕ} (as_flash : Flash F S) (before : State F) (sent : List (List ℕ)) (heard : Heard) (after : State F) (all : List (List ℕ)) : Type 0 where
  pub frames : List (List ℕ)
  pub note : Note
  pub steps : Steps as_flash before heard frames note after
  pub behind : all ≡ sent ++ frames

-- The device heard this, and nothing else changed.
pub record AtDevice {F : Type 0} {S : ℕ} (as_flash : Flash F S) (before : World F) (heard : Heard) (after : World F) : Type 0 where
  pub hears : IsHeard as_flash before.device before.sent heard after.device after.sent
  pub controller : after.controller ≡ before.controller

-- the controller handled an event, and nothing else changed
abbrev pub at_controller : {F : Type 0} → World F → ControllerEvent → World F
at_controller before event = record {
  device = before.device;
  controller = (step_of before.controller event).controller;
  sent = before.sent ++ (step_of before.controller event).frames;
}

-- octets are delivered to an end from the network, or were skipped
abbrev pub Comes : {F : Type 0} {S : ℕ} → Flash F S → Bool → World F → End → List ℕ → World F → Type 0
Comes as_flash true before end octets after = after ≡ before
Comes as_flash false before Device octets after =
    AtDevice as_flash before (heard_of before.device.station.identity (Frame (record { items = octets }))) after
Comes as_flash false before Controller octets after = after ≡ at_controller before (controller.Frame (record { items = octets }))

-- a frame is delivered to an end, if it exists
abbrev pub Delivers : {F : Type 0} {S : ℕ} → Flash F S → Option (List ℕ) → World F → End → World F → Type 0
Delivers as_flash None before end after = after ≡ before
Delivers as_flash (Some octets) before end after =
    Comes as_flash (is_skipped before.device before.controller end octets) before end octets after

-- a unit of time passes at an end
abbrev pub Passes : {F : Type 0} {S : ℕ} → Flash F S → World F → End → World F → Type 0
Passes as_flash before Device after = AtDevice as_flash before Ticks after
Passes as_flash before Controller after = after ≡ at_controller before controller.Tick

-- the end whose move it is: only this end steps and sends
abbrev pub end_at : Move → End
end_at (move.Deliver end number) = end
end_at (move.Tick end) = end
end_at (move.Application local) = Device
end_at (move.Neighbour neighbour) = Device
end_at (move.Give slot subslot value) = Controller
end_at (move.OutputStatus slot subslot is_good) = Controller
end_at (move.Read slot subslot index) = Controller
end_at (move.Write slot subslot index octets) = Controller
end_at move.Stop = Controller

-- a move is made
abbrev pub Happens : {F : Type 0} {S : ℕ} → Flash F S → World F → Move → World F → Type 0
Happens as_flash before (move.Deliver end number) after = Delivers as_flash (slice_get before.sent number) before end after
Happens as_flash before (move.Tick end) after = Passes as_flash before end after
Happens as_flash before (move.Application local) after = AtDevice as_flash before (Applied local) after
Happens as_flash before (move.Neighbour neighbour) after = AtDevice as_flash before (Met (option_map peer_as neighbour)) after
Happens as_flash before (move.Give slot subslot value) after = after ≡ at_controller before (controller.Give slot subslot value)
Happens as_flash before (move.OutputStatus slot subslot is_good) after = after ≡ at_controller before (controller.Status slot subslot is_good)
Happens as_flash before (move.Read slot subslot index) after = after ≡ at_controller before (controller.Read slot subslot index)
Happens as_flash before (move.Write slot subslot index octets) after = after ≡ at_controller before (controller.Write slot subslot index octets)
Happens as_flash before move.Stop after = after ≡ at_controller before controller.Stop

-- moves are made, one after the other: the world that they lead to
abbrev pub Played : {F : Type 0} {S : ℕ} → Flash F S → World F → List Move → World F → Type 0
Played as_flash before [] after = after ≡ before
Played {F} as_flash before (one ∷ moves) after =
    (next : World F) × Happens as_flash before one next × Played as_flash next moves after

-- Each of these moves happens, with the world after it.
abbrev pub AreMade : {F : Type 0} {S : ℕ} → Flash F S → World F → List (Move × World F) → Type 0
AreMade as_flash before [] = Unit {0}
AreMade as_flash before (one ∷ run) = Happens as_flash before one.0 one.1 × AreMade as_flash one.1 run

-- The world after a run.
abbrev pub last_world : {F : Type 0} → World F → List (Move × World F) → World F
last_world before [] = before
last_world before (one ∷ run) = last_world one.1 run
