-- Both ends under delivery within a unit: the frames that are under way to each, and what a round does.
use Rattle.std.specs.Prelude.{◌≡◌, ◌≤◌, ℕ, zero, suc, false, List, [], ◌∷◌, ◌++◌, Some}
use Rattle.flash_model.specs.declared.flash.Flash.{Ghosts as Flash}
use Rattle.relations.specs.RelationState.{RelationState}
use Rattle.relations.specs.declared.phase.Phase.TheVariants.{Exchanging as in_exchange}
use Rattle.device_frames.specs.declared.event.Event.TheVariants.{Frame}
use Rattle.device_frames.specs.declared.note.Note.{Note}
use Rattle.device_frames.specs.Heard.{Heard, Ticks, heard_of}
use Rattle.device_core.specs.State.{State}
use Rattle.device_core.specs.Steps.{Steps}
use Rattle.controller_core.specs.declared.stored.event.Event.TheVariants as event
use Rattle.controller_core.specs.declared.stored.state.State.TheVariants.{Exchanging}
use Rattle.controller_core.specs.stored.State.{Controlling}
use Rattle.controller_core.specs.Machine.{Stepped, step_of}
use Rattle.network_world.specs.declared.moves.End.{End}
use Rattle.network_world.specs.declared.moves.End.TheVariants.{Device, Controller}

-- A device with its flash, its controller, and the octets of the frames that are under way to each, in order.
pub record Net (F : Type 0) : Type 0 where
  pub device : State F
  pub controller : Controlling
  pub to_device : List (List ℕ)
  pub to_controller : List (List ℕ)

-- ---- the device

-- A step of the device: it hears this, no call of its flash fails, and it sends these frames.
pub record Goes {F : Type 0} {S : ℕ} (as_flash : Flash F S) (before : State F) (heard : Heard) (frames : List (List ℕ)) (after : State F) : Type 0 where
  pub note : Note
  pub steps : Steps as_flash before heard frames note after
  pub unfailed : after.live.values.has_failed ≡ before.live.values.has_failed

-- The flash of this device never fails, and no commit failed since its start.
pub record IsReliable {F : Type 0} {S : ℕ} (as_flash : Flash F S) (device : State F) : Type 0 where
  pub flash : as_flash.is_reliable device.flash
  pub unfailed : device.live.values.has_failed ≡ false

-- A step of the device in which no call of its flash fails. The frames that it sends are appended to those that were sent before, and
-- its flash still never fails.
pub record Adds {F : Type 0} {S : ℕ} (as_flash : Flash F S) (before : State F) (heard : Heard) (sent : List (List ℕ))
    (after : State F) (all : List (List ℕ)) : Type 0 where
  pub frames : List (List ℕ)
  pub goes : Goes as_flash before heard frames after
  pub appended : all ≡ sent ++ frames
  pub reliable : IsReliable as_flash after

-- Frames arrive at the device one after another, and it sends these frames.
abbrev pub HearsAll : {F : Type 0} {S : ℕ} → Flash F S → State F → List (List ℕ) → List (List ℕ) → State F → Type 0
HearsAll as_flash before [] sent after = (after ≡ before) × (sent ≡ [])
HearsAll {F} as_flash before (octets ∷ frames) sent after =
    (between : State F) × (first : List (List ℕ)) × (others : List (List ℕ))
    × Goes as_flash before (heard_of before.station.identity (Frame (record { items = octets }))) first between
    × HearsAll as_flash between frames others after
    × (sent ≡ first ++ others)

-- Frames arrive at the device one after another. The frames that it sends are appended to those that were sent before, and its flash
-- still never fails.
pub record Takes {F : Type 0} {S : ℕ} (as_flash : Flash F S) (before : State F) (frames sent : List (List ℕ))
    (after : State F) (all : List (List ℕ)) : Type 0 where
  pub answers : List (List ℕ)
  pub hears : HearsAll as_flash before frames answers after
  pub appended : all ≡ sent ++ answers
  pub reliable : IsReliable as_flash after

-- ---- the controller

-- The controller after frames that arrived one after another, and all that it sent.
abbrev pub hears_all : Controlling → List (List ℕ) → Stepped
hears_all before [] = record { controller = before; frames = [] }
hears_all before (octets ∷ frames) =
    let step = step_of before (event.Frame (record { items = octets })) in
    let later = hears_all step.controller frames in
    record { controller = later.controller; frames = step.frames ++ later.frames }

-- ---- frames under way

-- The frames that are under way to an end.
abbrev pub under_way_to : {F : Type 0} → End → Net F → List (List ℕ)
under_way_to Device net = net.to_device
under_way_to Controller net = net.to_controller

-- The frames that are under way to an end are lost.
abbrev pub without : {F : Type 0} → End → Net F → Net F
without Device net = record net { to_device = [] }
without Controller net = record net { to_controller = [] }

-- Both ends and their frames, with another device.
abbrev pub with_device : {F : Type 0} → State F → Net F → Net F
with_device device net = record net { device = device }

-- ---- a round

-- Each frame that is under way to the device arrives there. Then each frame that is under way to the controller, and each that the device
-- has sent meanwhile, arrives at the controller. Then a unit passes at both ends. What the controller has sent in the round, and what the
-- device has sent in the unit, is under way after it. No frame is lost, repeated or overtaken, and no call of the flash fails.
pub record Round {F : Type 0} {S : ℕ} (as_flash : Flash F S) (before after : Net F) : Type 0 where
  pub device : State F
  pub answers : List (List ℕ)
  pub arrives : HearsAll as_flash before.device before.to_device answers device
  pub unit : Goes as_flash device Ticks after.to_controller after.device
  pub controller : after.controller
      ≡ (step_of (hears_all before.controller (before.to_controller ++ answers)).controller event.Tick).controller
  pub to_device : after.to_device
      ≡ (hears_all before.controller (before.to_controller ++ answers)).frames
      ++ (step_of (hears_all before.controller (before.to_controller ++ answers)).controller event.Tick).frames

-- This number of rounds, one after another.
abbrev pub Rounds : {F : Type 0} {S : ℕ} → Flash F S → ℕ → Net F → Net F → Type 0
Rounds as_flash zero before after = after ≡ before
Rounds {F} as_flash (suc number) before after = (next : Net F) × Round as_flash before next × Rounds as_flash number next after

-- ---- both exchange data

-- The device and the controller exchange data, in the same relation: the controller sends outputs with the FrameID that the device accepts,
-- and alarms to the endpoint of the device.
pub record BothExchange {F : Type 0} (net : Net F) : Type 0 where
  pub link : RelationState
  pub device : net.device.live.rest.link ≡ Some link
  pub exchanges : link.phase ≡ in_exchange
  pub ar : link.request.ar.uuid ≡ net.controller.setup.ar
  pub controller : net.controller.live.phase ≡ Exchanging
  pub outputs : net.controller.live.cyclic.route.sent_id ≡ link.flow.cyclic.route.taken_id
  pub alarms : net.controller.live.cyclic.route.reference ≡ link.flow.endpoint

-- Between these two nets are rounds. After at most this many of them both ends exchange data.
pub record ExchangeWithin {F : Type 0} {S : ℕ} (as_flash : Flash F S) (limit : ℕ) (first last : Net F) : Type 0 where
  pub before : ℕ
  pub after : ℕ
  pub in_time : before ≤ limit
  pub net : Net F
  pub to : Rounds as_flash before first net
  pub from : Rounds as_flash after net last
  pub both : BothExchange net
