-- A start-up that cannot succeed: where it begins, and how it ends.
use Rattle.std.specs.Prelude.{◌≡◌, ◌⊎◌, ◌++◌, ℕ, zero, suc, true, false, List, [], ◌∷◌, Some, None}
use Rattle.std.specs.List.{AllByRecursion}
use Rattle.flash_model.specs.declared.flash.Flash.{Ghosts as Flash}
use Rattle.pn_values.specs.declared.identity.Identity.{Identity}
use Rattle.pn_values.specs.declared.real.Real.{Real}
use Rattle.pn_values.specs.declared.set_item.BlockError.{BlockError}
use Rattle.pn_values.specs.declared.set_item.BlockError.TheVariants.{Exhausted, Local}
use Rattle.connects.specs.declared.answers.connect.Found.{Found}
use Rattle.connects.specs.answers.Connect.{found_in, is_whole, nothing}
use Rattle.relations.specs.Connect.{connect_blocks, differing_of}
use Rattle.device_frames.specs.declared.event.Event.TheVariants.{Frame}
use Rattle.device_frames.specs.declared.note.Note.{Note}
use Rattle.device_frames.specs.Heard.{Ticks, heard_of}
use Rattle.device_frames.specs.Sent.{SetAnswer, bytes_of as device_bytes}
use Rattle.device_core.specs.Handled.{number_now}
use Rattle.device_core.specs.State.{Live, State}
use Rattle.device_core.specs.Steps.{Steps}
use Rattle.controller_messages.specs.declared.setup.Setup.{Setup}
use Rattle.controller_messages.specs.declared.request.Request.TheVariants.{Connect}
use Rattle.controller_messages.specs.Requests.{address_asked}
use Rattle.controller_core.specs.declared.stored.event.Event.TheVariants.{Tick}
use Rattle.controller_core.specs.declared.stored.state.Cause.{Cause}
use Rattle.controller_core.specs.declared.stored.state.State.TheVariants.{Connecting, Ended}
use Rattle.controller_core.specs.stored.State.{Controlling}
use Rattle.controller_core.specs.Machine.{first as first_live, opening_of, step_of}
use Rattle.both_ends.specs.startup.request.Request.{request_for}
use Rattle.both_ends.specs.startup.answer.Answer.{AcceptsInterval}
use Rattle.rounds_law.specs.Path.{Asks, IsAddressed, IsFree, IsIgnored, IsNamed, IsSized, request_to, response_to}
use Rattle.rounds_law.specs.Rounds.{Goes, Net, Round, hears_all}

-- The controller has ended with this cause, and its relation is not established.
pub record EndedWith (cause : Cause) (controller : Controlling) : Type 0 where
  pub in_phase : controller.live.phase ≡ Ended cause
  pub unestablished : controller.live.stands ≡ false

-- In each run the controller has ended with this cause after at most this many rounds.
abbrev pub EndsWithin : {F : Type 0} {S : ℕ} → Flash F S → ℕ → Cause → Net F → Type 0
EndsWithin as_flash zero cause net = EndedWith cause net.controller
EndsWithin {F} as_flash (suc limit) cause net =
    EndedWith cause net.controller ⊎ ((next : Net F) → Round as_flash net next → EndsWithin as_flash limit cause next)

-- ---- the name is in use

-- A device of this identity is not the plan's: it has another VendorID or another DeviceID.
abbrev pub IsOther : Setup → Identity → Type 0
IsOther setup identity = (identity.vendor_id ≡ setup.plan.station.vendor_id → ⊥) ⊎ (identity.device_id ≡ setup.plan.station.device_id → ⊥)

-- The controller was just made, and its Identify is under way to a device that has the plan's name. What is plugged there, and whether it
-- has a relation, does not matter.
pub record Seeks {F : Type 0} (setup : Setup) (identity : Identity) (net : Net F) : Type 0 where
  pub of_setup : net.controller.setup ≡ setup
  pub made : net.controller.live ≡ first_live setup.plan
  pub opened : net.to_device ≡ opening_of net.controller ∷ []
  pub ignored : AllByRecursion (IsIgnored setup) net.to_controller
  pub of_device : net.device.station.identity ≡ identity
  pub named : IsNamed setup net.device.live
  pub sized : IsSized net.device.live.values.running.suite

-- ---- an IP suite that is not stored

-- The device is the plan's by its VendorID and DeviceID.
pub record IsRight (setup : Setup) (identity : Identity) : Type 0 where
  pub vendor : identity.vendor_id ≡ setup.plan.station.vendor_id
  pub device : identity.device_id ≡ setup.plan.station.device_id

-- It cannot store an IP suite: a commit of its settings failed since its start, or there is no room for one more.
abbrev pub CannotStore : Live → Type 0
CannotStore live = (live.values.has_failed ≡ true) ⊎ (live.values.room ≡ 0)

-- The controller was just made, and its Identify is under way to the plan's device, which has no relation and another IP suite than the
-- plan's. What is plugged there does not matter.
pub record SeeksUnaddressed {F : Type 0} (setup : Setup) (identity : Identity) (net : Net F) : Type 0 where
  pub seeks : Seeks setup identity net
  pub right : IsRight setup identity
  pub free : IsFree setup net.device.live
  pub other : net.device.live.values.running.suite ≡ setup.plan.station.suite → ⊥

-- A block of a Set that was not stored: no commit succeeds any more, or there is no room.
abbrev pub IsUnstored : BlockError → Type 0
IsUnstored error = (error ≡ Local) ⊎ (error ≡ Exhausted)

-- The answer to the Set of the IP suite, with this error.
abbrev pub unstored_frame : Setup → Identity → BlockError → List ℕ
unstored_frame setup identity error = device_bytes identity (SetAnswer setup.plan.controller.mac (address_asked setup.plan) (error ∷ []))

-- A round in which one frame arrives at the device, and the commit that it asks for fails. The rest of the round is as in any other.
pub record FailingRound {F : Type 0} {S : ℕ} (as_flash : Flash F S) (before after : Net F) : Type 0 where
  pub octets : List ℕ
  pub alone : before.to_device ≡ octets ∷ []
  pub device : State F
  pub answers : List (List ℕ)
  pub note : Note
  pub steps : Steps as_flash before.device (heard_of before.device.station.identity (Frame (record { items = octets }))) answers note device
  pub failed : device.live.values.has_failed ≡ true
  pub unit : Goes as_flash device Ticks after.to_controller after.device
  pub controller : after.controller
      ≡ (step_of (hears_all before.controller (before.to_controller ++ answers)).controller Tick).controller
  pub to_device : after.to_device
      ≡ (hears_all before.controller (before.to_controller ++ answers)).frames
      ++ (step_of (hears_all before.controller (before.to_controller ++ answers)).controller Tick).frames

-- ---- modules that differ

-- The blocks with which a device with these modules answers the plan's Connect, in a relation of this number.
abbrev pub blocks_with : Setup → Identity → ℕ → Real → List ℕ
blocks_with setup identity serial real = connect_blocks identity serial (request_for setup.plan setup.ar) (differing_of (request_for setup.plan setup.ar) real)

-- Its response with these blocks.
abbrev pub differing_frame : Setup → Identity → ℕ → Real → List ℕ
differing_frame setup identity serial real = response_to setup identity Connect (blocks_with setup identity serial real)

-- A controller that reads these blocks finds all that a relation needs, and a module or submodule that is neither the plan's nor a
-- substitute.
pub record Differs (setup : Setup) (identity : Identity) (serial : ℕ) (real : Real) : Type 0 where
  pub found : Found
  pub read : found_in 400 (blocks_with setup identity serial real) nothing ≡ Some found
  pub whole : is_whole found ≡ true
  pub differs : found.differs ≡ true

-- The Connect is under way to a device that has the plan's IP suite, no relation, and other modules.
pub record ConnectsToOther {F : Type 0} (setup : Setup) (identity : Identity) (net : Net F) : Type 0 where
  pub spare : ℕ
  pub asks : Asks setup identity.mac Connecting Connect None spare net.controller
  pub under_way : net.to_device ≡ request_to setup identity Connect ∷ []
  pub ignored : AllByRecursion (IsIgnored setup) net.to_controller
  pub of_device : net.device.station.identity ≡ identity
  pub interval : AcceptsInterval net.device.station.options setup.plan
  pub addressed : IsAddressed setup net.device.live
  pub free : IsFree setup net.device.live
  pub differs : Differs setup identity (number_now net.device.station net.device.live) net.device.live.rest.real
