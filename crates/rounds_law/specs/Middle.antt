-- The middle of a start-up: the device has the relation of this start, and both ends go on with it. The states, and the number of units
-- within which both ends then exchange data.
use Rattle.std.specs.Prelude.{◌≡◌, ◌⊎◌, ◌≤◌, ◌<◌, ◌+◌, ◌-◌, ◌++◌, ℕ, true, false, List, [], ◌∷◌, map, take, if◌then◌else◌, None, Some}
use Rattle.std.specs.List.{AllByRecursion}
use Rattle.pn_values.specs.declared.identity.Identity.{Identity}
use Rattle.pn_values.specs.declared.mac.Mac.{Mac}
use Rattle.records.specs.declared.writes.taken.TakenRecord.{TakenRecord}
use Rattle.relations.specs.declared.phase.Phase.TheVariants.{Awaiting, Started}
use Rattle.device_core.specs.State.{Live}
use Rattle.device_core.specs.Machine.{Stepped}
use Rattle.plans.specs.declared.parts.Parts.{Parts}
use Rattle.controller_messages.specs.declared.request.Request.TheVariants.{PrmEnd, Write}
use Rattle.controller_messages.specs.declared.setup.Setup.{Setup}
use Rattle.controller_messages.specs.Requests.{first_of, write_count}
use Rattle.controller_core.specs.declared.stored.state.State.TheVariants.{Ending, Waiting, Writing}
use Rattle.controller_core.specs.stored.State.{Controlling}
use Rattle.both_ends.specs.startup.View.{taken_for}
use Rattle.rounds_law.specs.Path.{Asks, Controls, HasNoTurn, HasRelation, IsAddressed, IsInputs, IsOutputs, IsRoute, confirmed_frame, hold_of, readied_frame}
use Rattle.rounds_law.specs.Path.{request_to}
use Rattle.rounds_law.specs.Repeating.{completes, counts_on}
use Rattle.rounds_law.specs.Rounds.{Net}
use Rattle.rounds_law.specs.Start.{IsOfPlan}

-- ---- the numbers of units

-- From a Write that is under way: one unit for it and for each one after it, one for PrmEnd, and one for the response to
-- ApplicationReady.
abbrev pub writing_limit : Parts → ℕ → ℕ
writing_limit plan number = write_count plan - number + 2

-- The units until ApplicationReady is sent again, if it was sent this many units ago: it is sent each second, 32,000 units.
abbrev pub until_ready : ℕ → ℕ
until_ready waited = 32000 - waited

-- From a wait for ApplicationReady that was sent this many units ago and got lost: until it is sent again, and one unit each for it and for
-- its response.
abbrev pub waiting_limit : ℕ → ℕ
waiting_limit waited = until_ready waited + 2

-- ---- parts of the states

-- The device is the one of the plan, and uses the plan's IP suite.
pub record HasDevice {F : Type 0} (setup : Setup) (identity : Identity) (net : Net F) : Type 0 where
  pub of_device : net.device.station.identity ≡ identity
  pub of_plan : IsOfPlan setup net.device.station net.device.live.rest.real
  pub addressed : IsAddressed setup net.device.live

-- This frame is under way to the device, with outputs of the relation of this number at most after it.
pub record IsUnderWay (setup : Setup) (serial : ℕ) (identity : Identity) (octets : List ℕ) (to_device : List (List ℕ)) : Type 0 where
  pub outputs : List (List ℕ)
  pub frames : to_device ≡ octets ∷ outputs
  pub are_outputs : AllByRecursion (IsOutputs setup (Some serial) identity.mac) outputs

-- The records of the Writes before this one, as the device keeps them.
abbrev pub taken_before : Setup → ℕ → List TakenRecord
taken_before setup number = map taken_for (take (first_of setup.plan number) setup.plan.records.items)

-- The device waits, in a relation of this number, for the response to ApplicationReady, which it last sent this many units ago. Its activity timer has run for this many
-- units.
pub record IsAwaiting (setup : Setup) (serial : ℕ) (waited : ℕ) (inactive : ℕ) (live : Live) : Type 0 where
  pub taken : List TakenRecord
  pub last : ℕ
  pub age : ℕ
  pub related : HasRelation setup serial Awaiting taken last age live
  pub waits : related.link.waited ≡ waited
  pub runs : related.link.inactive ≡ inactive

-- What is sent with a unit: ApplicationReady if the unit completes a second, and no other unit sends it; then a frame of inputs, if one is
-- due. The device still waits.
pub record WaitsOn (setup : Setup) (serial : ℕ) (identity : Identity) (waited : ℕ) (inactive : ℕ) (live : Live) (step : Stepped) : Type 0 where
  pub inputs : List (List ℕ)
  pub are_inputs : AllByRecursion (IsInputs setup identity) inputs
  pub frames : step.frames ≡ (if completes waited then readied_frame setup identity ∷ [] else []) ++ inputs
  pub values : step.live.values ≡ live.values
  pub awaits : IsAwaiting setup serial (counts_on waited) (inactive + 1) step.live

-- The controller waits for ApplicationReady. For this many units it does not give up. No place was plugged since the Connect.
pub record WaitsForReady (setup : Setup) (serial : ℕ) (device : Mac) (spare : ℕ) (controller : Controlling) : Type 0 where
  pub of_setup : controller.setup ≡ setup
  pub in_phase : controller.live.phase ≡ Waiting
  pub unasked : controller.live.asked ≡ None
  pub patient : (controller.live.left ≡ 0) ⊎ (spare < controller.live.left)
  pub established : controller.live.stands ≡ true
  pub route : IsRoute (Some serial) device controller.live.cyclic
  pub high : controller.live.alarms.sending.waiting ≡ None
  pub low : controller.live.low_alarms.sending.waiting ≡ None
  pub low_limit : 3200 ≤ controller.live.low_alarms.sending.limit
  pub alone : controller.live.access.waiting ≡ None
  pub turnless : HasNoTurn controller.live
  pub unbegun : controller.live.cyclic.begun ≡ false
  pub limit : controller.live.cyclic.hearing.limit ≡ hold_of setup.plan

-- ---- the states

-- This Write is under way, and the device has accepted the ones before it. The controller does not send it again and does not give up in as
-- many units as Writes are left, and one.
pub record IsWriting {F : Type 0} (setup : Setup) (identity : Identity) (number : ℕ) (net : Net F) : Type 0 where
  pub serial : ℕ
  pub device : HasDevice setup identity net
  pub age : ℕ
  pub related : HasRelation setup serial Started (taken_before setup number) number age net.device.live
  pub more : number < write_count setup.plan
  pub asks : Asks setup identity.mac Writing (Write number) (Some serial) (write_count setup.plan - number + 1) net.controller
  pub under_way : IsUnderWay setup serial identity (request_to setup identity (Write number)) net.to_device
  pub inputs : AllByRecursion (IsInputs setup identity) net.to_controller

-- PrmEnd is under way. Which records the device accepted does not matter.
pub record IsEnding {F : Type 0} (setup : Setup) (identity : Identity) (net : Net F) : Type 0 where
  pub serial : ℕ
  pub device : HasDevice setup identity net
  pub taken : List TakenRecord
  pub last : ℕ
  pub few : last ≤ write_count setup.plan
  pub age : ℕ
  pub related : HasRelation setup serial Started taken last age net.device.live
  pub spare : ℕ
  pub asks : Asks setup identity.mac Ending PrmEnd (Some serial) spare net.controller
  pub under_way : IsUnderWay setup serial identity (request_to setup identity PrmEnd) net.to_device
  pub inputs : AllByRecursion (IsInputs setup identity) net.to_controller

-- The controller waits for ApplicationReady, and none is under way: the last one was sent this many units ago, and was lost. The device
-- sends the next one before its activity time, 60 seconds, is over, and before the controller gives up.
pub record IsWaiting {F : Type 0} (setup : Setup) (identity : Identity) (waited : ℕ) (net : Net F) : Type 0 where
  pub serial : ℕ
  pub device : HasDevice setup identity net
  pub inactive : ℕ
  pub awaits : IsAwaiting setup serial waited inactive net.device.live
  pub below : waited < 32000
  pub lasts : inactive + until_ready waited + 1 < 1920000
  pub waits : WaitsForReady setup serial identity.mac (until_ready waited) net.controller
  pub outputs : AllByRecursion (IsOutputs setup (Some serial) identity.mac) net.to_device
  pub inputs : AllByRecursion (IsInputs setup identity) net.to_controller

-- The controller waits for ApplicationReady, and it is under way, among inputs. It is not the time to send it again.
pub record IsReadied {F : Type 0} (setup : Setup) (identity : Identity) (net : Net F) : Type 0 where
  pub serial : ℕ
  pub device : HasDevice setup identity net
  pub waited : ℕ
  pub inactive : ℕ
  pub awaits : IsAwaiting setup serial waited inactive net.device.live
  pub early : waited + 1 < 32000
  pub lasts : inactive + 1 < 1920000
  pub spare : ℕ
  pub waits : WaitsForReady setup serial identity.mac spare net.controller
  pub outputs : AllByRecursion (IsOutputs setup (Some serial) identity.mac) net.to_device
  pub before : List (List ℕ)
  pub after : List (List ℕ)
  pub under_way : net.to_controller ≡ before ++ readied_frame setup identity ∷ after
  pub inputs_before : AllByRecursion (IsInputs setup identity) before
  pub inputs_after : AllByRecursion (IsInputs setup identity) after

-- The response to ApplicationReady is under way. The controller exchanges data already, and its data hold time does not end with the next
-- unit. The device does not.
pub record IsConfirming {F : Type 0} (setup : Setup) (identity : Identity) (net : Net F) : Type 0 where
  pub serial : ℕ
  pub device : HasDevice setup identity net
  pub taken : List TakenRecord
  pub last : ℕ
  pub age : ℕ
  pub related : HasRelation setup serial Awaiting taken last age net.device.live
  pub held : ℕ
  pub controls : Controls setup serial identity.mac held net.controller
  pub in_time : held + 2 ≤ hold_of setup.plan
  pub few : held < 3000
  pub under_way : IsUnderWay setup serial identity (confirmed_frame setup identity) net.to_device
  pub inputs : AllByRecursion (IsInputs setup identity) net.to_controller
