-- From which states of both ends both exchange data, and within how many units.
--
-- The device has the relation of this very start, the relation of an earlier start of this controller, or none. The controller is in any of
-- its states.
--
-- Not in the table: a call or a response that was lost while the device has its relation; a call that a stored answer still answers after the
-- relation ended; and two ends that exchange data under different ARUUIDs. Their cyclic frames have the same addresses, and the same FrameIDs
-- unless the numbers of the device's relations go round, so that neither end sees a difference, and no law of these two ends can say that they
-- part.
use Rattle.std.specs.Prelude.{◌≡◌, ◌≤◌, ◌<◌, ◌+◌, ◌-◌, ◌⊎◌, ℕ, true, false, List, [], ◌∷◌, None}
use Rattle.std.specs.List.{AllByRecursion}
use Rattle.pn_values.specs.declared.identity.Identity.{Identity}
use Rattle.rpc_core.specs.Cache.{kept_of}
use Rattle.plans.specs.declared.parts.Parts.{Parts}
use Rattle.device_core.specs.State.{Live}
use Rattle.controller_messages.specs.declared.request.Request.{Request}
use Rattle.controller_messages.specs.declared.request.Request.TheVariants as asks
use Rattle.controller_messages.specs.declared.setup.Setup.{Setup}
use Rattle.controller_messages.specs.Requests.{write_count}
use Rattle.controller_core.specs.declared.stored.state.Cause.{Cause}
use Rattle.controller_core.specs.declared.stored.state.State.{State as Phases}
use Rattle.controller_core.specs.declared.stored.state.State.TheVariants.{Addressing as in_addressing, Connecting as in_connecting}
use Rattle.rounds_law.specs.Path.{Asks, AsksNothing, IsAddressed, IsIgnored, IsNamed, IsSized, request_to}
use Rattle.rounds_law.specs.Rounds.{BothExchange, Net}
use Rattle.rounds_law.specs.Middle.{IsConfirming, IsEnding, IsReadied, IsWaiting, IsWriting, waiting_limit, writing_limit}
use Rattle.rounds_law.specs.Stages.{IsAddressing, IsConnecting, IsLooking}
use Rattle.rounds_law.specs.Start.{CanBeAddressed, IsOfPlan, start_up_limit}
use Rattle.rounds_law.specs.Asking.{IsAskingAgain, Stage, stage_limit}
use Rattle.rounds_law.specs.Again.{HasEarlier, HasEnded, IsDeserted, IsRestart, Plant}
use Rattle.rounds_law.specs.Abandoned.{AsksInVain, Awaited, IsNewCall, IsReleasing, WaitsInVain, is_reached}

-- What the states below have in common: the controller will be started again with the next set-up. The device is the plan's, asks its
-- application nothing, and has stored no answer of the next start. What is under way to the controller it ignores.
pub record WillStart {F : Type 0} (setup next : Setup) (identity : Identity) (plant : Plant F) : Type 0 where
  pub ignored : AllByRecursion (IsIgnored setup) plant.net.to_controller
  pub ignored_next : AllByRecursion (IsIgnored next) plant.net.to_controller
  pub more : List Setup
  pub later : plant.later ≡ next ∷ more
  pub of_device : plant.net.device.station.identity ≡ identity
  pub of_plan : IsOfPlan setup plant.net.device.station plant.net.device.live.rest.real
  pub named : IsNamed setup plant.net.device.live
  pub sized : IsSized plant.net.device.live.values.running.suite
  pub addressed : IsAddressed setup plant.net.device.live ⊎ CanBeAddressed plant.net.device.live
  pub uncalled_next : kept_of next.activity plant.net.device.live.rest.calls ≡ None
  pub unasked : AsksNothing plant.net.device.live

-- The device has the relation of an earlier start, seen from either start, which ends after at most this many units if its controller is
-- silent.
abbrev pub IsEarlier : Setup → Setup → ℕ → Live → Type 0
IsEarlier setup next left live = HasEarlier setup left live × HasEarlier next left live

-- The request of the controller, the Set of the IP suite or the Connect, is under way to a device that has the relation of an earlier start.
pub record AsksBeside {F : Type 0} (setup next : Setup) (identity : Identity) (phase : Phases) (request : Request) (left : ℕ) (plant : Plant F) : Type 0 where
  pub will_start : WillStart setup next identity plant
  pub idle : plant.idle ≡ 0
  pub spare : ℕ
  pub asks : Asks setup identity.mac phase request None spare plant.net.controller
  pub under_way : plant.net.to_device ≡ request_to setup identity request ∷ []
  pub earlier : IsEarlier setup next left plant.net.device.live
  pub uncalled : kept_of setup.activity plant.net.device.live.rest.calls ≡ None

-- The controller has ended, and its pause is not over. The device has no relation, or that of an earlier start, which ends before the pause
-- if its controller is silent.
pub record IsStopped {F : Type 0} (setup next : Setup) (identity : Identity) (pause left : ℕ) (plant : Plant F) : Type 0 where
  pub will_start : WillStart setup next identity plant
  pub cause : Cause
  pub ended : HasEnded setup cause plant.net.controller
  pub nothing : plant.net.to_device ≡ []
  pub lasts : (plant.net.device.live.rest.link ≡ None) ⊎ IsEarlier setup next left plant.net.device.live
  pub time : left + plant.idle < pause

-- The Release is under way to a device that answers it, or the device does not have the IP address of the plan.
abbrev pub IsAnsweredOrNot : {F : Type 0} → Setup → Identity → ℕ → Net F → Type 0
IsAnsweredOrNot setup identity sequence net =
    ((is_reached setup net.device.live ≡ true) × IsNewCall setup sequence net.device.live
    × (net.to_device ≡ request_to setup identity (asks.Release sequence) ∷ []))
    ⊎ ((is_reached setup net.device.live ≡ false)
    × ((net.to_device ≡ []) ⊎ (net.to_device ≡ request_to setup identity (asks.Release sequence) ∷ [])))

-- The controller has ended, its pause is not over, and it waits for the response to its Release. The device has no relation.
pub record IsReleased {F : Type 0} (setup next : Setup) (identity : Identity) (pause : ℕ) (plant : Plant F) : Type 0 where
  pub will_start : WillStart setup next identity plant
  pub cause : Cause
  pub sequence : ℕ
  pub waited : ℕ
  pub numbered : sequence < 4294967296
  pub releasing : IsReleasing setup identity.mac cause sequence waited plant.net.controller
  pub unrelated : plant.net.device.live.rest.link ≡ None
  pub silent : plant.net.to_controller ≡ []
  pub under_way : IsAnsweredOrNot setup identity sequence plant.net
  pub time : plant.idle < pause

-- The states of the controller, and what the device has. Most of the numbers are units that are left: of the relation of an earlier start, of
-- the data hold time of the controller, until its last negative response, of its patience. `idle` units of the pause are over.
pub data From : Type 0 where
  Looking : From
  Addressing : From
  Connecting : From
  AskingAgain : (stage : Stage) → (waited : ℕ) → From
  Writing : (number : ℕ) → From
  Ending : From
  Waiting : (waited : ℕ) → From
  Readied : From
  Confirming : From
  Exchanging : From
  LookingBeside : (left : ℕ) → From
  AddressingBeside : (left : ℕ) → From
  ConnectingBeside : (left : ℕ) → From
  Deserted : (left : ℕ) → From
  Refused : (number : ℕ) → (left : ℕ) → From
  Unanswered : (awaited : Awaited) → (left : ℕ) → From
  Stopped : (left : ℕ) → (idle : ℕ) → From
  Released : (idle : ℕ) → From

-- Both ends, and the set-up with which the controller will be started again, are in such a state.
abbrev pub Comes : {F : Type 0} → Setup → Setup → Identity → ℕ → From → Plant F → Type 0
Comes setup next identity pause Looking plant = IsLooking setup identity plant.net
Comes setup next identity pause Addressing plant = IsAddressing setup identity plant.net
Comes setup next identity pause Connecting plant = IsConnecting setup identity plant.net
Comes setup next identity pause (AskingAgain stage waited) plant =
    (plant.net.controller.live.waited ≡ waited) × IsAskingAgain setup identity stage plant.net
Comes setup next identity pause (Writing number) plant = IsWriting setup identity number plant.net
Comes setup next identity pause Ending plant = IsEnding setup identity plant.net
Comes setup next identity pause (Waiting waited) plant = IsWaiting setup identity waited plant.net
Comes setup next identity pause Readied plant = IsReadied setup identity plant.net
Comes setup next identity pause Confirming plant = IsConfirming setup identity plant.net
Comes setup next identity pause Exchanging plant = BothExchange plant.net
Comes setup next identity pause (LookingBeside left) plant = (left ≤ pause) × IsRestart setup next identity left plant
Comes setup next identity pause (AddressingBeside left) plant = (left ≤ pause) × AsksBeside setup next identity in_addressing asks.Address left plant
Comes setup next identity pause (ConnectingBeside left) plant =
    (left ≤ pause) × IsAddressed setup plant.net.device.live × AsksBeside setup next identity in_connecting asks.Connect left plant
Comes setup next identity pause (Deserted left) plant = IsDeserted setup next identity left plant
Comes setup next identity pause (Refused number left) plant = AsksInVain setup next identity number left plant
Comes setup next identity pause (Unanswered awaited left) plant = WaitsInVain setup next identity awaited left plant
Comes setup next identity pause (Stopped left idle) plant = (plant.idle ≡ idle) × IsStopped setup next identity pause left plant
Comes setup next identity pause (Released idle) plant = (plant.idle ≡ idle) × IsReleased setup next identity pause plant

-- Within how many units both exchange data.
abbrev pub comes_within : Parts → ℕ → From → ℕ
comes_within plan pause Looking = start_up_limit plan
comes_within plan pause Addressing = write_count plan + 4
comes_within plan pause Connecting = write_count plan + 3
comes_within plan pause (AskingAgain stage waited) = 32000 - waited + stage_limit plan stage
comes_within plan pause (Writing number) = writing_limit plan number
comes_within plan pause Ending = 2
comes_within plan pause (Waiting waited) = waiting_limit waited
comes_within plan pause Readied = 2
comes_within plan pause Confirming = 1
comes_within plan pause Exchanging = 0
comes_within plan pause (LookingBeside left) = pause + start_up_limit plan + 1
comes_within plan pause (AddressingBeside left) = pause + start_up_limit plan
comes_within plan pause (ConnectingBeside left) = pause + start_up_limit plan
comes_within plan pause (Deserted left) = left + pause + start_up_limit plan
comes_within plan pause (Refused number left) = left + pause + start_up_limit plan
comes_within plan pause (Unanswered awaited left) = left + pause + start_up_limit plan
comes_within plan pause (Stopped left idle) = pause - idle + start_up_limit plan
comes_within plan pause (Released idle) = pause - idle + start_up_limit plan
