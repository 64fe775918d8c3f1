-- A controller in the middle of its start-up whose device has no relation any more. If it ends, it is started again.
use Rattle.std.specs.Prelude.{◌≡◌, ◌⊎◌, ◌≤◌, ◌<◌, ◌+◌, ◌-◌, ◌++◌, ℕ, Bool, true, false, List, [], ◌∷◌, if◌then◌else◌, Option, Some, None}
use Rattle.std.specs.List.{AllByRecursion}
use Rattle.pn_values.specs.declared.identity.Identity.{Identity}
use Rattle.pn_values.specs.declared.mac.Mac.{Mac}
use Rattle.rpc_core.specs.Cache.{kept_of, looked, new}
use Rattle.plans.specs.declared.parts.Parts.{Parts}
use Rattle.device_core.specs.State.{Live}
use Rattle.device_core.specs.Handled.{is_running}
use Rattle.device_core.specs.Machine.{Stepped as DeviceStepped}
use Rattle.controller_messages.specs.declared.request.Request.{Request}
use Rattle.controller_messages.specs.declared.request.Request.TheVariants as asks
use Rattle.controller_messages.specs.declared.setup.Setup.{Setup}
use Rattle.controller_messages.specs.Requests.{sequence_of, write_count, writing_from}
use Rattle.controller_core.specs.declared.stored.state.State.{State as Phases}
use Rattle.controller_core.specs.declared.stored.state.State.TheVariants.{Ended, Waiting}
use Rattle.controller_core.specs.declared.stored.state.Cause.{Cause}
use Rattle.controller_core.specs.start_up.Answers.{is_busy}
use Rattle.controller_core.specs.start_up.Requests.{tried_as}
use Rattle.controller_core.specs.stored.State.{Controlling, phase_for}
use Rattle.controller_core.specs.Machine.{Stepped}
use Rattle.rounds_law.specs.Path.{AllAnswered, AsksNothing, IsAddressed, IsNamed, IsOutputs, IsSized, request_to, route_to}
use Rattle.rounds_law.specs.Start.{CanBeAddressed, IsOfPlan}
use Rattle.rounds_law.specs.Repeating.{completes, counts_on}
use Rattle.rounds_law.specs.Again.{HasEnded, IsDenial, Plant}
use Rattle.rounds_law.specs.Rounds.{Net}

-- ---- the device

-- The device uses the IP address of the plan. A device that lost its power may have none.
abbrev pub is_reached : Setup → Live → Bool
is_reached setup live = is_running live.values.running setup.plan.station.suite.address

-- No stored answer is one of the call with this number, or of a later one.
abbrev pub IsNewCall : Setup → ℕ → Live → Type 0
IsNewCall setup number live = looked setup.activity number live.rest.calls ≡ new

-- A call that belongs to a relation: a Write, PrmEnd, or a Release.
abbrev pub IsOfRelation : Request → Type 0
IsOfRelation asks.Identify = ⊥
IsOfRelation asks.Address = ⊥
IsOfRelation asks.Connect = ⊥
IsOfRelation (asks.Write number) = Unit {0}
IsOfRelation asks.PrmEnd = Unit {0}
IsOfRelation (asks.Release sequence) = Unit {0}
IsOfRelation (asks.WriteAfter number tries) = Unit {0}
IsOfRelation (asks.PrmEndAfter tries) = Unit {0}

-- A device without a relation sends a negative response to this call, and not because it is busy. It still has no relation, and asks its
-- application nothing. A later call is still a new one, and it has stored no answer of another activity.
pub record Denies (setup : Setup) (identity : Identity) (request : Request) (live : Live) (step : DeviceStepped) : Type 0 where
  pub octets : List ℕ
  pub frames : step.frames ≡ octets ∷ []
  pub denial : IsDenial setup identity request octets
  pub ready : is_busy denial.status ≡ false
  pub values : step.live.values ≡ live.values
  pub unrelated : step.live.rest.link ≡ None
  pub unasked : AsksNothing step.live
  pub newer : (later : ℕ) → sequence_of setup.plan request < later → IsNewCall setup later step.live
  pub uncalled : (activity : List ℕ) → (activity ≡ setup.activity → ⊥) → kept_of activity live.rest.calls ≡ None
      → kept_of activity step.live.rest.calls ≡ None

-- ---- the controller

-- What a controller waits for after its Connect: the response to its Write with this number, or to PrmEnd after the last Write; or
-- ApplicationReady.
pub data Awaited : Type 0 where
  Response : (number : ℕ) → Awaited
  Readiness : Awaited

-- Its request, if it waits for a response.
abbrev pub asked_for : Parts → Awaited → Option Request
asked_for plan (Response number) = Some (writing_from plan number)
asked_for plan Readiness = None

-- Its state.
abbrev pub phase_at : Parts → Awaited → Phases
phase_at plan (Response number) = phase_for (writing_from plan number)
phase_at plan Readiness = Waiting

-- The number of its last call: the Connect has number 0, the first Write number 1.
abbrev pub last_call : Parts → Awaited → ℕ
last_call plan (Response number) = number + 1
last_call plan Readiness = write_count plan + 1

-- There is such a Write, or PrmEnd follows the last one.
abbrev pub IsInPlan : Parts → Awaited → Type 0
IsInPlan plan (Response number) = number ≤ write_count plan
IsInPlan plan Readiness = Unit {0}

-- The controller waits for this. Its relation is established, with this number at the device, and no alarm waits for its ACK. Its application
-- has made no request.
pub record Expects (setup : Setup) (serial : ℕ) (device : Mac) (awaited : Awaited) (controller : Controlling) : Type 0 where
  pub of_setup : controller.setup ≡ setup
  pub in_phase : controller.live.phase ≡ phase_at setup.plan awaited
  pub asked : controller.live.asked ≡ asked_for setup.plan awaited
  pub of_device : controller.live.device ≡ device
  pub established : controller.live.stands ≡ true
  pub few : serial < 14336
  pub route : controller.live.cyclic.route ≡ route_to device serial
  pub high : controller.live.alarms.sending.waiting ≡ None
  pub low : controller.live.low_alarms.sending.waiting ≡ None
  pub alone : AllAnswered controller.live.access
  pub uncalled : controller.live.access.calls ≡ 0
  pub unbegun : controller.live.cyclic.begun ≡ false

-- It has ended for this cause, and waits for the response to its Release with this number, which it sent this many units ago.
pub record IsReleasing (setup : Setup) (device : Mac) (cause : Cause) (sequence waited : ℕ) (controller : Controlling) : Type 0 where
  pub of_setup : controller.setup ≡ setup
  pub in_phase : controller.live.phase ≡ Ended cause
  pub asked : controller.live.asked ≡ Some (asks.Release sequence)
  pub of_device : controller.live.device ≡ device
  pub unestablished : controller.live.stands ≡ false
  pub alone : AllAnswered controller.live.access
  pub waits : controller.live.waited ≡ waited

-- It ends for this cause, and sends a Release, whose number follows the number of its last call. It sends nothing else.
pub record Releases (setup : Setup) (identity : Identity) (cause : Cause) (last : ℕ) (step : Stepped) : Type 0 where
  pub sequence : ℕ
  pub later : last < sequence
  pub numbered : sequence < 4294967296
  pub frames : step.frames ≡ request_to setup identity (asks.Release sequence) ∷ []
  pub releasing : IsReleasing setup identity.mac cause sequence 0 step.controller

-- It sends the request that follows the Write with this number, and waits for its response. The patience is the same if that is a Write, and
-- begins again if it is PrmEnd.
pub record WritesNext (setup : Setup) (serial : ℕ) (identity : Identity) (number : ℕ) (before : Controlling) (step : Stepped) : Type 0 where
  pub below : number < write_count setup.plan
  pub goes_on : setup.plan.continue_on_refused_record ≡ true
  pub frames : step.frames ≡ request_to setup identity (writing_from setup.plan (number + 1)) ∷ []
  pub expects : Expects setup serial identity.mac (Response (number + 1)) step.controller
  pub waits : step.controller.live.waited ≡ 0
  pub left : (step.controller.live.left ≡ before.live.left) ⊎ (step.controller.live.left ≡ setup.options.patience)

-- It ends for this cause: it sends nothing, or a Release.
abbrev pub EndsFor : Setup → Identity → Cause → ℕ → Stepped → Type 0
EndsFor setup identity cause last step =
    ((step.frames ≡ []) × HasEnded setup cause step.controller) ⊎ Releases setup identity cause last step

-- What is sent when a second is over since a request was sent.
abbrev pub repeated : Setup → Identity → Awaited → List (List ℕ)
repeated setup identity (Response number) = request_to setup identity (writing_from setup.plan number) ∷ []
repeated setup identity Readiness = []

-- After a response that says that the device is busy: the controller sends nothing, and its request is the next try of the same call.
pub record TriesAgain (setup : Setup) (number : ℕ) (step : Stepped) : Type 0 where
  pub silent : step.frames ≡ []
  pub asked : step.controller.live.asked ≡ tried_as (writing_from setup.plan number)

-- It still waits after a unit. The unit that completes a second sends the request again. Outputs may follow.
pub record StillExpects (setup : Setup) (serial : ℕ) (identity : Identity) (awaited : Awaited) (before : Controlling) (step : Stepped) : Type 0 where
  pub expects : Expects setup serial identity.mac awaited step.controller
  pub waits : step.controller.live.waited ≡ counts_on before.live.waited
  pub left : step.controller.live.left ≡ before.live.left - 1
  pub outputs : List (List ℕ)
  pub are : AllByRecursion (IsOutputs setup (Some serial) identity.mac) outputs
  pub frames : step.frames ≡ (if completes before.live.waited then repeated setup identity awaited else []) ++ outputs

-- ---- both

-- The controller waits for this, and will be started again with the next set-up if it ends. Its device is the plan's, has no relation, asks its
-- application nothing, and has stored no answer of the next start. Nothing is under way to the controller.
pub record IsAbandoned {F : Type 0} (setup next : Setup) (identity : Identity) (awaited : Awaited) (plant : Plant F) : Type 0 where
  pub serial : ℕ
  pub expects : Expects setup serial identity.mac awaited plant.net.controller
  pub in_plan : IsInPlan setup.plan awaited
  pub silent : plant.net.to_controller ≡ []
  pub more : List Setup
  pub later : plant.later ≡ next ∷ more
  pub idle : plant.idle ≡ 0
  pub of_device : plant.net.device.station.identity ≡ identity
  pub of_plan : IsOfPlan setup plant.net.device.station plant.net.device.live.rest.real
  pub named : IsNamed setup plant.net.device.live
  pub sized : IsSized plant.net.device.live.values.running.suite
  pub addressed : IsAddressed setup plant.net.device.live ⊎ CanBeAddressed plant.net.device.live
  pub unrelated : plant.net.device.live.rest.link ≡ None
  pub unasked : AsksNothing plant.net.device.live
  pub uncalled_next : kept_of next.activity plant.net.device.live.rest.calls ≡ None

-- The number of negative responses until the controller ends: one, or, if the plan goes on after a refused record, one for each Write that
-- is left and one for PrmEnd.
abbrev pub denials_left : Parts → ℕ → ℕ
denials_left plan number = if plan.continue_on_refused_record then write_count plan + 1 - number else 1

-- The units until the device has its request: none if it is under way, else the rest of the second after which it is sent again.
abbrev pub units_to_request : Bool → Controlling → ℕ
units_to_request true controller = 0
units_to_request false controller = 32000 - controller.live.waited

-- The units until the last negative response.
abbrev pub units_to_denial : Parts → ℕ → Bool → Controlling → ℕ
units_to_denial plan number sent controller = units_to_request sent controller + denials_left plan number

-- The patience of its state is off, or not shorter than this many units.
abbrev pub LastsFor : ℕ → Controlling → Type 0
LastsFor units controller = (controller.live.left ≡ 0) ⊎ (units ≤ controller.live.left)

-- The device is reached, and the request of the controller is under way to it, with outputs after it, or outputs alone are, and the request
-- will be sent again. It is a new call there. The controller ends after at most this many units by negative responses; its patience is
-- not shorter.
pub record AsksInVain {F : Type 0} (setup next : Setup) (identity : Identity) (number left : ℕ) (plant : Plant F) : Type 0 where
  pub at : IsAbandoned setup next identity (Response number) plant
  pub reached : is_reached setup plant.net.device.live ≡ true
  pub new_call : IsNewCall setup (number + 1) plant.net.device.live
  pub sent : Bool
  pub unrepeated : plant.net.controller.live.waited < 32000
  pub outputs : List (List ℕ)
  pub are : AllByRecursion (IsOutputs setup (Some at.serial) identity.mac) outputs
  pub under_way : plant.net.to_device ≡ (if sent then request_to setup identity (writing_from setup.plan number) ∷ outputs else outputs)
  pub patient : LastsFor (units_to_denial setup.plan number sent plant.net.controller) plant.net.controller
  pub time : units_to_denial setup.plan number sent plant.net.controller ≤ left

-- The request of the controller comes to a device that drops it.
abbrev pub IsRequest : Setup → Identity → Awaited → List ℕ → Type 0
IsRequest setup identity (Response number) octets = octets ≡ request_to setup identity (writing_from setup.plan number)
IsRequest setup identity Readiness octets = ⊥

-- The device does not have the IP address of the plan. Requests, and outputs in a relation of this number, are under way to it.
pub record IsUnreached {F : Type 0} (setup : Setup) (serial : ℕ) (identity : Identity) (awaited : Awaited) (net : Net F) : Type 0 where
  pub unreached : is_reached setup net.device.live ≡ false
  pub under_way : AllByRecursion (λ octets. IsOutputs setup (Some serial) identity.mac octets ⊎ IsRequest setup identity awaited octets) net.to_device

-- The patience of the controller ends before it sends a request again.
abbrev pub IsUnrepeated : Awaited → Controlling → Type 0
IsUnrepeated (Response number) controller = controller.live.left + controller.live.waited ≤ 32000
IsUnrepeated Readiness controller = Unit {0}

-- Only outputs, in a relation of this number, are under way to the device, and no request will be sent. A Release is a new call there.
pub record IsUnasked {F : Type 0} (setup : Setup) (serial : ℕ) (identity : Identity) (awaited : Awaited) (net : Net F) : Type 0 where
  pub outputs : AllByRecursion (IsOutputs setup (Some serial) identity.mac) net.to_device
  pub unrepeated : IsUnrepeated awaited net.controller
  pub new_call : IsNewCall setup (last_call setup.plan awaited + 1) net.device.live

-- Nothing will be answered. The state of the controller has a patience, which ends after at most this many units.
pub record WaitsInVain {F : Type 0} (setup next : Setup) (identity : Identity) (awaited : Awaited) (left : ℕ) (plant : Plant F) : Type 0 where
  pub at : IsAbandoned setup next identity awaited plant
  pub limited : 1 ≤ plant.net.controller.live.left
  pub time : plant.net.controller.live.left ≤ left
  pub unheard : IsUnreached setup at.serial identity awaited plant.net ⊎ IsUnasked setup at.serial identity awaited plant.net
