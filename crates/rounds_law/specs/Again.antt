-- A controller that starts while its device may still have the relation of an earlier start. If it ends, it is started again.
use Rattle.std.specs.Prelude.{◌≡◌, ◌⊎◌, ◌≤◌, ◌+◌, ◌-◌, ◌<◌, ℕ, zero, suc, true, false, nat_le, List, [], ◌∷◌, ◌++◌, if◌then◌else◌, Some, None}
use Rattle.std.specs.List.{AllByRecursion}
use Rattle.flash_model.specs.declared.flash.Flash.{Ghosts as Flash}
use Rattle.pn_values.specs.declared.identity.Identity.{Identity}
use Rattle.pn_values.specs.declared.mac.Mac.{Mac}
use Rattle.pn_alarms.specs.declared.abort.Abort.{Abort}
use Rattle.pn_alarms.specs.declared.pdu.Header.{Header}
use Rattle.controller_messages.specs.Sent.{Ends, bytes_of as controller_bytes}
use Rattle.pn_values.specs.declared.set_item.BlockError.TheVariants.{InOperation}
use Rattle.rpc_core.specs.declared.response.Status.{Status}
use Rattle.rpc_core.specs.Response.{answer_to, is_done}
use Rattle.rpc_core.specs.Sendable.{CanBeAnswered, IsUuid}
use Rattle.relations.specs.RelationState.{RelationState}
use Rattle.relations.specs.Timers.{is_timed, limit_of}
use Rattle.relations.specs.exchange.Opening.{route_of as inputs_route}
use Rattle.rpc_core.specs.Cache.{kept_of}
use Rattle.device_frames.specs.Sent.{SetAnswer, bytes_of as device_bytes, response_frame}
use Rattle.device_core.specs.State.{Live}
use Rattle.device_core.specs.Handled.{partner_of}
use Rattle.controller_messages.specs.declared.request.Request.{Request}
use Rattle.controller_messages.specs.declared.request.Request.TheVariants as asks
use Rattle.controller_messages.specs.declared.setup.Setup.{Setup}
use Rattle.controller_messages.specs.Requests.{address_asked, call_for}
use Rattle.controller_core.specs.declared.stored.state.State.TheVariants.{Ended, Exchanging}
use Rattle.controller_core.specs.declared.stored.state.Cause.{Cause}
use Rattle.controller_core.specs.declared.stored.state.Cause.TheVariants.{DataHold}
use Rattle.controller_core.specs.start_up.Answers.{is_state_conflict}
use Rattle.controller_core.specs.stored.State.{Controlling}
use Rattle.controller_core.specs.Machine.{Stepped, first as first_live, opening_of}
use Rattle.network_world.specs.World.{is_ended}
use Rattle.end_laws.specs.device.Orderly.{AreNumbered}
use Rattle.both_ends.specs.startup.request.Request.{request_for}
use Rattle.both_ends.specs.startup.answer.Answer.{caller_of}
use Rattle.rounds_law.specs.Path.{AllAnswered, AsksNothing, HasNoTurn, IsAddressed, IsIgnored, IsNamed, IsOutputs, IsSized, route_to}
use Rattle.rounds_law.specs.Rounds.{BothExchange, Net, Round}
use Rattle.rounds_law.specs.Start.{CanBeAddressed, IsOfPlan}

-- ---- the device

-- The units until a relation ends if its controller is silent: before data is exchanged, the rest of its activity time; while data is
-- exchanged, the rest of its data hold time.
abbrev pub units_left : RelationState → ℕ
units_left link =
    if is_timed link.phase then limit_of link - link.inactive else link.flow.cyclic.hearing.limit - link.flow.cyclic.hearing.held

-- The device has the relation of an earlier start of this controller, of any number, with another ARUUID. If the controller is silent, the relation ends
-- after at most this many units. The numbers of its calls for plugs have their sizes. Nothing is asked of its application.
pub record HasEarlier (setup : Setup) (left : ℕ) (live : Live) : Type 0 where
  pub link : RelationState
  pub has : live.rest.link ≡ Some link
  pub ar : List ℕ
  pub ar_sized : IsUuid ar
  pub other : ar ≡ setup.ar → ⊥
  pub request : link.request ≡ request_for setup.plan ar
  pub partner : link.partner ≡ partner_of (caller_of setup.plan.controller)
  pub serial : ℕ
  pub few : serial < 14336
  pub route : link.flow.cyclic.route ≡ inputs_route serial (request_for setup.plan ar)
  pub begun : link.flow.cyclic.begun ≡ (if is_timed link.phase then false else true)
  pub called : AreNumbered link.plugs.calls
  pub time : units_left link ≤ left
  pub unasked : AsksNothing live

-- ---- the frames of a device that refuses

-- A negative response to a call.
pub record IsDenial (setup : Setup) (identity : Identity) (request : Request) (octets : List ℕ) : Type 0 where
  pub status : Status
  pub negative : is_done status ≡ false
  pub fits : CanBeAnswered (answer_to (call_for setup request) status [])
  pub frame : octets ≡ response_frame identity (caller_of setup.plan.controller) setup.plan.station.suite.address
      (answer_to (call_for setup request) status [])

-- A negative response to the Connect.
abbrev pub IsRefusal : Setup → Identity → List ℕ → Type 0
IsRefusal setup identity octets = IsDenial setup identity asks.Connect octets

-- One that does not say that the device holds this relation already.
abbrev pub IsOtherRefusal : Setup → Identity → List ℕ → Type 0
IsOtherRefusal setup identity octets = (refusal : IsRefusal setup identity octets) × (is_state_conflict refusal.status ≡ false)

-- The answer to the Set of the IP suite while a relation exists: its BlockError says that the Set is not possible in operation.
abbrev pub unset_frame : Setup → Identity → List ℕ
unset_frame setup identity = device_bytes identity (SetAnswer setup.plan.controller.mac (address_asked setup.plan) (InOperation ∷ []))

-- ---- the controller

-- The controller has ended for this cause. It has no open request.
pub record HasEnded (setup : Setup) (cause : Cause) (controller : Controlling) : Type 0 where
  pub of_setup : controller.setup ≡ setup
  pub in_phase : controller.live.phase ≡ Ended cause
  pub unasked : controller.live.asked ≡ None
  pub unestablished : controller.live.stands ≡ false
  pub alone : AllAnswered controller.live.access

-- It exchanges data, in a relation of this number at the device, and no frame of its device comes: its data hold time, which runs, lasts this many units at most. No AlarmAck waits for
-- its ACK, no request of the application is open, and none after a plug, and no place waits for its turn.
pub record IsAlone (setup : Setup) (serial : ℕ) (device : Mac) (left : ℕ) (controller : Controlling) : Type 0 where
  pub of_setup : controller.setup ≡ setup
  pub in_phase : controller.live.phase ≡ Exchanging
  pub established : controller.live.stands ≡ true
  pub few : serial < 14336
  pub route : controller.live.cyclic.route ≡ route_to device serial
  pub high : controller.live.alarms.sending.waiting ≡ None
  pub low : controller.live.low_alarms.sending.waiting ≡ None
  pub unasked : controller.live.asked ≡ None
  pub alone : controller.live.access.waiting ≡ None
  pub turnless : HasNoTurn controller.live
  pub begun : controller.live.cyclic.begun ≡ true
  pub time : controller.live.cyclic.hearing.limit - controller.live.cyclic.hearing.held ≤ left

-- Its ERR.
pub record IsEnd (setup : Setup) (serial : ℕ) (device : Mac) (octets : List ℕ) : Type 0 where
  pub header : Header
  pub reason : Abort
  pub few : serial < 14336
  pub frame : octets ≡ controller_bytes setup (Ends (route_to device serial) header reason)

-- It has ended by its data hold time, and its ERR is all that it sends.
pub record HasLeft (setup : Setup) (serial : ℕ) (device : Mac) (step : Stepped) : Type 0 where
  pub octets : List ℕ
  pub frames : step.frames ≡ octets ∷ []
  pub end : IsEnd setup serial device octets
  pub ended : HasEnded setup DataHold step.controller

-- It has a unit less, and sends outputs at most.
pub record HasWaited (setup : Setup) (serial : ℕ) (device : Mac) (left : ℕ) (step : Stepped) : Type 0 where
  pub fewer : ℕ
  pub less : left ≡ suc fewer
  pub outputs : AllByRecursion (IsOutputs setup (Some serial) device) step.frames
  pub alone : IsAlone setup serial device fewer step.controller

-- ---- a controller that is started again

-- Both ends, the set-ups with which the controller will be started again, and the units since it ended.
pub record Plant (F : Type 0) : Type 0 where
  pub net : Net F
  pub later : List Setup
  pub idle : ℕ

-- A controller that was just made from this set-up.
abbrev pub made : Setup → Controlling
made setup = record { setup = setup; live = first_live setup.plan }

-- The controller was just made from this set-up, and its Identify is under way, after the frames that were under way before.
abbrev pub begun_with : {F : Type 0} → Setup → Net F → Net F
begun_with setup net = record net { controller = made setup; to_device = net.to_device ++ opening_of (made setup) ∷ [] }

-- The controller is started again with the next set-up, if there is one.
abbrev pub started : {F : Type 0} → List Setup → Net F → ℕ → Plant F
started [] net idle = record { net = net; later = []; idle = idle }
started (setup ∷ later) net idle = record { net = begun_with setup net; later = later; idle = 0 }

-- What follows a round: a controller that has ended is started again after a pause of this many units.
abbrev pub after_round : {F : Type 0} → ℕ → Plant F → Net F → Plant F
after_round pause before net =
    if is_ended net.controller.live.phase
    then (if nat_le pause (before.idle + 1)
    then started before.later net (before.idle + 1)
    else record { net = net; later = before.later; idle = before.idle + 1 })
    else record { net = net; later = before.later; idle = 0 }

-- A round of both ends, and then the start of a controller that has ended, if its pause is over.
pub record PlantRound {F : Type 0} {S : ℕ} (as_flash : Flash F S) (pause : ℕ) (before after : Plant F) : Type 0 where
  pub net : Net F
  pub round : Round as_flash before.net net
  pub goes_on : after ≡ after_round pause before net

-- In each run both ends exchange data after at most this many rounds.
abbrev pub LeadsBack : {F : Type 0} {S : ℕ} → Flash F S → ℕ → ℕ → Plant F → Type 0
LeadsBack as_flash pause zero plant = BothExchange plant.net
LeadsBack {F} as_flash pause (suc limit) plant =
    BothExchange plant.net ⊎ ((next : Plant F) → PlantRound as_flash pause plant next → LeadsBack as_flash pause limit next)

-- ---- a start at such a device

-- Two starts of the same controller: the same plan and options, another ARUUID and other calls.
pub record AreStarts (setup next : Setup) : Type 0 where
  pub plan : next.plan ≡ setup.plan
  pub options : next.options ≡ setup.options
  pub calls : next.activity ≡ setup.activity → ⊥

-- The controller was just made, and its Identify is under way. The device still has the relation of an earlier start, which ends after at
-- most this many units if its controller is silent. The frames that are under way to the controller are ones that it ignores. If it ends,
-- it is started again with the next set-up.
pub record IsRestart {F : Type 0} (setup next : Setup) (identity : Identity) (left : ℕ) (plant : Plant F) : Type 0 where
  pub of_setup : plant.net.controller.setup ≡ setup
  pub made : plant.net.controller.live ≡ first_live setup.plan
  pub opened : plant.net.to_device ≡ opening_of plant.net.controller ∷ []
  pub ignored : AllByRecursion (IsIgnored setup) plant.net.to_controller
  pub ignored_next : AllByRecursion (IsIgnored next) plant.net.to_controller
  pub more : List Setup
  pub later : plant.later ≡ next ∷ more
  pub of_device : plant.net.device.station.identity ≡ identity
  pub of_plan : IsOfPlan setup plant.net.device.station plant.net.device.live.rest.real
  pub named : IsNamed setup plant.net.device.live
  pub sized : IsSized plant.net.device.live.values.running.suite
  pub addressed : IsAddressed setup plant.net.device.live ⊎ CanBeAddressed plant.net.device.live
  pub earlier : HasEarlier setup left plant.net.device.live
  pub earlier_next : HasEarlier next left plant.net.device.live
  pub uncalled : kept_of setup.activity plant.net.device.live.rest.calls ≡ None
  pub uncalled_next : kept_of next.activity plant.net.device.live.rest.calls ≡ None

-- The device lost its power while data was exchanged, and has started again: it has no relation, asks its application nothing, and has stored no
-- answer of the next start.
-- Its controller still exchanges data. Only outputs are under way to the device, and nothing to the controller.
pub record IsDeserted {F : Type 0} (setup next : Setup) (identity : Identity) (left : ℕ) (plant : Plant F) : Type 0 where
  pub serial : ℕ
  pub alone : IsAlone setup serial identity.mac left plant.net.controller
  pub outputs : AllByRecursion (IsOutputs setup (Some serial) identity.mac) plant.net.to_device
  pub silent : plant.net.to_controller ≡ []
  pub more : List Setup
  pub later : plant.later ≡ next ∷ more
  pub idle : plant.idle ≡ 0
  pub of_device : plant.net.device.station.identity ≡ identity
  pub of_plan : IsOfPlan setup plant.net.device.station plant.net.device.live.rest.real
  pub named : IsNamed setup plant.net.device.live
  pub sized : IsSized plant.net.device.live.values.running.suite
  pub addressed : IsAddressed setup plant.net.device.live ⊎ CanBeAddressed plant.net.device.live
  pub unrelated : plant.net.device.live.rest.link ≡ None
  pub unasked : AsksNothing plant.net.device.live
  pub uncalled_next : kept_of next.activity plant.net.device.live.rest.calls ≡ None
