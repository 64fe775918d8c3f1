-- The stations of a start-up that succeeds: what the device and the controller are after each of its rounds, and which frames go
-- between them.
use Rattle.std.specs.Prelude.{◌≡◌, ◌≤◌, ◌<◌, ◌+◌, ◌*◌, ◌⊎◌, ℕ, true, false, List, [], ◌∷◌, Option, Some, None, is_some, length}
use Rattle.pn_values.specs.IpSuite.{Suite}
use Rattle.pn_values.specs.declared.identity.Identity.{Identity}
use Rattle.pn_values.specs.declared.mac.Mac.{Mac}
use Rattle.frame_codec.specs.declared.udp.Caller.{Caller}
use Rattle.rpc_core.specs.declared.interface.Interface.TheVariants.{Controller as controllers}
use Rattle.rpc_core.specs.Interface.{interface_uuid}
use Rattle.rpc_core.specs.Cache.{Kept, kept_of}
use Rattle.rpc_core.specs.Response.{answer_to}
use Rattle.rpc_core.specs.Sendable.{CanBeAnswered}
use Rattle.connect_blocks.specs.declared.control.ControlBlock.{ControlBlock}
use Rattle.block_codec.specs.declared.block.Block.TheVariants as is
use Rattle.block_codec.specs.Block.{block_bytes}
use Rattle.records.specs.declared.writes.taken.TakenRecord.{TakenRecord}
use Rattle.records.specs.status.Status.{done}
use Rattle.cyclic_data.specs.declared.status.StationState.{StationState}
use Rattle.cyclic_data.specs.Image.{Shown}
use Rattle.cyclic_data.specs.declared.exchange.route.Route.{Route}
use Rattle.cyclic_data.specs.exchange.Cyclic.{Cyclic}
use Rattle.plans.specs.declared.parts.Parts.{Parts}
use Rattle.plans.specs.Connect.{initiator_object}
use Rattle.plans.specs.Numbers.{session_number}
use Rattle.pn_alarms.specs.declared.pdu.Header.{Header}
use Rattle.pn_alarms.specs.Device.{idle}
use Rattle.pn_alarms.specs.declared.pdu.PduType.TheVariants as pdu
use Rattle.record_blocks.specs.declared.alarm_notification.AlarmNotification.{AlarmNotification}
use Rattle.block_codec.specs.Writable.{IsAlarm}
use Rattle.diagnosis.specs.Sendable.{IsHeader}
use Rattle.relations.specs.declared.phase.Phase.{Phase}
use Rattle.relations.specs.declared.phase.Phase.TheVariants.{Started, Preparing, Awaiting, Exchanging as in_exchange}
use Rattle.relations.specs.declared.ready.Ready.{Ready}
use Rattle.relations.specs.Numbers.{endpoint_of}
use Rattle.relations.specs.exchange.Flow.{Flow}
use Rattle.relations.specs.exchange.Frames.{Inputs, Reports}
use Rattle.relations.specs.exchange.Opening.{route_of as inputs_route}
use Rattle.relations.specs.RelationState.{RelationState}
use Rattle.pn_values.specs.declared.settings.Settings.{Settings}
use Rattle.pn_values.specs.declared.set_item.BlockError.TheVariants.{Done}
use Rattle.device_frames.specs.Sent.{Exchanges as device_exchanges, IdentifyAnswer, SetAnswer, bytes_of as device_bytes, ready_frame, response_frame}
use Rattle.device_core.specs.State.{Live, Station}
use Rattle.device_core.specs.Handled.{partner_of}
use Rattle.device_core.specs.Machine.{heard_step}
use Rattle.device_core.specs.Machine.{Stepped as DeviceStepped}
use Rattle.device_frames.specs.Heard.{heard_of}
use Rattle.settings_journal.specs.settings_store.Machine.{Outcome}
use Rattle.end_laws.specs.hearing.Hearing.{comes}
use Rattle.controller_messages.specs.declared.request.Request.{Request}
use Rattle.controller_messages.specs.declared.request.Request.TheVariants as asks
use Rattle.controller_messages.specs.declared.setup.Setup.{Setup}
use Rattle.controller_messages.specs.Access.{Accessing}
use Rattle.controller_messages.specs.Requests.{address_asked, call_for}
use Rattle.controller_messages.specs.Sent.{Agrees, Requests, Cycles, bytes_of as controller_bytes, calls_at, ready_answer}
use Rattle.controller_core.specs.declared.start_up.outcomes.Outcomes.TheVariants.{AllWritten}
use Rattle.controller_core.specs.declared.stored.state.State.{State as Phases}
use Rattle.controller_core.specs.declared.stored.state.State.TheVariants.{Addressing, Connecting, Exchanging, Looking}
use Rattle.controller_core.specs.declared.stored.event.Event.TheVariants.{Frame}
use Rattle.controller_core.specs.Machine.{Stepped, step_of}
use Rattle.controller_core.specs.start_up.Outcomes.{outcomes_of}
use Rattle.controller_core.specs.stored.Opening.{route_of as outputs_route}
use Rattle.controller_core.specs.stored.State.{Controlling, Live as ControllerLive}
use Rattle.plan_places.specs.Places.{next_waiting}
use Rattle.end_laws.specs.hearing.Stations.{ready_call}
use Rattle.both_ends.specs.startup.request.Request.{request_for}
use Rattle.both_ends.specs.startup.answer.Answer.{caller_of}

-- ---- the device

-- Nothing is asked of its application.
abbrev pub AsksNothing : Live → Type 0
AsksNothing live = live.rest.asked.standing ≡ None

-- The device uses the plan's station name.
pub record IsNamed (setup : Setup) (live : Live) : Type 0 where
  pub name : live.values.running.name ≡ setup.plan.station.name

-- The address, the mask and the gateway of an IP suite have four octets each.
pub record IsSized (suite : Suite) : Type 0 where
  pub address : length suite.address ≡ 4
  pub mask : length suite.mask ≡ 4
  pub gateway : length suite.gateway ≡ 4

-- The device uses the plan's IP suite.
pub record IsAddressed (setup : Setup) (live : Live) : Type 0 where
  pub suite : live.values.running.suite ≡ setup.plan.station.suite

-- The device has no relation, asks its application nothing, and has stored no response to this controller.
pub record IsFree (setup : Setup) (live : Live) : Type 0 where
  pub unrelated : live.rest.link ≡ None
  pub unasked : AsksNothing live
  pub uncalled : kept_of setup.activity live.rest.calls ≡ None

-- No alarm of either priority waits for its ACK.
pub record IsCalm (flow : Flow) : Type 0 where
  pub high : flow.alarms.sender.sending.waiting ≡ None
  pub low : flow.low.alarms.sender.sending.waiting ≡ None

-- The data hold time of both ends, in units.
abbrev pub hold_of : Parts → ℕ
hold_of plan = plan.times.data_hold_factor * (plan.times.send_clock_factor * plan.times.reduction_ratio)

-- While the device waits for the response to ApplicationReady: it sent it at most this many units ago.
abbrev pub WaitedFew : Phase → ℕ → ℕ → Type 0
WaitedFew Started age waited = Unit {0}
WaitedFew Preparing age waited = Unit {0}
WaitedFew Awaiting age waited = waited ≤ age
WaitedFew in_exchange age waited = Unit {0}

-- A relation has this number at the device: in it are the FrameID of its outputs and the endpoint of its alarms.
pub record HasNumber (setup : Setup) (serial : ℕ) (flow : Flow) : Type 0 where
  pub few : serial < 14336
  pub route : flow.cyclic.route ≡ inputs_route serial (request_for setup.plan setup.ar)
  pub endpoint : flow.endpoint ≡ endpoint_of serial

-- The device has the plan's relation, of this number, in a phase before data is exchanged. It accepted these records, and the last call
-- that it answered has this sequence number. Its timers have run for at most this many units. No alarm of low priority was sent or accepted,
-- and nothing is asked of its application.
pub record HasRelation (setup : Setup) (serial : ℕ) (phase : Phase) (taken : List TakenRecord) (last : ℕ) (age : ℕ) (live : Live) : Type 0 where
  pub link : RelationState
  pub has : live.rest.link ≡ Some link
  pub in_phase : link.phase ≡ phase
  pub request : link.request ≡ request_for setup.plan setup.ar
  pub partner : link.partner ≡ partner_of (caller_of setup.plan.controller)
  pub taken_all : link.taken ≡ taken
  pub active : link.inactive ≤ age
  pub waited : WaitedFew phase age link.waited
  pub calm : IsCalm link.flow
  pub numbered : HasNumber setup serial link.flow
  pub unbegun : link.flow.cyclic.begun ≡ false
  pub limit : link.flow.cyclic.hearing.limit ≡ hold_of setup.plan
  pub low_limit : 3200 ≤ link.flow.low.alarms.sender.sending.limit
  pub low_new : link.flow.low.alarms ≡ idle 1 3
  pub kept : Kept
  pub answered : kept_of setup.activity live.rest.calls ≡ Some kept
  pub number : kept.sequence ≡ last
  pub unasked : AsksNothing live

-- Data that waits for its ACK, if there is any, was sent at most this many units ago.
abbrev pub WaitsFew : ℕ → Option ℕ → Type 0
WaitsFew age None = Unit {0}
WaitsFew age (Some units) = units ≤ age

-- The device exchanges data in the plan's relation, of this number. Its data hold time has run for at most this many units. If an alarm of low priority waits for its ACK, it has
-- waited for at most this many units.
pub record Exchanges (setup : Setup) (serial : ℕ) (age : ℕ) (live : Live) : Type 0 where
  pub link : RelationState
  pub has : live.rest.link ≡ Some link
  pub in_phase : link.phase ≡ in_exchange
  pub request : link.request ≡ request_for setup.plan setup.ar
  pub limit : link.flow.cyclic.hearing.limit ≡ hold_of setup.plan
  pub numbered : HasNumber setup serial link.flow
  pub held_few : link.flow.cyclic.hearing.held ≤ age
  pub high : link.flow.alarms.sender.sending.waiting ≡ None
  pub low : WaitsFew age link.flow.low.alarms.sender.sending.waiting
  pub low_limit : 3200 ≤ link.flow.low.alarms.sender.sending.limit

-- ---- the frames of the device

-- A frame of inputs in the plan's relation, of any number.
pub record IsInputs (setup : Setup) (identity : Identity) (octets : List ℕ) : Type 0 where
  pub serial : ℕ
  pub state : StationState
  pub inputs : Shown
  pub counter : ℕ
  pub frame : octets ≡ device_bytes identity (device_exchanges (inputs_route serial (request_for setup.plan setup.ar)) (Inputs state inputs counter))

-- An alarm of low priority, which reports a diagnosis, a pull or a plug, in the plan's relation, of any number.
pub record IsReport (setup : Setup) (identity : Identity) (octets : List ℕ) : Type 0 where
  pub serial : ℕ
  pub tag : ℕ
  pub header : Header
  pub alarm : AlarmNotification
  pub tag_short : tag < 65536
  pub is_data : header.kind ≡ pdu.Data
  pub header_good : IsHeader header
  pub alarm_good : IsAlarm alarm
  pub frame : octets ≡ device_bytes identity (device_exchanges (inputs_route serial (request_for setup.plan setup.ar)) (Reports tag header alarm))

-- The answer to the Identify of a device with these settings.
abbrev pub found_frame : Setup → Identity → Settings → List ℕ
found_frame setup identity settings = device_bytes identity (IdentifyAnswer setup.plan.controller.mac settings 1)

-- The answer to the Set of the IP suite: the device accepted it.
abbrev pub set_frame : Setup → Identity → List ℕ
set_frame setup identity = device_bytes identity (SetAnswer setup.plan.controller.mac (address_asked setup.plan) (Done ∷ []))

-- A positive response with these blocks to a request.
abbrev pub response_to : Setup → Identity → Request → List ℕ → List ℕ
response_to setup identity request blocks =
    response_frame identity (caller_of setup.plan.controller) setup.plan.station.suite.address (answer_to (call_for setup request) done blocks)

-- The response to a Write: each of its records was written.
pub record IsWritten (setup : Setup) (identity : Identity) (number : ℕ) (octets : List ℕ) : Type 0 where
  pub blocks : List ℕ
  pub frame : octets ≡ response_to setup identity (asks.Write number) blocks
  pub fits : CanBeAnswered (answer_to (call_for setup (asks.Write number)) done blocks)
  pub written : outcomes_of setup.plan number blocks ≡ AllWritten

-- The block of the response to PrmEnd, with ControlCommand Done.
abbrev pub prm_end_done : Setup → ControlBlock
prm_end_done setup = record { ar_uuid = setup.ar; session_key = session_number; control_command = 8; control_block_properties = 0 }

-- The response to PrmEnd.
abbrev pub ended_frame : Setup → Identity → List ℕ
ended_frame setup identity = response_to setup identity asks.PrmEnd (block_bytes (is.PrmEndRes (prm_end_done setup)))

-- What the call ApplicationReady has in it.
abbrev pub ready_for : Setup → Ready
ready_for setup = record {
  partner = partner_of (caller_of setup.plan.controller);
  header = record {
    object = initiator_object;
    interface = interface_uuid controllers;
    activity = setup.ar;
    sequence = 0;
    operation = 4;
  };
  block = record { ar_uuid = setup.ar; session_key = session_number; control_command = 2; control_block_properties = 0 };
}

-- The call ApplicationReady.
abbrev pub readied_frame : Setup → Identity → List ℕ
readied_frame setup identity = ready_frame identity setup.plan.station.suite.address (ready_for setup)

-- ---- the controller

-- The route of the controller to this device in a relation of this number at the device.
abbrev pub route_to : Mac → ℕ → Route
route_to device serial = outputs_route device (0xC000 + serial) (endpoint_of serial)

-- If the controller's relation is established, it has this number at the device, to which its outputs go.
abbrev pub IsRoute : Option ℕ → Mac → Cyclic → Type 0
IsRoute None device cyclic = Unit {0}
IsRoute (Some serial) device cyclic = (serial < 14336) × (cyclic.route ≡ route_to device serial)

-- No request beside the start-up waits for its answer: none of the application, and none after a plug.
abbrev pub AllAnswered : Accessing → Type 0
AllAnswered access = (access.waiting ≡ None) × (access.plug ≡ None)

-- No request after a plug waits for its answer, and no place waits for its turn.
abbrev pub HasNoTurn : ControllerLive → Type 0
HasNoTurn live = (live.access.plug ≡ None) × (next_waiting live.places ≡ None)

-- No request after a plug waits for its answer, and no turn begins with the next unit: no place waits for one, or the unit completes no second.
abbrev pub BeginsNoTurn : ControllerLive → Type 0
BeginsNoTurn live = (live.access.plug ≡ None) × ((next_waiting live.places ≡ None) ⊎ (live.waited < 31999))

-- The controller waits for the response to this request. For this many units it does not send the request again and does not give up. Its
-- relation is established, with this number at the device, or not.
pub record Asks (setup : Setup) (device : Mac) (phase : Phases) (request : Request) (stands : Option ℕ) (spare : ℕ) (controller : Controlling) : Type 0 where
  pub of_setup : controller.setup ≡ setup
  pub in_phase : controller.live.phase ≡ phase
  pub asked : controller.live.asked ≡ Some request
  pub of_device : controller.live.device ≡ device
  pub unrepeated : controller.live.waited + spare < 31999
  pub patient : (controller.live.left ≡ 0) ⊎ (spare < controller.live.left)
  pub established : controller.live.stands ≡ is_some stands
  pub route : IsRoute stands device controller.live.cyclic
  pub high : controller.live.alarms.sending.waiting ≡ None
  pub low : controller.live.low_alarms.sending.waiting ≡ None
  pub low_limit : 3200 ≤ controller.live.low_alarms.sending.limit
  pub alone : AllAnswered controller.live.access
  pub unbegun : controller.live.cyclic.begun ≡ false
  pub limit : controller.live.cyclic.hearing.limit ≡ hold_of setup.plan

-- The controller waits for the answer to this request, and its relation is not established. It may have sent the request several times.
pub record HasAsked (setup : Setup) (device : Mac) (phase : Phases) (request : Request) (controller : Controlling) : Type 0 where
  pub of_setup : controller.setup ≡ setup
  pub in_phase : controller.live.phase ≡ phase
  pub asked : controller.live.asked ≡ Some request
  pub of_device : controller.live.device ≡ device
  pub unestablished : controller.live.stands ≡ false
  pub high : controller.live.alarms.sending.waiting ≡ None
  pub low : controller.live.low_alarms.sending.waiting ≡ None
  pub low_limit : 3200 ≤ controller.live.low_alarms.sending.limit
  pub alone : AllAnswered controller.live.access
  pub unbegun : controller.live.cyclic.begun ≡ false
  pub limit : controller.live.cyclic.hearing.limit ≡ hold_of setup.plan

-- It looks for its station.
abbrev pub IsSearching : Setup → Controlling → Type 0
IsSearching setup controller = HasAsked setup controller.live.device Looking asks.Identify controller

-- The controller exchanges data in a relation of this number at the device. Its data hold time has run for at most this many units. If an AlarmAck of low priority waits for its ACK,
-- it has waited for at most this many units.
pub record Controls (setup : Setup) (serial : ℕ) (device : Mac) (age : ℕ) (controller : Controlling) : Type 0 where
  pub of_setup : controller.setup ≡ setup
  pub in_phase : controller.live.phase ≡ Exchanging
  pub established : controller.live.stands ≡ true
  pub few : serial < 14336
  pub route : controller.live.cyclic.route ≡ route_to device serial
  pub high : controller.live.alarms.sending.waiting ≡ None
  pub low : WaitsFew age controller.live.low_alarms.sending.waiting
  pub low_limit : 3200 ≤ controller.live.low_alarms.sending.limit
  pub limit : controller.live.cyclic.hearing.limit ≡ hold_of setup.plan
  pub unasked : controller.live.asked ≡ None
  pub alone : controller.live.access.waiting ≡ None
  pub held_few : controller.live.cyclic.hearing.held ≤ age

-- The frame of a request to the device.
abbrev pub request_to : Setup → Identity → Request → List ℕ
request_to setup identity request = controller_bytes setup (Requests identity.mac request)

-- The controller sends this request, and waits for its response.
pub record AsksNext (setup : Setup) (identity : Identity) (phase : Phases) (request : Request) (stands : Option ℕ) (spare : ℕ) (step : Stepped) : Type 0 where
  pub asks : Asks setup identity.mac phase request stands spare step.controller
  pub frames : step.frames ≡ request_to setup identity request ∷ []

-- The controller found its device. If the device has the plan's IP suite, the Connect is next, else the Set of the IP suite.
abbrev pub FindsIt : Setup → Identity → Settings → ℕ → Stepped → Type 0
FindsIt setup identity settings spare step =
    ((settings.suite ≡ setup.plan.station.suite) × AsksNext setup identity Connecting asks.Connect None spare step)
    ⊎ ((settings.suite ≡ setup.plan.station.suite → ⊥) × AsksNext setup identity Addressing asks.Address None spare step)

-- The controller after a frame, and what it sends.
abbrev pub controller_step : Controlling → List ℕ → Stepped
controller_step controller octets = step_of controller (Frame (record { items = octets }))

-- A controller without an established relation ignores this frame.
abbrev pub IsIgnored : Setup → List ℕ → Type 0
IsIgnored setup octets = (controller : Controlling) → controller.setup ≡ setup → controller.live.stands ≡ false
    → controller_step controller octets ≡ record { controller = controller; frames = [] }

-- The device after a frame, and what it sends, given what its flash did.
abbrev pub device_step : List Outcome → Station → Live → List ℕ → DeviceStepped
device_step outcomes station live octets = heard_step outcomes station live (heard_of station.identity (comes octets))

-- ---- the frames of the controller

-- A frame of outputs in a relation of this number at the device, if one is established.
pub record IsOutputs (setup : Setup) (stands : Option ℕ) (device : Mac) (octets : List ℕ) : Type 0 where
  pub serial : ℕ
  pub of_relation : stands ≡ Some serial
  pub few : serial < 14336
  pub shown : Shown
  pub counter : ℕ
  pub frame : octets ≡ controller_bytes setup (Cycles (route_to device serial) shown counter)

-- The device, as the caller of ApplicationReady.
abbrev pub device_as_caller : Setup → Identity → Caller
device_as_caller setup identity = record { mac = identity.mac; endpoint = calls_at setup.plan.station.suite.address }

-- The response to ApplicationReady.
abbrev pub confirmed_frame : Setup → Identity → List ℕ
confirmed_frame setup identity =
    controller_bytes setup (Agrees (device_as_caller setup identity) (ready_answer (ready_call (ready_for setup)) (ready_for setup).block))
