-- What a controller asked of the places of its plan after their plugs, and what it confirmed.
use Rattle.std.specs.Prelude.{◌≡◌, ◌<◌, ◌++◌, ℕ, true, List, ◌∷◌, length, Option, Some, Ok}
use Rattle.pn_values.specs.declared.identity.Identity.{Identity}
use Rattle.frame_codec.specs.declared.udp.Caller.{Caller}
use Rattle.rpc_core.specs.Call.{Asked as Call}
use Rattle.rpc_core.specs.Response.{Answered as Response}
use Rattle.connect_blocks.specs.declared.plug_control.PlugControlBlock.{PlugControlBlock}
use Rattle.record_blocks.specs.declared.alarm_notification.AlarmNotification.{AlarmNotification}
use Rattle.records.specs.declared.status.operation.Operation.TheVariants.{Control}
use Rattle.records.specs.status.Operation.{operation_of}
use Rattle.expected_places.specs.declared.calls.PlugCall.{PlugCall}
use Rattle.plan_places.specs.declared.place.PlaceState.{PlaceState}
use Rattle.plan_places.specs.declared.place.PlaceState.TheVariants.{There, Differs, Gone, Wrong, Plugged, Writing, Ending, Ready, Refused}
use Rattle.plan_places.specs.Places.{state_at}
use Rattle.relations.specs.declared.plugging.PlugAnswer.TheVariants.{Confirmed}
use Rattle.relations.specs.Plugging.{plug_answer_in, plug_end_in}
use Rattle.relations.specs.RelationState.{RelationState}
use Rattle.device_frames.specs.declared.event.Event.TheVariants.{Frame}
use Rattle.device_frames.specs.Heard.{Calls, Reported, Responds, heard_of}
use Rattle.controller_messages.specs.declared.plug_request.PlugRequest.{PlugRequest}
use Rattle.controller_messages.specs.declared.plug_request.PlugStep.{PlugStep}
use Rattle.controller_messages.specs.declared.plug_request.PlugStep.TheVariants.{Record}
use Rattle.controller_core.specs.stored.State.{Live}
use Rattle.plug_ends.specs.Told.{IsPlugAt, LastPlug}

-- ---- alarms

-- One of these alarms reports that the expected submodule was plugged here, and there are this many alarms before it.
pub record WasPlug (slot subslot number : ℕ) (alarms : List AlarmNotification) : Type 0 where
  pub front : List AlarmNotification
  pub alarm : AlarmNotification
  pub rest : List AlarmNotification
  pub are : alarms ≡ front ++ alarm ∷ rest
  pub count : length front ≡ number
  pub plug : IsPlugAt slot subslot alarm

-- A place in this state, after these alarms: its number is that of the last plug here.
abbrev pub IsStateOf : List AlarmNotification → ℕ → ℕ → PlaceState → Type 0
IsStateOf alarms slot subslot There = Unit {0}
IsStateOf alarms slot subslot Differs = Unit {0}
IsStateOf alarms slot subslot Gone = Unit {0}
IsStateOf alarms slot subslot Wrong = Unit {0}
IsStateOf alarms slot subslot (Plugged number) = LastPlug slot subslot number alarms
IsStateOf alarms slot subslot (Writing number) = LastPlug slot subslot number alarms
IsStateOf alarms slot subslot (Ending number) = LastPlug slot subslot number alarms
IsStateOf alarms slot subslot (Ready number) = LastPlug slot subslot number alarms
IsStateOf alarms slot subslot Refused = Unit {0}

-- ---- requests

-- The Write of a record.
pub record IsRecord (step : PlugStep) : Type 0 where
  pub number : ℕ
  pub is : step ≡ Record number

-- The controller ended the parameters of the plug with this number here: what it has still to ask here belongs to a later plug.
pub record IsEndedAt (alarms : List AlarmNotification) (live : Live) (slot subslot number : ℕ) : Type 0 where
  pub plug : WasPlug slot subslot number alarms
  pub plugged : (later : ℕ) → state_at slot subslot live.places ≡ Some (Plugged later) → number < later
  pub writing : (later : ℕ) → state_at slot subslot live.places ≡ Some (Writing later) → number < later
  pub request : (r : PlugRequest) → live.access.plug ≡ Some r → r.slot ≡ slot → r.subslot ≡ subslot → IsRecord r.step → number < r.number

-- It confirmed the ApplicationReady of the plug with this number here: the place is there, until an alarm that concerns it is accepted, or the
-- relation ends.
pub record IsDoneAt (alarms : List AlarmNotification) (live : Live) (slot subslot number : ℕ) : Type 0 where
  pub plug : WasPlug slot subslot number alarms
  pub now : live.stands ≡ true → LastPlug slot subslot number alarms → state_at slot subslot live.places ≡ Some (Ready number)

-- ---- frames

-- The device hears a PrmEnd after a plug with this number in a frame, which some relation accepts.
pub record HearsEnd (identity : Identity) (frame : List ℕ) (number : ℕ) : Type 0 where
  pub caller : Caller
  pub address : List ℕ
  pub call : Call
  pub blocks : List ℕ
  pub is : heard_of identity (Frame (record { items = frame })) ≡ Reported caller address (Calls call)
  pub asks : operation_of call.header.operation ≡ Some Control
  pub counted : call.blocks ≡ Some blocks
  pub link : Option RelationState
  pub block : PlugControlBlock
  pub read : plug_end_in blocks link ≡ Ok block
  pub number_is : block.alarm_sequence_number ≡ number

-- It hears the confirmation of an ApplicationReady after a plug with this number in a frame.
pub record HearsDone (identity : Identity) (frame : List ℕ) (number : ℕ) : Type 0 where
  pub caller : Caller
  pub address : List ℕ
  pub response : Response
  pub is : heard_of identity (Frame (record { items = frame })) ≡ Reported caller address (Responds response)
  pub link : RelationState
  pub call : PlugCall
  pub active : link.plugs.calls.standing ≡ Some call
  pub confirms : plug_answer_in response (Some link) ≡ Confirmed
  pub number_is : call.number ≡ number
