-- What a message of a controller that exchanges data can do to a relation of a device, and which messages the device sends in it.
use Rattle.std.proofs.Common.{◌≡◌, ◌⊎◌, inl, inr, ◌-◌, ◌≤◌, ℕ, Bool, true, false, List, Option, Some, None, refl, arith}
use Rattle.std.specs.Prelude.{option_map, if◌then◌else◌}
use Rattle.std.specs.List.{AllByRecursion}
use Rattle.record_blocks.specs.declared.alarm_notification.AlarmNotification.{AlarmNotification}
use Rattle.pn_alarms.specs.declared.pdu.PduType.TheVariants.{Data}
use Rattle.cyclic_data.specs.declared.exchange.route.Route.{Route}
use Rattle.relations.specs.declared.plugging.PlugReady.{PlugReady}
use Rattle.relations.specs.RelationState.{RelationState, is_awaiting}
use Rattle.relations.specs.Timers.{is_timed, limit_of}
use Rattle.relations.specs.declared.phase.Phase.{Phase}
use Rattle.relations.specs.declared.phase.Phase.TheVariants.{Awaiting, Exchanging as in_exchange, Preparing, Started}
use Rattle.relations.specs.exchange.Diagnosis.{low_header_of}
use Rattle.relations.specs.exchange.Flow.{Flow}
use Rattle.relations.specs.exchange.Frames.{Inputs, Notifies, Replies as Answers, RepliesLow, Reports}
use Rattle.device_frames.specs.Relation.{frames_in, plug_call_in, where_due}
use Rattle.device_frames.specs.Sent.{Sent, IdentifyAnswer, GetAnswer, SetAnswer, ArpReply, CallAnswer, Again, ReadyCall, PlugReadyCall, Ends, Exchanges}
use Rattle.device_core.specs.Machine.{Stepped}
use Rattle.controller_messages.specs.declared.setup.Setup.{Setup}
use Rattle.rounds_law.specs.Again.{units_left}
use Rattle.rounds_law.proofs.AnywhereParts.{IsMoved, LinkGoesOn, room_of}

-- ---- what a device sends in a relation

-- A message of this relation: its inputs, an alarm or the reply to one, ApplicationReady, also that of a plug, or its ERR; or a response to a
-- call.
abbrev pub IsOfLink : Route → Sent → Type 0
IsOfLink route (Ends farewell) = Unit {0}
IsOfLink route (Exchanges sent (Inputs state inputs counter)) = sent ≡ route
IsOfLink route (Exchanges sent (Notifies header alarm)) = Unit {0}
IsOfLink route (Exchanges sent (Answers header)) = Unit {0}
IsOfLink route (Exchanges sent (Reports tag header alarm)) = Unit {0}
IsOfLink route (Exchanges sent (RepliesLow tag header)) = Unit {0}
IsOfLink route (ReadyCall address ready) = Unit {0}
IsOfLink route (PlugReadyCall address ready) = Unit {0}
IsOfLink route (IdentifyAnswer asker running xid) = ⊥
IsOfLink route (GetAnswer asker running alias request) = ⊥
IsOfLink route (SetAnswer asker request answers) = ⊥
IsOfLink route (ArpReply asker address target) = ⊥
IsOfLink route (CallAnswer caller address answer) = Unit {0}
IsOfLink route (Again frame) = ⊥

-- Each of the messages is.
abbrev pub AreOfLink : Route → List Sent → Type 0
AreOfLink route sent = AllByRecursion (IsOfLink route) sent

pub due_of_link : (route : Route) (is_due : Bool) (sent : List Sent) → AreOfLink route sent → AreOfLink route (where_due is_due sent)
due_of_link route true sent all = all
due_of_link route false sent all = tt

pub report_of_link : (route : Route) (flow : Flow) (standing : Option AlarmNotification)
    → AreOfLink route (frames_in flow.cyclic.route (option_map (Reports flow.low.tag (low_header_of flow Data)) standing))
report_of_link route flow None = tt
report_of_link route flow (Some alarm) = (tt, tt)

pub calls_of_link : (route : Route) (address : List ℕ) (ready : Option PlugReady) → AreOfLink route (plug_call_in address ready)
calls_of_link route address None = tt
calls_of_link route address (Some ready) = (tt, tt)

-- ---- what becomes of the relation

-- It is over, or it goes on and was moved.
abbrev pub IsNow : Setup → Route → RelationState → Option RelationState → Type 0
IsNow setup route link after = (after ≡ None)
    ⊎ ((later : RelationState) × (after ≡ Some later) × LinkGoesOn setup link later × IsMoved setup route link later)

-- The same of a step, and all that is sent with it are messages of this relation.
abbrev pub Went : Setup → Route → RelationState → Stepped → Type 0
Went setup route link step = IsNow setup route link step.live.rest.link × AreOfLink link.flow.cyclic.route step.sent

-- A number is not more than itself.
pub no_more : (n : ℕ) → n ≤ n
no_more n = omega arith

-- It is in the same phase, and has no more units and room.
pub as_before : (setup : Setup) (route : Route) (link later : RelationState) → later.flow.cyclic.route ≡ link.flow.cyclic.route → later.phase ≡ link.phase
    → limit_of later ≡ limit_of link → units_left later ≤ units_left link
    → (setup.plan.parameters_after_plug ≡ true → is_timed later.phase ≡ true → room_of later ≤ room_of link) → IsNow setup route link (Some later)
as_before setup route link later way phase limit units room =
    inr (later, refl, record { route = way; limit = limit; room = room }, inl (phase, units))

-- Before data is exchanged the units depend on the activity time alone.
pub timed_units : (timed : Bool) (limit inactive one other : ℕ) → timed ≡ true
    → (if timed then limit - inactive else one) ≤ (if timed then limit - inactive else other)
timed_units true limit inactive one other e = no_more (limit - inactive)
timed_units false limit inactive one other e = absurd cc

pub timed_in : (phase : Phase) → is_awaiting phase ≡ true → is_timed phase ≡ true
timed_in Started e = refl
timed_in Preparing e = refl
timed_in Awaiting e = refl
timed_in in_exchange e = absurd cc
