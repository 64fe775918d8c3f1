-- One turn of a device: what it does, and what becomes of its relation, of the responses that it stores, and what it
-- sends, as far as outputs and alarms are concerned.
use Rattle.std.specs.Prelude.{◌≡◌, ◌<◌, ◌⊎◌, ◌&&◌, ◌++◌, ℕ, Bool, true, false, List, [], ◌∷◌, Option, Some, None, option_map, Ok}
use Rattle.std.specs.List.{AllByRecursion}
use Rattle.pn_values.specs.declared.identity.Identity.{Identity}
use Rattle.pn_values.specs.declared.mac.Mac.{Mac}
use Rattle.pn_values.specs.declared.real.RealModule.{RealModule}
use Rattle.frame_codec.specs.declared.udp.Caller.{Caller}
use Rattle.rpc_core.specs.Cache.{Kept, kept_more, looked, new}
use Rattle.rpc_core.specs.Call.{Asked as Call}
use Rattle.rpc_core.specs.Response.{Answered as Response}
use Rattle.wire.specs.blocks.modules.Lists.{Listed}
use Rattle.connect_blocks.specs.declared.module_diff.DiffModule.{DiffModule}
use Rattle.connect_blocks.specs.declared.module_diff.DiffSubmodule.{DiffSubmodule}
use Rattle.record_blocks.specs.declared.alarm_ack.AlarmAck.{AlarmAck}
use Rattle.records.specs.declared.status.operation.Operation.TheVariants as operation
use Rattle.records.specs.status.Operation.{operation_of}
use Rattle.connects.specs.requests.Request.{Request}
use Rattle.pn_alarms.specs.declared.abort.Abort.{Abort}
use Rattle.pn_alarms.specs.declared.message.Notice.TheVariants as notice
use Rattle.pn_alarms.specs.declared.pdu.Header.{Header}
use Rattle.pn_alarms.specs.Ends.{DeviceEnd}
use Rattle.pn_alarms.specs.Message.{ToDevice}
use Rattle.pn_alarms.specs.Receiver.{taken_as}
use Rattle.diagnosis.specs.Existing.{changed}
use Rattle.diagnosis.specs.declared.diagnosis.Change.{Change}
use Rattle.diagnosis.specs.declared.diagnosis.Diagnosis.{Diagnosis}
use Rattle.diagnosis.specs.alarms.Alarms.{Low}
use Rattle.diagnosis.specs.Existing.{remaining}
use Rattle.diagnosis.specs.Queue.{is_next}
use Rattle.module_diff.specs.declared.changes.RealChange.{RealChange}
use Rattle.module_diff.specs.Changes.{affected_by}
use Rattle.cyclic_data.specs.Image.{Shown as Image}
use Rattle.cyclic_data.specs.declared.exchange.received.Received.TheVariants as received
use Rattle.cyclic_data.specs.declared.exchange.route.Route.{Route}
use Rattle.relations.specs.exchange.Flow.{Flow}
use Rattle.relations.specs.exchange.Diagnosis.{begins_with_one, behind_low, diagnoses_begun, next_reported}
use Rattle.relations.specs.exchange.Frames.{Inputs, Notifies, Replies, Reports, RepliesLow}
use Rattle.relations.specs.exchange.Marks.{Starting}
use Rattle.relations.specs.exchange.Notices.{behind_message, raised_at}
use Rattle.relations.specs.exchange.Received.{behind_frame, received_as}
use Rattle.relations.specs.exchange.Units.{flow_later, repeated_of, tick_of}
use Rattle.relations.specs.exchange.Opening.{route_of}
use Rattle.relations.specs.Numbers.{IsNumber, endpoint_of}
use Rattle.relations.specs.declared.options.DeviceOptions.{DeviceOptions}
use Rattle.relations.specs.declared.phase.Partner.{Partner}
use Rattle.relations.specs.declared.phase.Phase.TheVariants.{Awaiting}
use Rattle.relations.specs.Connect.{connect_of}
use Rattle.relations.specs.Diagnosed.{beginning, diagnose_one, diagnosing, has_sent_low, is_full_in, reporting}
use Rattle.relations.specs.Exchanged.{raised_to}
use Rattle.relations.specs.Farewells.{farewell_of}
use Rattle.relations.specs.Plugging.{is_alarmed_by, is_crowded, modules_changing}
use Rattle.relations.specs.RelationState.{RelationState, flow_of, is_exchanging}
use Rattle.relations.specs.Phases.{exchanging_from, made_of, updated, with_flow}
use Rattle.relations.specs.Timers.{unit_later}
use Rattle.device_frames.specs.declared.local.Local.TheVariants as local
use Rattle.device_frames.specs.Heard.{Heard, Alarms, Calls, Cyclic, LowConfirms, LowReplies, Applied, Ticks, Reported}
use Rattle.device_frames.specs.Relation.{alarms_of, low_alarms_of, low_replies_of, replies_of, where_due}
use Rattle.device_frames.specs.Sent.{Sent, IdentifyAnswer, GetAnswer, SetAnswer, ArpReply, CallAnswer, Again, ReadyCall, PlugReadyCall, Ends, Exchanges}
use Rattle.device_core.specs.Local.{modules_by}
use Rattle.device_core.specs.Modules.{plug_of, pull_of, slot_pull_of}
use Rattle.device_core.specs.State.{Live, Rest, Station}
use Rattle.device_core.specs.Handled.{kept_for}
use Rattle.end_laws.specs.device.Orderly.{IsOrderlyIn, keys_of}
use Rattle.end_laws.specs.device.Owed.{IsAskedLater, IsAskedOf, IsOwed}
use Rattle.end_laws.specs.device.Does.{Does}

-- ---- what stays the same of a relation

-- The request of the Connect, the device's end of alarms, of either priority, whether data is exchanged, by the exchange and by
-- the phase, the stations between which frames go, the endpoint of its alarms, the counter of the last cyclic frame accepted, if
-- there is one, the image of the outputs, and the slot and subslot of each of its places.
pub record Standing : Type 0 where
  pub request : Request
  pub alarms : DeviceEnd
  pub low : Low
  pub begun : Bool
  pub exchanges : Bool
  pub route : Route
  pub endpoint : ℕ
  pub last : Option ℕ
  pub outputs : Image
  pub keys : List (ℕ × ℕ)

-- what outputs and alarms depend on in a relation
abbrev pub standing_of : RelationState → Standing
standing_of link = record {
  request = link.request;
  alarms = link.flow.alarms;
  low = link.flow.low;
  begun = link.flow.cyclic.begun;
  exchanges = is_exchanging link.phase;
  route = link.flow.cyclic.route;
  endpoint = link.flow.endpoint;
  last = link.flow.cyclic.hearing.last;
  outputs = link.flow.cyclic.taken;
  keys = keys_of link.plugs.places;
}

-- these stay the same, or the relation has ended
abbrev pub IsSameOr : Option RelationState → Option RelationState → Type 0
IsSameOr before after = (option_map standing_of after ≡ option_map standing_of before) ⊎ (after ≡ None)

-- ---- messages

-- a message without alarm data and without a reply to it: inputs and the ERR belong to the relation that existed
abbrev pub IsCalm : Option RelationState → Sent → Type 0
IsCalm before (Exchanges route (Inputs state inputs counter)) = (link : RelationState) × (before ≡ Some link) × (route ≡ link.flow.cyclic.route)
IsCalm before (Exchanges route (Notifies header alarm)) = ⊥
IsCalm before (Exchanges route (Replies header)) = ⊥
IsCalm before (Exchanges route (Reports tag header alarm)) = ⊥
IsCalm before (Exchanges route (RepliesLow tag header)) = ⊥
IsCalm before (Ends farewell) = (reason : Abort) × (link : RelationState) × (before ≡ Some link) × (farewell ≡ farewell_of reason link)
IsCalm before (IdentifyAnswer asker running xid) = Unit {0}
IsCalm before (GetAnswer asker running alias request) = Unit {0}
IsCalm before (SetAnswer asker request answers) = Unit {0}
IsCalm before (ArpReply asker address target) = Unit {0}
IsCalm before (CallAnswer caller address answer) = Unit {0}
IsCalm before (Again frame) = Unit {0}
IsCalm before (ReadyCall address ready) = Unit {0}
IsCalm before (PlugReadyCall address ready) = Unit {0}

-- each of these messages is calm
abbrev pub AreCalm : Option RelationState → List Sent → Type 0
AreCalm before sent = AllByRecursion (IsCalm before) sent

-- ---- the kinds of turns

-- the relation stays the same as far as outputs and alarms are concerned, or it ends
pub record Stays (before after : Option RelationState) (sent : List Sent) : Type 0 where
  pub link : IsSameOr before after
  pub calm : AreCalm before sent

-- a new Connect is accepted
pub record Makes (calls : List Kept) (before : Option RelationState) (heard : Heard) (after : Option RelationState) (sent : List Sent) : Type 0 where
  pub caller : Caller
  pub address : List ℕ
  pub call : Call
  pub blocks : List ℕ
  pub is : heard ≡ Reported caller address (Calls call)
  pub connects : operation_of call.header.operation ≡ Some operation.Connect
  pub counted : call.blocks ≡ Some blocks
  pub fresh : looked call.header.activity call.header.sequence calls ≡ new
  pub request : Request
  pub partner : Partner
  pub rows : Listed DiffModule DiffSubmodule
  pub options : DeviceOptions
  pub starting : Starting
  pub few : starting.number < 14336
  pub read : connect_of before blocks ≡ Ok request
  pub made : after ≡ Some (made_of request partner rows options starting)
  pub calm : AreCalm before sent

-- the application sets the input of a submodule
abbrev pub input_heard : (slot subslot : ℕ) → List ℕ → Heard
input_heard slot subslot value = Applied (local.Input slot subslot (record { items = value }))

-- the application raises an alarm, with these octets
abbrev pub alarm_heard : (slot subslot : ℕ) → List ℕ → Heard
alarm_heard slot subslot octets = Applied (local.Alarm slot subslot (record { items = octets }))

-- an alarm is raised
pub record Raises (real : List RealModule) (before : Option RelationState) (heard : Heard) (after : Option RelationState) (sent : List Sent) : Type 0 where
  pub slot : ℕ
  pub subslot : ℕ
  pub octets : List ℕ
  pub is : heard ≡ alarm_heard slot subslot octets
  pub link : RelationState
  pub was : before ≡ Some link
  pub flow : Flow
  pub raised : raised_at link.flow real slot subslot octets ≡ Some flow
  pub becomes : after ≡ Some (with_flow flow link)
  pub sends : sent ≡ alarms_of (Some flow)

-- an alarm is refused
pub record Refused (real : List RealModule) (before : Option RelationState) (slot subslot : ℕ) (octets : List ℕ) (after : Option RelationState) (sent : List Sent) : Type 0 where
  pub unraised : raised_to real slot subslot octets before ≡ None
  pub same : after ≡ before
  pub silent : sent ≡ []

-- an alarm is raised, or it is refused
abbrev pub IsRaise : List RealModule → Option RelationState → ℕ → ℕ → List ℕ → Option RelationState → List Sent → Type 0
IsRaise real before slot subslot octets after sent =
    Raises real before (alarm_heard slot subslot octets) after sent ⊎ Refused real before slot subslot octets after sent

-- it is heard as one of high priority, or under the FrameID of low priority before the device sent data of that
abbrev pub IsHigh : Heard → Mac → Header → ToDevice → Type 0
IsHigh heard source header message = (heard ≡ Alarms source header message) ⊎ (heard ≡ LowReplies source header message)

-- it is heard as one of low priority
abbrev pub IsLow : Heard → Mac → Header → ToDevice → Type 0
IsLow heard source header message = (heard ≡ LowReplies source header message) ⊎ (heard ≡ LowConfirms source header message)

-- an ACK arrives
pub record HearsAck (before : Option RelationState) (heard : Heard) (after : Option RelationState) (sent : List Sent) : Type 0 where
  pub source : Mac
  pub header : Header
  pub number : ℕ
  pub is : IsHigh heard source header (notice.Ack number)
  pub link : RelationState
  pub was : before ≡ Some link
  pub becomes : after ≡ Some (with_flow (behind_message link.flow (notice.Ack number)) link)
  pub silent : sent ≡ []

-- an AlarmAck arrives
pub record HearsData (before : Option RelationState) (heard : Heard) (after : Option RelationState) (sent : List Sent) : Type 0 where
  pub source : Mac
  pub header : Header
  pub number : ℕ
  pub ack : AlarmAck
  pub is : IsHigh heard source header (notice.Data number ack)
  pub link : RelationState
  pub was : before ≡ Some link
  pub becomes : after ≡ Some (with_flow (behind_message link.flow (notice.Data number ack)) link)
  pub sends : sent ≡ replies_of (taken_as link.flow.alarms.seen number) (Some (behind_message link.flow (notice.Data number ack)))

-- an ACK of low priority arrives, after an alarm of that priority was sent
pub record HearsLowAck (before : Option RelationState) (heard : Heard) (after : Option RelationState) (sent : List Sent) : Type 0 where
  pub source : Mac
  pub header : Header
  pub number : ℕ
  pub is : IsLow heard source header (notice.Ack number)
  pub has_sent : has_sent_low before ≡ true
  pub link : RelationState
  pub was : before ≡ Some link
  pub becomes : after ≡ Some (with_flow (behind_low link.flow (notice.Ack number)) link)
  pub silent : sent ≡ []

-- the relation after this PDU of low priority
abbrev pub heard_low_in : RelationState → ToDevice → RelationState
heard_low_in link message = with_flow (behind_low link.flow message) link

-- an AlarmAck of low priority arrives: after the reply the next change is reported
pub record HearsLowData (before : Option RelationState) (heard : Heard) (after : Option RelationState) (sent : List Sent) : Type 0 where
  pub source : Mac
  pub header : Header
  pub number : ℕ
  pub ack : AlarmAck
  pub is : IsLow heard source header (notice.Data number ack)
  pub has_sent : has_sent_low before ≡ true
  pub link : RelationState
  pub was : before ≡ Some link
  pub becomes : after ≡ updated (reporting (Some (heard_low_in link (notice.Data number ack)))) (Some (heard_low_in link (notice.Data number ack)))
  pub sends : sent ≡ low_replies_of (taken_as link.flow.low.alarms.seen number) (Some (behind_low link.flow (notice.Data number ack)))
      ++ where_due (is_next (behind_low link.flow (notice.Data number ack)).low)
      (low_alarms_of (Some (next_reported (behind_low link.flow (notice.Data number ack)))))

-- data is exchanged from now on: what waits and what exists of diagnosis is reported
pub record Begins (real : List RealModule) (diagnoses : List Diagnosis) (before : Option RelationState) (after : Option RelationState) (sent : List Sent) : Type 0 where
  pub link : RelationState
  pub was : before ≡ Some link
  pub awaits : link.phase ≡ Awaiting
  pub becomes : after ≡ updated (beginning real diagnoses (Some (exchanging_from link))) (Some (exchanging_from link))
  pub sends : sent ≡ where_due (begins_with_one real diagnoses (exchanging_from link).flow)
      (low_alarms_of (Some (diagnoses_begun real diagnoses (exchanging_from link).flow)))

-- the application says that a diagnosis appears or disappears
abbrev pub change_heard : Change → Heard
change_heard change =
    Applied (local.Diagnosis change.diagnosis.slot change.diagnosis.subslot change.diagnosis.channel change.diagnosis.error change.appears)

-- a diagnosis appears or disappears, after which these exist
pub record Diagnoses (real : List RealModule) (diagnoses later : List Diagnosis) (before : Option RelationState) (heard : Heard) (after : Option RelationState) (sent : List Sent) : Type 0 where
  pub change : Change
  pub is : heard ≡ change_heard change
  pub open_room : is_full_in before ≡ false
  pub changes : changed change diagnoses ≡ Some later
  pub becomes : after ≡ updated (diagnosing real change later before) before
  pub sends : sent ≡ where_due (diagnose_one real change later before) (low_alarms_of (flow_of after))

-- The change that a pull or a plug makes of the modules, if it is one: of what is plugged, with its ident numbers.
abbrev pub change_by : List RealModule → Heard → Option RealChange
change_by real (Applied (local.Pull slot subslot)) = Some (pull_of real slot subslot)
change_by real (Applied (local.PullModule slot)) = Some (slot_pull_of real slot)
change_by real (Applied (local.Plug slot ident part)) = Some (plug_of slot ident part)
change_by real heard = None

-- The modules after it, if it is possible.
abbrev pub modules_after : List RealModule → Heard → Option (List RealModule)
modules_after real (Applied said) = modules_by said real
modules_after real heard = None

-- Something is pulled or plugged: these are the modules then, and these diagnoses exist. What was pulled has no diagnosis. The change
-- is reported to a relation that expects a submodule there, and after its alarm the next call ApplicationReady of a plug may be sent.
pub record Changes (real now : List RealModule) (diagnoses later : List Diagnosis) (before : Option RelationState) (heard : Heard) (after : Option RelationState) (sent : List Sent) : Type 0 where
  pub made : RealChange
  pub is : change_by real heard ≡ Some made
  pub modules : modules_after real heard ≡ Some now
  pub open_room : is_crowded (affected_by made) before ≡ false
  pub remains : later ≡ remaining (affected_by made) diagnoses
  pub becomes : after ≡ modules_changing now made later before
  pub others : List Sent
  pub sends : sent ≡ where_due (is_alarmed_by now made later before) (low_alarms_of (flow_of after)) ++ others
  pub calm : AreCalm before others

-- a unit passes, and the relation stays
pub record Passes (before : Option RelationState) (heard : Heard) (after : Option RelationState) (sent : List Sent) : Type 0 where
  pub is : heard ≡ Ticks
  pub link : RelationState
  pub was : before ≡ Some link
  pub becomes : after ≡ Some (unit_later link)
  pub others : List Sent
  pub sends : sent ≡ where_due ((tick_of link.flow).is_alarm && (repeated_of link.flow).high) (alarms_of (Some (flow_later link.flow)))
      ++ (where_due ((tick_of link.flow).is_alarm && (repeated_of link.flow).low) (low_alarms_of (Some (flow_later link.flow))) ++ others)
  pub calm : AreCalm before others

-- a cyclic frame is accepted
pub record Takes (before : Option RelationState) (heard : Heard) (after : Option RelationState) (sent : List Sent) : Type 0 where
  pub source : Mac
  pub frame_id : ℕ
  pub body : List ℕ
  pub is : heard ≡ Cyclic source frame_id body
  pub link : RelationState
  pub was : before ≡ Some link
  pub taken : received_as link.flow source frame_id body ≡ received.Taken
  pub becomes : after ≡ Some (with_flow (behind_frame link.flow source frame_id body) link)
  pub silent : sent ≡ []

-- the kinds of turns, as far as outputs and alarms are concerned, if these modules were plugged and these diagnoses existed, and these
-- are and do afterwards
abbrev pub IsTurn : List RealModule → List RealModule → List Kept → List Diagnosis → List Diagnosis → Option RelationState → Heard → Option RelationState → List Sent → Type 0
IsTurn real now calls diagnoses later before heard after sent =
    Stays before after sent ⊎ (Makes calls before heard after sent ⊎ (Raises real before heard after sent
    ⊎ (HearsAck before heard after sent ⊎ (HearsData before heard after sent ⊎ (Passes before heard after sent ⊎ (Takes before heard after sent
    ⊎ (HearsLowAck before heard after sent ⊎ (HearsLowData before heard after sent ⊎ (Begins real diagnoses before after sent
    ⊎ (Diagnoses real diagnoses later before heard after sent ⊎ Changes real now diagnoses later before heard after sent))))))))))

-- ---- responses

-- a call is answered, and the response is stored: one that has no answer in time is refused after the frames of the relation
pub record Answers (identity : Identity) (before after : List Kept) (sent : List Sent) : Type 0 where
  pub call : Call
  pub caller : Caller
  pub address : List ℕ
  pub answer : Response
  pub first : List Sent
  pub others : List Sent
  pub keeps : after ≡ kept_more 4 (kept_for identity call (CallAnswer caller address answer)) before
  pub sends : sent ≡ first ++ CallAnswer caller address answer ∷ others

-- ---- a turn

-- one turn of a device: what it does, its kind, what becomes of its diagnoses and of its modules, the response that it stores, that its
-- relation stays in order, that each message is owed, and what is asked of its application: by a relation that exists, if it was before
pub record Turn (station : Station) (live : Live) (heard : Heard) (after : Rest) (sent : List Sent) : Type 0 where
  pub does : Does station live heard after sent
  pub is : IsTurn live.rest.real.modules.items after.real.modules.items live.rest.calls live.rest.diagnoses after.diagnoses live.rest.link heard after.link sent
  pub diagnoses : (after.diagnoses ≡ live.rest.diagnoses)
      ⊎ (Diagnoses live.rest.real.modules.items live.rest.diagnoses after.diagnoses live.rest.link heard after.link sent
      ⊎ Changes live.rest.real.modules.items after.real.modules.items live.rest.diagnoses after.diagnoses live.rest.link heard after.link sent)
  pub modules : (after.real ≡ live.rest.real)
      ⊎ Changes live.rest.real.modules.items after.real.modules.items live.rest.diagnoses after.diagnoses live.rest.link heard after.link sent
  pub answers : (after.calls ≡ live.rest.calls) ⊎ Answers station.identity live.rest.calls after.calls sent
  pub orderly : IsOrderlyIn live.rest.link → IsOrderlyIn after.link
  pub owed : AllByRecursion (IsOwed heard live) sent
  pub asked : IsAskedLater heard live.rest.asked after.asked
  pub related : IsAskedOf live.rest.link live.rest.asked → IsAskedOf after.link after.asked

-- ---- the number of a relation

-- the relation has a number that a device with these options may give: it chooses the FrameID of outputs and the endpoint of the
-- device
pub record IsNumbered (options : DeviceOptions) (link : RelationState) : Type 0 where
  pub number : ℕ
  pub is : IsNumber options number
  pub endpoint : link.flow.endpoint ≡ endpoint_of number
  pub route : link.flow.cyclic.route ≡ route_of number link.request

-- a relation that begins has such a number
abbrev pub BeginsNumbered : DeviceOptions → Option RelationState → Option RelationState → Type 0
BeginsNumbered options before after = (link : RelationState) → before ≡ None → after ≡ Some link → IsNumbered options link
