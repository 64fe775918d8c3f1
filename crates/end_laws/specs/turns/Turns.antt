-- Each turn of a controller is of one of these kinds: its next state, what it sends, and when it makes such a turn.
use Rattle.std.specs.Prelude.{◌≡◌, ◌⊎◌, ◌+◌, ◌%◌, ◌≤◌, ◌&&◌, ◌∷◌, [], ℕ, Bool, true, false, List, length, option_and_then, Option, Some, None}
use Rattle.pn_values.specs.declared.mac.Mac.{Mac}
use Rattle.frame_codec.specs.declared.udp.Caller.{Caller}
use Rattle.dcp_core.specs.Response.{Answered}
use Rattle.rpc_core.specs.declared.response.Status.{Status}
use Rattle.rpc_core.specs.Call.{Asked as Call}
use Rattle.rpc_core.specs.Response.{Answered as Response, is_done}
use Rattle.connect_blocks.specs.declared.control.ControlBlock.{ControlBlock}
use Rattle.connect_blocks.specs.declared.plug_control.PlugControlBlock.{PlugControlBlock}
use Rattle.pn_alarms.specs.declared.abort.Abort.{Abort}
use Rattle.pn_alarms.specs.declared.message.Notice.TheVariants as notice
use Rattle.pn_alarms.specs.declared.pdu.Header.{Header}
use Rattle.diagnosis.specs.declared.reports.priority.Priority.{Priority}
use Rattle.diagnosis.specs.declared.reports.report.Report.{Report}
use Rattle.pn_alarms.specs.Receiver.{taken_as}
use Rattle.pn_alarms.specs.Sending.{due}
use Rattle.pn_alarms.specs.Sending.{is_again as is_repeated}
use Rattle.cyclic_data.specs.exchange.Opening.{begun_of}
use Rattle.cyclic_data.specs.exchange.Received.{behind_frame}
use Rattle.plans.specs.declared.parts.Parts.{Parts}
use Rattle.plan_places.specs.Places.{Told, opened}
use Rattle.controller_messages.specs.declared.plug_request.PlugRequest.{PlugRequest}
use Rattle.controller_messages.specs.declared.record_request.RecordRequest.{RecordRequest}
use Rattle.controller_messages.specs.declared.record_request.RecordService.TheVariants as service
use Rattle.controller_messages.specs.declared.setup.Setup.{Setup}
use Rattle.controller_messages.specs.declared.request.Request.{Request}
use Rattle.controller_messages.specs.declared.request.Request.TheVariants as asks
use Rattle.controller_messages.specs.Heard.{Heard, Answers, Responds, Calls, Alarms, heard_of}
use Rattle.controller_messages.specs.PlugRequests.{is_plug_ready, plug_answer, plug_ready_in}
use Rattle.controller_messages.specs.RecordRequests.{most_record_octets}
use Rattle.controller_messages.specs.Requests.{writing_from}
use Rattle.controller_messages.specs.Sent.{Agrees, ready_answer}
use Rattle.controller_core.specs.declared.stored.event.Event.{Event}
use Rattle.controller_core.specs.declared.stored.event.Event.TheVariants.{Frame, Tick, Give, Status as Rate, Read, Write, Stop}
use Rattle.controller_core.specs.declared.stored.state.Cause.{Cause}
use Rattle.controller_core.specs.declared.stored.state.State.TheVariants.{Looking, Addressing, Connecting, Ending, Waiting, Exchanging, Ended}
use Rattle.controller_core.specs.declared.stored.state.RefusedRecord.{RefusedRecord}
use Rattle.controller_core.specs.stored.State.{Live}
use Rattle.controller_messages.specs.Access.{Accessing, call_number, plugged, unplugged}
use Rattle.controller_core.specs.start_up.Answers.{is_answer, is_ready, is_tried}
use Rattle.controller_core.specs.start_up.Requests.{behind_write, end_after, tried_as, tries_before, write_after}
use Rattle.controller_core.specs.start_up.Outcomes.{are_written}
use Rattle.connects.specs.answers.Connect.{Chosen, chosen_of, found_in, nothing}
use Rattle.controller_core.specs.Machine.{Turn, accessing, acked_under, after_turn, asking, asks_next, behind_ack, behind_data, brought, can_begin, due_frames, end_of, ended_by, given, is_again, later, noted, over, plug_readied, rated, released, requested, requests_of, standing, stays, stopped, taken, ticked, trying, turned, where_due, writing, written}
use Rattle.controller_core.specs.start_up.Answers.{ready_in}
use Rattle.end_laws.specs.turns.Beside.{flow_begun}
use Rattle.end_laws.specs.turns.Ended.{IsReleased, may_release}

-- ---- what comes

-- A frame is received, with any octets; a unit passes; an output is set, or its status; the application asks for a record,
-- or for the write of one; or it stops the controller.
pub data Came : Type 0 where
  Hears : (heard : Heard) → Came
  Passes : Came
  Gets : (slot subslot : ℕ) → (value : List ℕ) → Came
  GetsStatus : (slot subslot : ℕ) → (is_good : Bool) → Came
  AsksRead : (slot subslot index : ℕ) → Came
  AsksWrite : (slot subslot index : ℕ) → (octets : List ℕ) → Came
  Halts : Came

-- What comes to a controller with an event.
abbrev pub came_by : Setup → Event → Came
came_by setup (Frame bytes) = Hears (heard_of setup.plan.controller bytes.items)
came_by setup Tick = Passes
came_by setup (Give slot subslot value) = Gets slot subslot value.items
came_by setup (Rate slot subslot is_good) = GetsStatus slot subslot is_good
came_by setup (Read slot subslot index) = AsksRead slot subslot index
came_by setup (Write slot subslot index octets) = AsksWrite slot subslot index octets.items
came_by setup Stop = Halts

-- What a controller does with what comes: the case of its machine.
abbrev pub turn_for : Setup → Live → Came → Turn
turn_for setup live (Hears heard) = turned setup live heard
turn_for setup live Passes = ticked setup live
turn_for setup live (Gets slot subslot value) = stays (given live slot subslot value)
turn_for setup live (GetsStatus slot subslot is_good) = stays (rated live slot subslot is_good)
turn_for setup live (AsksRead slot subslot index) = requested setup live service.Read slot subslot index []
turn_for setup live (AsksWrite slot subslot index octets) = written setup live slot subslot index octets
turn_for setup live Halts = stopped setup live live.phase

-- ---- a complete end

-- The request after a controller of this plan ended for this cause: none, or the Release, if the device may be informed by
-- one.
abbrev pub IsReported : Parts → Cause → Option Request → Type 0
IsReported plan cause None = Unit {0}
IsReported plan cause (Some (asks.Release sequence)) = may_release plan cause ≡ true
IsReported plan cause (Some _) = ⊥

-- It ended, its relation is over, and no request is active except its Release, also none of the application and none after a plug.
pub record IsEnd (plan : Parts) (cause : Cause) (live : Live) : Type 0 where
  pub phase : live.phase ≡ Ended cause
  pub down : live.stands ≡ false
  pub asked : IsReported plan cause live.asked
  pub idle : live.access.waiting ≡ None
  pub plug : live.access.plug ≡ None

-- It did not reach such an end.
abbrev pub IsGoing : Parts → Live → Type 0
IsGoing plan live = (cause : Cause) → IsEnd plan cause live → ⊥

-- The units since the controller was made, modulo 65,536, after anything comes: only a unit counts.
abbrev pub units_behind : Live → Came → ℕ
units_behind live Passes = (live.units + 1) % 65536
units_behind live came = live.units

-- ---- the kinds

-- Nothing changes, and nothing is sent; a station is asked for the relation, or its address is set; the controller
-- ends, and these are the last status of a refusal, the last refused record and the units then, or ends and informs the device;
-- the relation is established with what the device chose, the places are known, and the first Write is sent; the Write after this one is sent,
-- because all its records were accepted, or although one was refused; a Write or PrmEnd is refused as busy, and sent again with the end of the
-- second by this request; the controller waits for ApplicationReady; a Release
-- is no longer active; ApplicationReady is answered, and data is exchanged from then on, or was before; a cyclic frame is
-- received; an alarm is received, or the ACK of an AlarmAck of a priority; an output is set, or its status; the application
-- reads or writes a record, or its request is answered; the request after a plug is answered or refused, and the next one is sent if
-- there is one; the ApplicationReady of a plug is answered; a unit of the relation passes, or ends it, or a unit passes without a
-- relation. After an alarm and after each of these answers the turn of a place may begin.
pub data Kind : Type 0 where
  Rests : Kind
  Connects : (source : Mac) → Kind
  Addresses : (source : Mac) → Kind
  Ends : (cause : Cause) → (refusal : Option Status) → (refused : Option RefusedRecord) → (units : ℕ) → Kind
  Releases : (cause : Cause) → (refusal : Option Status) → (refused : Option RefusedRecord) → (units : ℕ) → Kind
  Relates : (places : Told) → (chosen : Chosen) → Kind
  Writes : (number : ℕ) → (tries : Option ℕ) → Kind
  Skips : (number : ℕ) → (tries : Option ℕ) → (refused : ℕ) → (status : Status) → Kind
  Tries : (next : Request) → (status : Status) → Kind
  Waits : (tries : Option ℕ) → Kind
  Forgets : Kind
  Begins : (caller : Caller) → (call : Call) → (block : ControlBlock) → Kind
  Repeats : (caller : Caller) → (call : Call) → (block : ControlBlock) → Kind
  Follows : (source : Mac) → (frame_id : ℕ) → (body : List ℕ) → Kind
  Takes : (number : ℕ) → (report : Report) → Kind
  IsAcked : (priority : Priority) → (number : ℕ) → Kind
  Gives : (slot subslot : ℕ) → (value : List ℕ) → Kind
  GivesStatus : (slot subslot : ℕ) → (is_good : Bool) → Kind
  Asks : (request : RecordRequest) → (octets : List ℕ) → Kind
  IsReplied : (refusal : Option Status) → (access : Accessing) → Kind
  IsPlugAnswered : (refusal : Option Status) → (refused : Option RefusedRecord) → (waited : ℕ) → (places : Told) → (access : Accessing) → Kind
  IsPlugReadied : (caller : Caller) → (call : Call) → (block : PlugControlBlock) → Kind
  Flows : Kind
  Breaks : (reason : Abort) → Kind
  Idles : Kind

-- The turn of each kind.
abbrev pub turn_by : Setup → Live → Kind → Turn
turn_by setup live Rests = stays live
turn_by setup live (Connects source) = asking setup Connecting asks.Connect (record live { device = source })
turn_by setup live (Addresses source) = asking setup Addressing asks.Address (record live { device = source })
turn_by setup live (Ends cause refusal refused units) = stays (over cause (record live { refusal = refusal; refused_record = refused; units = units }))
turn_by setup live (Releases cause refusal refused units) = released setup cause (record live { refusal = refusal; refused_record = refused; units = units })
turn_by setup live (Relates places chosen) = writing setup (writing_from setup.plan 0) (standing setup (record live { places = places }) chosen)
turn_by setup live (Writes number tries) = writing setup (behind_write setup.plan number tries) live
turn_by setup live (Skips number tries refused status) = writing setup (behind_write setup.plan number tries) (noted status refused live)
turn_by setup live (Tries next status) = trying next status live
turn_by setup live (Waits tries) = stays (record live { phase = Waiting; asked = None; left = setup.options.waiting_patience })
turn_by setup live Forgets = stays (record live { asked = None })
turn_by setup live (Begins caller call block) = record {
  live = record live { phase = Exchanging; asked = None; left = 0; cyclic = begun_of live.cyclic };
  sent = Agrees caller (ready_answer call block) ∷ [];
}
turn_by setup live (Repeats caller call block) = record { live = live; sent = Agrees caller (ready_answer call block) ∷ [] }
turn_by setup live (Follows source frame_id body) = stays (record live { cyclic = behind_frame live.cyclic source frame_id body })
turn_by setup live (Takes number report) =
    after_turn setup (can_begin live) (taken (behind_data live report.priority number) report (taken_as (end_of live report.priority).seen number))
turn_by setup live (IsAcked priority number) = stays (behind_ack live priority number)
turn_by setup live (Gives slot subslot value) = stays (given live slot subslot value)
turn_by setup live (GivesStatus slot subslot is_good) = stays (rated live slot subslot is_good)
turn_by setup live (Asks request octets) = accessing request octets live
turn_by setup live (IsReplied refusal access) = after_turn setup (can_begin live) (stays (record live { refusal = refusal; access = access }))
turn_by setup live (IsPlugAnswered refusal refused waited places access) =
    after_turn setup (can_begin live)
    (asks_next (record live { refusal = refusal; refused_record = refused; waited = waited; places = places; access = access }))
turn_by setup live (IsPlugReadied caller call block) = after_turn setup (can_begin live) (record {
  live = plug_readied live block.alarm_sequence_number;
  sent = Agrees caller (plug_answer call block) ∷ [];
})
turn_by setup live Flows = record {
  live = flow_begun setup live;
  sent = due_frames (flow_begun setup live) (is_repeated (due live.alarms.sending)) (is_repeated (due live.low_alarms.sending)) (is_again live) (brought live).is_cyclic;
}
turn_by setup live (Breaks reason) = ended_by (flow_begun setup live) reason
turn_by setup live Idles = record { live = later live; sent = where_due (is_again live) (requests_of live.device live.asked) }

-- ---- when each kind occurs

-- It looks for its station, which is the known one, or one that answered.
pub record IsSought (live : Live) (came : Came) (source : Mac) : Type 0 where
  pub seeking : (live.phase ≡ Looking) ⊎ (live.phase ≡ Addressing)
  pub known : (source ≡ live.device) ⊎ ((answer : Answered) × (came ≡ Hears (Answers source answer)))

-- The active request is answered positively.
pub record IsGranted (setup : Setup) (live : Live) (came : Came) (request : Request) : Type 0 where
  pub stood : live.asked ≡ Some request
  pub response : Response
  pub comes : came ≡ Hears (Responds response)
  pub right : is_answer setup request response.header ≡ true
  pub granted : is_done response.status ≡ true

-- A record that is written is refused, and the plan says that the start-up goes on.
pub record IsSkipped (setup : Setup) (live : Live) (came : Came) (number : ℕ) (tries : Option ℕ) : Type 0 where
  pub stood : live.asked ≡ Some (write_after number tries)
  pub response : Response
  pub comes : came ≡ Hears (Responds response)
  pub right : is_answer setup (write_after number tries) response.header ≡ true
  pub refused : (is_done response.status && are_written setup.plan number response.blocks) ≡ false
  pub goes_on : setup.plan.continue_on_refused_record ≡ true

-- The active Write, or PrmEnd, is refused as busy with this status, and the plan says that it is tried again, by this request.
pub record IsBusy (setup : Setup) (live : Live) (came : Came) (next : Request) (status : Status) : Type 0 where
  pub request : Request
  pub stood : live.asked ≡ Some request
  pub tries : tried_as request ≡ Some next
  pub response : Response
  pub comes : came ≡ Hears (Responds response)
  pub right : is_answer setup request response.header ≡ true
  pub negative : is_done response.status ≡ false
  pub is_status : response.status ≡ status
  pub again : is_tried setup.plan status (tries_before request) ≡ true

-- What a controller finds in the answer to a Connect.
abbrev TypeOf : {A : Type 0} → A → Type 0
TypeOf {A = A} value = A

-- What is found in the blocks of the answer to a Connect.
abbrev pub Found : Type 0
Found = TypeOf nothing

-- What the device chose, if these blocks are the answer to a Connect.
abbrev pub chosen_in : List ℕ → Option Chosen
chosen_in blocks = option_and_then (λ (found : Found). chosen_of found) (found_in 400 blocks nothing)

-- ApplicationReady of the relation is received.
pub record IsReadied (setup : Setup) (came : Came) (caller : Caller) (call : Call) (block : ControlBlock) : Type 0 where
  pub comes : came ≡ Hears (Calls caller call)
  pub is : ready_in call ≡ Some block
  pub right : is_ready setup block ≡ true

-- The answer to the request after a plug is there, and the next one of the same place is made with the next sequence number, or none.
abbrev pub IsStepped : Setup → Live → Accessing → Type 0
IsStepped setup live access =
    (access ≡ unplugged live.access)
    ⊎ ((request : PlugRequest) × (request.sequence ≡ call_number setup.plan live.access.calls) × (access ≡ plugged request (unplugged live.access)))

-- When a controller makes a turn of a kind.
abbrev pub IsKind : Setup → Live → Came → Kind → Type 0
IsKind setup live came Rests = Unit {0}
IsKind setup live came (Connects source) = IsSought live came source
IsKind setup live came (Addresses source) = IsSought live came source × (live.phase ≡ Looking)
IsKind setup live came (Ends cause refusal refused units) = IsGoing setup.plan live × (units ≡ units_behind live came)
IsKind setup live came (Releases cause refusal refused units) = IsGoing setup.plan live × (may_release setup.plan cause ≡ true) × (units ≡ units_behind live came)
IsKind setup live came (Relates places chosen) =
    (granted : IsGranted setup live came asks.Connect) × (chosen_in granted.response.blocks ≡ Some chosen)
    × (places ≡ opened setup.plan 400 granted.response.blocks)
IsKind setup live came (Writes number tries) =
    (granted : IsGranted setup live came (write_after number tries)) × (are_written setup.plan number granted.response.blocks ≡ true)
IsKind setup live came (Skips number tries refused status) = IsSkipped setup live came number tries
IsKind setup live came (Tries next status) = IsBusy setup live came next status
IsKind setup live came (Waits tries) = IsGranted setup live came (end_after tries)
IsKind setup live came Forgets = (heard : Heard) × (came ≡ Hears heard) × IsReleased setup live heard
IsKind setup live came (Begins caller call block) = ((live.phase ≡ Ending) ⊎ (live.phase ≡ Waiting)) × IsReadied setup came caller call block
IsKind setup live came (Repeats caller call block) = (live.phase ≡ Exchanging) × IsReadied setup came caller call block
IsKind setup live came (Follows source frame_id body) = live.stands ≡ true
IsKind setup live came (Takes number report) =
    (live.stands ≡ true) × (source : Mac) × (under : Priority) × (header : Header) × (came ≡ Hears (Alarms source under header (notice.Data number report)))
IsKind setup live came (IsAcked priority number) =
    (live.stands ≡ true) × (source : Mac) × (under : Priority) × (header : Header) × (came ≡ Hears (Alarms source under header (notice.Ack number)))
    × (priority ≡ acked_under live under)
IsKind setup live came (Gives slot subslot value) = came ≡ Gets slot subslot value
IsKind setup live came (GivesStatus slot subslot is_good) = came ≡ GetsStatus slot subslot is_good
IsKind setup live came (Asks request octets) =
    (live.phase ≡ Exchanging) × (live.access.waiting ≡ None) × (request.sequence ≡ call_number setup.plan live.access.calls) × (length octets ≤ most_record_octets)
    × (live.access.plug ≡ None)
IsKind setup live came (IsReplied refusal access) =
    (live.asked ≡ None) × (access.waiting ≡ None) × (access.calls ≡ live.access.calls) × (request : RecordRequest) × (live.access.waiting ≡ Some request)
    × (live.access.plug ≡ None) × (access.plug ≡ None)
IsKind setup live came (IsPlugAnswered refusal refused waited places access) =
    (live.asked ≡ None) × (access.waiting ≡ live.access.waiting) × (access.octets ≡ live.access.octets) × IsStepped setup live access
    × (request : PlugRequest) × (live.access.plug ≡ Some request)
IsKind setup live came (IsPlugReadied caller call block) =
    (live.phase ≡ Exchanging) × (came ≡ Hears (Calls caller call)) × (ready_in call ≡ None) × (plug_ready_in call ≡ Some block)
    × (is_plug_ready setup block ≡ true)
IsKind setup live came Flows = (came ≡ Passes) × (live.stands ≡ true) × ((brought live).ending ≡ None)
IsKind setup live came (Breaks reason) = (came ≡ Passes) × (live.stands ≡ true) × ((brought live).ending ≡ Some reason)
IsKind setup live came Idles = (came ≡ Passes) × (live.stands ≡ false)

-- A turn of one of these kinds.
pub record IsTurn (setup : Setup) (live : Live) (came : Came) (turn : Turn) : Type 0 where
  pub kind : Kind
  pub holds : IsKind setup live came kind
  pub is : turn ≡ turn_by setup live kind
