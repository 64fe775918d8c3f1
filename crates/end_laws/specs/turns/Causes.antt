-- Why a controller ends: each cause has its event, and each end is reported to the device as its cause says.
use Rattle.std.specs.Prelude.{◌≡◌, ◌≢◌, ◌⊎◌, ◌++◌, ◌∷◌, [], ℕ, Bool, true, false, List, Option, Some}
use Rattle.pn_values.specs.declared.mac.Mac.{Mac}
use Rattle.dcp_core.specs.declared.kind.Kind.TheVariants.{NameOfStation, DeviceId}
use Rattle.dcp_core.specs.declared.request.Service.TheVariants.{Identify}
use Rattle.dcp_core.specs.Response.{Answered}
use Rattle.dcp_core.specs.Answered.{is_agreed, value_among}
use Rattle.rpc_core.specs.declared.header.CallHeader.{CallHeader}
use Rattle.rpc_core.specs.declared.response.Status.{Status}
use Rattle.rpc_core.specs.Response.{Answered as Response, is_done}
use Rattle.pn_alarms.specs.declared.abort.Abort.{Abort}
use Rattle.pn_alarms.specs.declared.abort.Abort.TheVariants as reason
use Rattle.pn_alarms.specs.declared.message.Notice.TheVariants as notice
use Rattle.pn_alarms.specs.declared.pdu.Header.{Header}
use Rattle.pn_alarms.specs.declared.pdu.PduType.TheVariants as pdu
use Rattle.pn_alarms.specs.declared.repeats.Due.TheVariants.{Spent}
use Rattle.pn_alarms.specs.Controller.{controller_later}
use Rattle.pn_alarms.specs.Sending.{due, either_due}
use Rattle.cyclic_data.specs.exchange.Units.{is_silent}
use Rattle.connects.specs.declared.answers.connect.Found.{Found}
use Rattle.connects.specs.answers.Connect.{found_in, is_whole, nothing}
use Rattle.diagnosis.specs.declared.reports.priority.Priority.{Priority}
use Rattle.plans.specs.declared.parts.Parts.{Parts}
use Rattle.controller_messages.specs.declared.setup.ControllerOptions.{ControllerOptions}
use Rattle.controller_messages.specs.declared.setup.Setup.{Setup}
use Rattle.controller_messages.specs.declared.request.Request.{Request}
use Rattle.controller_messages.specs.declared.request.Request.TheVariants as asks
use Rattle.controller_messages.specs.Heard.{Heard, Answers, Responds, Refuses, Alarms}
use Rattle.controller_messages.specs.Sent.{Requests, Ends, bytes_of}
use Rattle.controller_core.specs.declared.stored.event.Event.{Event}
use Rattle.controller_core.specs.declared.stored.state.Cause.{Cause}
use Rattle.controller_core.specs.declared.stored.state.Cause.TheVariants as why
use Rattle.controller_core.specs.declared.stored.state.State.{State}
use Rattle.controller_core.specs.declared.stored.state.State.TheVariants.{Looking, Addressing, Ended}
use Rattle.controller_core.specs.start_up.Answers.{ident_bytes, is_state_conflict}
use Rattle.controller_core.specs.start_up.Outcomes.{are_written}
use Rattle.controller_core.specs.start_up.Requests.{write_after}
use Rattle.controller_core.specs.stored.Alarms.{header_of, is_alarm}
use Rattle.controller_core.specs.stored.State.{Controlling, Live, is_limited}
use Rattle.controller_core.specs.Machine.{fresh_with, step_of}
use Rattle.end_laws.specs.turns.Belongs.{waiting_in}
use Rattle.end_laws.specs.turns.Runs.{behind_all}
use Rattle.end_laws.specs.turns.Turns.{Came, Hears, Passes, Halts, came_by}

-- Whether it has ended.
abbrev pub has_ended : State → Bool
has_ended (Ended cause) = true
has_ended state = false

-- ---- the event of each cause

-- The answer to its Identify, of the station with the plan's name, which has another VendorID or DeviceID than the plan's.
pub record IsOfWrongDevice (setup : Setup) (live : Live) (came : Came) : Type 0 where
  pub source : Mac
  pub answer : Answered
  pub comes : came ≡ Hears (Answers source answer)
  pub looks : live.phase ≡ Looking
  pub identifies : answer.service ≡ Identify
  pub supported : answer.is_supported ≡ true
  pub asked : answer.xid ≡ 1
  pub named : value_among NameOfStation answer.blocks ≡ Some setup.plan.station.name
  pub other : value_among DeviceId answer.blocks ≢ Some (ident_bytes setup.plan.station)

-- The activity and the number of the call that waits for its answer.
pub record IsOfTheCall (setup : Setup) (live : Live) (activity : List ℕ) (sequence : ℕ) : Type 0 where
  pub call : CallHeader
  pub waits : waiting_in setup live ≡ Some call
  pub activity_is : call.activity ≡ activity
  pub sequence_is : call.sequence ≡ sequence

-- A response with an error, or one to a Write that says of a record that it was refused.
abbrev pub IsNegative : Setup → Option Request → Response → Type 0
IsNegative setup asked response =
    (is_done response.status ≡ false) ⊎ ((number : ℕ) × (tries : Option ℕ) × (asked ≡ Some (write_after number tries)) × (are_written setup.plan number response.blocks ≡ false))

-- The device refuses its address by DCP, or the call that waits, by a response, a reject or a fault.
abbrev pub IsRefusalIn : Setup → Live → Heard → Type 0
IsRefusalIn setup live (Answers source answer) = (live.phase ≡ Addressing) × (is_agreed answer ≡ false)
IsRefusalIn setup live (Responds response) = IsOfTheCall setup live response.header.activity response.header.sequence × IsNegative setup live.asked response
IsRefusalIn setup live (Refuses refusal) = IsOfTheCall setup live refusal.activity refusal.sequence
IsRefusalIn setup live heard = ⊥

-- What comes is a message that refuses the request of this controller.
abbrev pub IsRefusal : Setup → Live → Came → Type 0
IsRefusal setup live came = (heard : Heard) × (came ≡ Hears heard) × IsRefusalIn setup live heard

-- The positive response to its Connect, with all blocks of one, of which a ModuleDiffBlock lists a wrong module.
pub record HasWrongModule (setup : Setup) (live : Live) (came : Came) : Type 0 where
  pub response : Response
  pub comes : came ≡ Hears (Responds response)
  pub connects : live.asked ≡ Some asks.Connect
  pub of_it : IsOfTheCall setup live response.header.activity response.header.sequence
  pub granted : is_done response.status ≡ true
  pub found : Found
  pub read : found_in 400 response.blocks nothing ≡ Some found
  pub whole : is_whole found ≡ true
  pub differs : found.differs ≡ true

-- The last unit that its state may last.
abbrev pub IsOutOfTime : Live → Came → Type 0
IsOutOfTime live came = (came ≡ Passes) × (is_limited live.phase ≡ true) × (live.left ≡ 1)

-- A unit with which no frame of inputs was accepted for the data hold time, of an established relation, unless its state may not
-- last longer either.
abbrev pub IsUnheard : Live → Came → Type 0
IsUnheard live came = (came ≡ Passes) × (live.stands ≡ true) × (is_silent live.cyclic ≡ true) × (IsOutOfTime live came → ⊥)

-- Before that, a unit with which an AlarmAck of either priority was sent as often as the plan says, and got no ACK.
abbrev pub IsUnacknowledged : Live → Came → Type 0
IsUnacknowledged live came =
    (came ≡ Passes) × (live.stands ≡ true) × (is_silent live.cyclic ≡ false) × (either_due (due live.alarms.sending) (due live.low_alarms.sending) ≡ Spent)
    × (IsOutOfTime live came → ⊥)

-- An ERR of the device, in the established relation.
pub record IsAborted (live : Live) (came : Came) : Type 0 where
  pub source : Mac
  pub under : Priority
  pub header : Header
  pub status : Status
  pub comes : came ≡ Hears (Alarms source under header (notice.Abort status))
  pub stands : live.stands ≡ true
  pub own : is_alarm live.cyclic.route source header ≡ true

-- What comes is the event of this cause.
abbrev pub HasCause : Setup → Live → Came → Cause → Type 0
HasCause setup live came why.WrongDevice = IsOfWrongDevice setup live came
HasCause setup live came why.Refused = IsRefusal setup live came
HasCause setup live came why.ModuleDiff = HasWrongModule setup live came
HasCause setup live came why.DataHold = IsUnheard live came
HasCause setup live came why.Aborted = IsAborted live came
HasCause setup live came why.AlarmRetries = IsUnacknowledged live came
HasCause setup live came why.Stopped = came ≡ Halts
HasCause setup live came why.NoProgress = IsOutOfTime live came

-- ---- what is sent with the end

-- A Release of the relation, and nothing else.
abbrev pub IsReleaseAlone : Setup → Live → List (List ℕ) → Type 0
IsReleaseAlone setup live frames = (sequence : ℕ) × (frames ≡ bytes_of setup (Requests live.device (asks.Release sequence)) ∷ [])

-- An ERR for this reason, in the established relation, and nothing else.
abbrev pub IsErrAlone : Setup → Live → Abort → List (List ℕ) → Type 0
IsErrAlone setup live because frames =
    frames ≡ bytes_of setup (Ends live.cyclic.route (header_of (controller_later live.alarms) live.cyclic.route pdu.Error) because) ∷ []

-- Nothing before the Connect was sent, and from then on the Release.
abbrev pub IsReleaseFromConnect : Setup → Live → State → List (List ℕ) → Type 0
IsReleaseFromConnect setup live Looking frames = frames ≡ []
IsReleaseFromConnect setup live Addressing frames = frames ≡ []
IsReleaseFromConnect setup live state frames = IsReleaseAlone setup live frames

-- The Connect of this controller is refused with State conflict: the device holds the relation already.
pub record IsHeldAlready (live : Live) (came : Came) : Type 0 where
  pub response : Response
  pub comes : came ≡ Hears (Responds response)
  pub connects : live.asked ≡ Some asks.Connect
  pub conflicts : is_state_conflict response.status ≡ true

-- The plan says that the device is informed of this refusal: of each of a record, or of State conflict of the Connect.
abbrev pub IsInformed : Setup → Live → Came → Type 0
IsInformed setup live came = (setup.plan.release_on_refused_record ≡ true) ⊎ ((setup.plan.persistent_start ≡ true) × IsHeldAlready live came)

-- These are the frames by which an end with this cause is reported to the device: an ERR, a Release, or none.
abbrev pub IsToldAs : Setup → Live → Came → Cause → List (List ℕ) → Type 0
IsToldAs setup live came why.WrongDevice frames = frames ≡ []
IsToldAs setup live came why.Refused frames = (frames ≡ []) ⊎ (IsInformed setup live came × IsReleaseAlone setup live frames)
IsToldAs setup live came why.ModuleDiff frames = IsReleaseAlone setup live frames
IsToldAs setup live came why.DataHold frames = IsErrAlone setup live reason.DataHold frames
IsToldAs setup live came why.Aborted frames = frames ≡ []
IsToldAs setup live came why.AlarmRetries frames = IsErrAlone setup live reason.Other frames
IsToldAs setup live came why.Stopped frames = IsReleaseFromConnect setup live live.phase frames
IsToldAs setup live came why.NoProgress frames = IsReleaseFromConnect setup live live.phase frames

-- ---- the law

-- An event after which a controller has ended, and before which it had not, is that of its cause, and it is reported to the device as the
-- cause says.
pub record EndsBy (controller : Controlling) (event : Event) (cause : Cause) : Type 0 where
  pub cause_is : HasCause controller.setup controller.live (came_by controller.setup event) cause
  pub told : IsToldAs controller.setup controller.live (came_by controller.setup event) cause (step_of controller event).frames

-- An event with which a controller ends is that of its cause, and what is then sent is what the cause says.
abbrev pub EachEndHasItsCause : Type 0
EachEndHasItsCause = (controller : Controlling) (event : Event) (cause : Cause) → has_ended controller.live.phase ≡ false
    → (step_of controller event).controller.live.phase ≡ Ended cause → EndsBy controller event cause

-- Each event that is that of a cause ends a controller for it. A refusal may be one of a record, after which the plan goes on.
abbrev pub IsNoRefusal : Cause → Type 0
IsNoRefusal why.Refused = ⊥
IsNoRefusal cause = Unit {0}

-- The event of each cause, except a refusal, ends a controller that has not ended, with this cause.
abbrev pub EachCauseEnds : Type 0
EachCauseEnds = (controller : Controlling) (event : Event) (cause : Cause) → has_ended controller.live.phase ≡ false → IsNoRefusal cause
    → HasCause controller.setup controller.live (came_by controller.setup event) cause
    → (step_of controller event).controller.live.phase ≡ Ended cause

-- Among the events of a run at whose end a controller has ended, there is the one that ended it, for that cause: before it the
-- controller had not ended.
pub record WasEnded (first : Controlling) (events : List Event) (cause : Cause) : Type 0 where
  pub before : List Event
  pub event : Event
  pub later : List Event
  pub all : events ≡ before ++ event ∷ later
  pub going : has_ended (behind_all before first).live.phase ≡ false
  pub ends : EndsBy (behind_all before first) event cause

-- In any run of a new controller that has ended, one of the events is that of its cause, and ended it.
abbrev pub EachRunHasItsCause : Type 0
EachRunHasItsCause = (plan : Parts) (ar activity : List ℕ) (options : ControllerOptions) (events : List Event) (cause : Cause)
    → (behind_all events (fresh_with plan ar activity options)).live.phase ≡ Ended cause → WasEnded (fresh_with plan ar activity options) events cause
