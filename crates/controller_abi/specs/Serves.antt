-- The result of an operation of a host. `asked` is the operation as the host wrote it, `reported` as the host finds it
-- afterwards: an equation of the whole operation says which fields are written, and with what. All other fields are
-- unchanged, and so are the octets after those that are written. A refused operation changes nothing, neither in the
-- controller nor in the operation.
use Rattle.std.specs.Prelude.{◌≡◌, ◌+◌, ◌*◌, ◌==◌, ◌++◌, nat_lt, ℕ, Bool, true, false, not, if◌then◌else◌, List, [], ◌∷◌, length, min, slice_get, take, Option, Some, None, option_map}
use Rattle.record_blocks.specs.declared.alarm_notification.AlarmNotification.{AlarmNotification}
use Rattle.controller_core.specs.stored.Cause.{number_of}
use Rattle.cyclic_data.specs.exchange.Process.{value_at}
use Rattle.lldp.specs.Peer.{Peer}
use Rattle.lldp.specs.State.{Known}
use Rattle.cyclic_data.specs.declared.exchange.exchange.ProviderStatus.{ProviderStatus}
use Rattle.rpc_core.specs.declared.response.Status.{Status}
use Rattle.diagnosis.specs.declared.reports.priority.Priority.{Priority}
use Rattle.diagnosis.specs.declared.reports.priority.Priority.TheVariants.{High, Low}
use Rattle.diagnosis.specs.declared.reports.report.Report.{Report}
use Rattle.controller_messages.specs.Access.{record_of}
use Rattle.diagnosis.specs.declared.diagnosis.Diagnosis.{Diagnosis}
use Rattle.diagnosis.specs.reported.Reported.{Reported}
use Rattle.controller_core.specs.Machine.{can_request, end_of, provider_of, report_in}
use Rattle.controller_messages.specs.declared.access.Answer.{Answer}
use Rattle.controller_core.specs.declared.stored.state.RefusedRecord.{RefusedRecord}
use Rattle.controller_core.specs.declared.stored.event.Event.{Event}
use Rattle.controller_core.specs.declared.stored.event.Event.TheVariants as event
use Rattle.controller_core.specs.declared.stored.state.State as phase
use Rattle.controller_core.specs.declared.stored.state.State.TheVariants.{Looking, Addressing, Connecting, Writing, Ending, Waiting, Exchanging, Ended}
use Rattle.plan_places.specs.declared.place.PlaceState.{PlaceState}
use Rattle.plan_places.specs.Places.{state_at}
use Rattle.plan_places.specs.Places.{number_of as place_number}
use Rattle.c_layout.specs.declared.op.Op.{Op}
use Rattle.c_layout.specs.Places.{place_in}
use Rattle.c_layout.specs.Reported.{with_octets}
use Rattle.controller_abi.specs.declared.operation.Operation.{Operation}
use Rattle.controller_abi.specs.declared.operation.Operation.TheVariants as operation
use Rattle.controller_abi.specs.Outputs.{output_at, why_not_rated, why_not_read, why_not_set, why_not_written}
use Rattle.controller_abi.specs.State.{State, advanced, after, has_frames, port_due_in}
use Rattle.controller_abi.specs.Steps.{Passes}

-- The operation of a number.
abbrev pub operation_of : ℕ → Option Operation
operation_of what =
    if what == 3 then Some operation.Frame else
    if what == 4 then Some operation.Tick else
    if what == 5 then Some operation.Give else
    if what == 7 then Some operation.Next else
    if what == 8 then Some operation.Value else
    if what == 9 then Some operation.State else
    if what == 12 then Some operation.Alarm else
    if what == 13 then Some operation.Stop else
    if what == 15 then Some operation.Due else
    if what == 16 then Some operation.Status else
    if what == 18 then Some operation.Provider else
    if what == 19 then Some operation.Conflicts else
    if what == 20 then Some operation.Refusal else
    if what == 30 then Some operation.ReadRecord else
    if what == 31 then Some operation.WriteRecord else
    if what == 32 then Some operation.Answer else
    if what == 33 then Some operation.RefusedRecord else
    if what == 34 then Some operation.Report else
    if what == 35 then Some operation.Diagnoses else
    if what == 36 then Some operation.Diagnosis else
    if what == 37 then Some operation.Neighbour else
    if what == 38 then Some operation.Place else None

-- ---- events

-- An event is one step of the controller, whose frames then wait to be fetched. If frames of the step before remain it
-- is refused: 7, and nothing changes.
abbrev pub IsEvent : Bool → State → Event → ℕ → State → Type 0
IsEvent true old event answer new = (answer ≡ 7) × (new ≡ old)
IsEvent false old event answer new = (answer ≡ 0) × (new ≡ after old event)

-- Why no output is set at an invalid place.
abbrev pub why_no_place : Bool → ℕ
why_no_place true = 7
why_no_place false = 9

-- The output of a submodule is set by one step of the controller, or it is refused: with why, and then nothing changes.
abbrev pub IsSet : Option ℕ → State → Event → ℕ → State → Type 0
IsSet (Some why) old event answer new = (answer ≡ why) × (new ≡ old)
IsSet None old event answer new = (answer ≡ 0) × (new ≡ after old event)

-- The number of octets of the output at a place of the plan of a controller.
abbrev pub planned_output : State → ℕ → ℕ → Option ℕ
planned_output port slot subslot = output_at slot subslot port.controller.setup.plan.real.modules.items

-- The output of a submodule is set, if the plan has one of this length there. A slot or subslot that is not a number of
-- 16 bits names no submodule.
abbrev pub IsGift : Option (ℕ × ℕ) → State → List ℕ → ℕ → State → Type 0
IsGift (Some place) old given answer new =
    IsSet (why_not_set (has_frames old.frames) (planned_output old place.0 place.1) (length given)) old
    (event.Give place.0 place.1 (record { items = take 1519 given })) answer new
IsGift None old given answer new = (answer ≡ why_no_place (has_frames old.frames)) × (new ≡ old)

-- The status of the output of a submodule is set by one step of the controller, if the plan has one there.
abbrev pub IsStatus : Option (ℕ × ℕ) → State → Bool → ℕ → State → Type 0
IsStatus (Some place) old is_good answer new =
    IsSet (why_not_rated (has_frames old.frames) (planned_output old place.0 place.1)) old (event.Status place.0 place.1 is_good) answer new
IsStatus None old is_good answer new = (answer ≡ why_no_place (has_frames old.frames)) × (new ≡ old)

-- The index of a record, if it is a number of 16 bits.
abbrev pub index_in : ℕ → Option ℕ
index_in index = if nat_lt index 65536 then Some index else None

-- A request of the application is one step of the controller, which sends it; or it is refused, with why.
abbrev pub IsRead : Option (ℕ × ℕ) → Option ℕ → State → ℕ → State → Type 0
IsRead (Some place) (Some index) old answer new =
    IsSet (why_not_read (has_frames old.frames) (can_request old.controller.live)) old (event.Read place.0 place.1 index) answer new
IsRead (Some place) None old answer new = (answer ≡ why_no_place (has_frames old.frames)) × (new ≡ old)
IsRead None index old answer new = (answer ≡ why_no_place (has_frames old.frames)) × (new ≡ old)

-- What the operation Write does, with its place and index if they are numbers of 16 bits.
abbrev pub IsWrite : Option (ℕ × ℕ) → Option ℕ → State → List ℕ → ℕ → State → Type 0
IsWrite (Some place) (Some index) old given answer new =
    IsSet (why_not_written (has_frames old.frames) (can_request old.controller.live) (length given)) old
    (event.Write place.0 place.1 index (record { items = take 1519 given })) answer new
IsWrite (Some place) None old given answer new = (answer ≡ why_no_place (has_frames old.frames)) × (new ≡ old)
IsWrite None index old given answer new = (answer ≡ why_no_place (has_frames old.frames)) × (new ≡ old)

-- Units of time passed, and the number that remains is reported.
pub record IsPast (old : State) (asked : Op) (answer : ℕ) (new : State) (reported : Op) : Type 0 where
  pub answered : answer ≡ 0
  pub left : ℕ
  pub passes : Passes old asked.units left new
  pub units : reported ≡ record asked { units = left }

-- What the operation Tick does: nothing while frames wait.
abbrev pub IsTick : Bool → State → Op → ℕ → State → Op → Type 0
IsTick true old asked answer new reported = (answer ≡ 7) × (new ≡ old) × (reported ≡ asked)
IsTick false old asked answer new reported = IsPast old asked answer new reported

-- ---- frames

-- The next frame is handed out: its octets, and 3; 0 if none remains.
abbrev pub with_next : List (List ℕ) → Op → Op
with_next [] asked = record asked { work = 0; length = 0 }
with_next (frame ∷ frames) asked = with_octets frame (record asked { work = 3 })

-- It is reported, and marked as fetched.
pub record IsHandOut (old : State) (asked : Op) (answer : ℕ) (new : State) (reported : Op) : Type 0 where
  pub answered : answer ≡ 0
  pub handed : reported ≡ with_next old.frames asked
  pub taken : new ≡ advanced old

-- ---- values that are reported

-- The input of a submodule; 9 if it has no place.
abbrev pub IsValue : Option (List ℕ) → Op → ℕ → Op → Type 0
IsValue (Some value) asked answer reported = (answer ≡ 0) × (reported ≡ with_octets value asked)
IsValue None asked answer reported = (answer ≡ 9) × (reported ≡ asked)

-- What the operation Input returns.
abbrev pub IsInput : Option (ℕ × ℕ) → State → Op → ℕ → Op → Type 0
IsInput (Some place) port asked answer reported = IsValue (value_at port.controller.live.cyclic place.0 place.1) asked answer reported
IsInput None port asked answer reported = (answer ≡ 9) × (reported ≡ asked)

-- What the device says of the input of a submodule: its IOPS, and the DataStatus of the frame; 24 if no frame with it was accepted.
abbrev pub with_statuses : ProviderStatus → Op → Op
with_statuses status asked = record asked { iops = status.iops; data_status = status.data_status.0 }

-- What the operation Provider returns of a status, if there is one.
abbrev pub IsProviderAt : Option ProviderStatus → Op → ℕ → Op → Type 0
IsProviderAt (Some status) asked answer reported = (answer ≡ 0) × (reported ≡ with_statuses status asked)
IsProviderAt None asked answer reported = (answer ≡ 24) × (reported ≡ asked)

-- What the operation Provider returns.
abbrev pub IsProvider : Option (ℕ × ℕ) → State → Op → ℕ → Op → Type 0
IsProvider (Some place) port asked answer reported = IsProviderAt (provider_of port.controller.live place.0 place.1) asked answer reported
IsProvider None port asked answer reported = (answer ≡ 24) × (reported ≡ asked)

-- The number of each state, as a host sees it.
abbrev pub phase_number : phase.State → ℕ
phase_number Looking = 1
phase_number Addressing = 2
phase_number Connecting = 3
phase_number Writing = 4
phase_number Ending = 5
phase_number Waiting = 6
phase_number Exchanging = 7
phase_number (Ended cause) = 8

-- Why a controller ended, 0 if it did not.
abbrev pub cause_number : phase.State → ℕ
cause_number Looking = 0
cause_number Addressing = 0
cause_number Connecting = 0
cause_number Writing = 0
cause_number Ending = 0
cause_number Waiting = 0
cause_number Exchanging = 0
cause_number (Ended cause) = number_of cause

-- Its phase, and why it ended.
abbrev pub with_state : phase.State → Op → Op
with_state reached asked = record asked { phase = phase_number reached; cause = cause_number reached }

-- An alarm: its type, its submodule, its AlarmSpecifier and the first 1,520 octets of its data.
abbrev pub with_alarm : AlarmNotification → Op → Op
with_alarm alarm asked = with_octets (take 1520 alarm.alarm_data)
    (record asked { alarm_type = alarm.alarm_type; slot = alarm.slot_number; subslot = alarm.subslot_number; specifier = alarm.alarm_specifier })

-- The last alarm that was accepted; 9 if none was.
abbrev pub IsAlarm : Option AlarmNotification → Op → ℕ → Op → Type 0
IsAlarm (Some alarm) asked answer reported = (answer ≡ 0) × (reported ≡ with_alarm alarm asked)
IsAlarm None asked answer reported = (answer ≡ 9) × (reported ≡ asked)

-- How many conflicts of the controller's address were heard, at most the maximum of 32 bits.
abbrev pub with_conflicts : ℕ → Op → Op
with_conflicts conflicts asked = record asked { count = min conflicts 4294967295 }

-- A status as a number: its first octet is the highest.
abbrev pub status_number : Status → ℕ
status_number status = ((status.code * 256 + status.decode) * 256 + status.code1) * 256 + status.code2

-- The last status with which the device refused a call; 25 if it refused none.
abbrev pub IsRefusal : Option Status → Op → ℕ → Op → Type 0
IsRefusal (Some status) asked answer reported = (answer ≡ 0) × (reported ≡ record asked { status = status_number status })
IsRefusal None asked answer reported = (answer ≡ 25) × (reported ≡ asked)

-- The last record of the plan that the device refused: its place in the plan, and the status; 25 if it refused none.
abbrev pub IsRefusedRecord : Option RefusedRecord → Op → ℕ → Op → Type 0
IsRefusedRecord (Some refused) asked answer reported =
    (answer ≡ 0) × (reported ≡ record asked { number = refused.number; status = status_number refused.status })
IsRefusedRecord None asked answer reported = (answer ≡ 25) × (reported ≡ asked)

-- What the last request of the application was answered with: its status, 0 if it succeeded, and the record that it read;
-- 27 if no request was made, if it waits, or if the relation ended before its answer.
abbrev pub IsAnswered : Option Answer → List ℕ → Op → ℕ → Op → Type 0
IsAnswered (Some said) octets asked answer reported =
    (answer ≡ 0) × (reported ≡ with_octets (take 1520 octets) (record asked { status = status_number said.status }))
IsAnswered None octets asked answer reported = (answer ≡ 27) × (reported ≡ asked)

-- The priority that is asked for: 0 for high.
abbrev pub priority_in : ℕ → Priority
priority_in is_low = if is_low == 0 then High else Low

-- The UserStructureIdentifier of an alarm; 65,536 if it has none.
abbrev pub structure_number : Option ℕ → ℕ
structure_number (Some structure) = structure
structure_number None = 65536

-- The last alarm of a priority, its UserStructureIdentifier and its SendSeqNum; 9 if none was accepted.
abbrev pub with_report : Report → ℕ → Op → Op
with_report report number asked =
    with_alarm report.notification (record asked { structure = structure_number report.user_structure; sequence = number })

-- What the operation Alarm returns of the last alarm, if one was accepted.
abbrev pub IsReported : Option Report → Option ℕ → Op → ℕ → Op → Type 0
IsReported (Some report) (Some number) asked answer reported = (answer ≡ 0) × (reported ≡ with_report report number asked)
IsReported (Some report) None asked answer reported = (answer ≡ 9) × (reported ≡ asked)
IsReported None number asked answer reported = (answer ≡ 9) × (reported ≡ asked)

-- How many diagnoses exist, as the device's alarms reported them, and how many found no room in the list.
abbrev pub with_diagnoses : Reported → Op → Op
with_diagnoses diagnosis asked = record asked { count = length diagnosis.existing; left_out = diagnosis.left_out }

-- One of them by its place in the list: its submodule, its ChannelNumber and its ChannelErrorType; 9 if the list is shorter.
abbrev pub with_diagnosis : Diagnosis → Op → Op
with_diagnosis diagnosis asked =
    record asked { slot = diagnosis.slot; subslot = diagnosis.subslot; channel = diagnosis.channel; error = diagnosis.error }

-- What the operation Diagnosis returns, if there is a diagnosis at its place.
abbrev pub IsDiagnosis : Option Diagnosis → Op → ℕ → Op → Type 0
IsDiagnosis (Some diagnosis) asked answer reported = (answer ≡ 0) × (reported ≡ with_diagnosis diagnosis asked)
IsDiagnosis None asked answer reported = (answer ≡ 9) × (reported ≡ asked)

-- What is known of a place: the number of its state; 9 if it is no place of the plan, or no relation is established.
abbrev pub IsPlaceIn : Option PlaceState → Op → ℕ → Op → Type 0
IsPlaceIn (Some state) asked answer reported = (answer ≡ 0) × (reported ≡ record asked { phase = place_number state })
IsPlaceIn None asked answer reported = (answer ≡ 9) × (reported ≡ asked)

-- What the operation Place returns. A slot or subslot that is not a number of 16 bits names no place.
abbrev pub IsPlace : Option (ℕ × ℕ) → State → Op → ℕ → Op → Type 0
IsPlace (Some place) port asked answer reported = IsPlaceIn (state_at place.0 place.1 port.controller.live.places) asked answer reported
IsPlace None port asked answer reported = (answer ≡ 9) × (reported ≡ asked)

-- The neighbour by LLDP: the lengths of its PortID and of its ChassisID, and the octets of its MAC address, PortID and
-- ChassisID; 9 if none is known.
abbrev pub with_neighbour : Peer → Op → Op
with_neighbour peer asked =
    with_octets (peer.mac.octets ++ peer.port ++ peer.chassis) (record asked { port_length = length peer.port; chassis_length = length peer.chassis })

-- What the operation Neighbour returns, if one is known.
abbrev pub IsNeighbour : Option Peer → Op → ℕ → Op → Type 0
IsNeighbour (Some peer) asked answer reported = (answer ≡ 0) × (reported ≡ with_neighbour peer asked)
IsNeighbour None asked answer reported = (answer ≡ 9) × (reported ≡ asked)

-- ---- all of them

-- The result of an operation of a controller that started: 10 if there is no such operation.
abbrev pub Performs : Option Operation → State → Op → List ℕ → ℕ → State → Op → Type 0
Performs (Some operation.Frame) old asked given answer new reported =
    (reported ≡ asked) × IsEvent (has_frames old.frames) old (event.Frame (record { items = take 1519 given })) answer new
Performs (Some operation.Tick) old asked given answer new reported = IsTick (has_frames old.frames) old asked answer new reported
Performs (Some operation.Give) old asked given answer new reported =
    (reported ≡ asked) × IsGift (place_in asked.slot asked.subslot) old given answer new
Performs (Some operation.Next) old asked given answer new reported = IsHandOut old asked answer new reported
Performs (Some operation.Value) old asked given answer new reported =
    (new ≡ old) × IsInput (place_in asked.slot asked.subslot) old asked answer reported
Performs (Some operation.State) old asked given answer new reported =
    (new ≡ old) × (answer ≡ 0) × (reported ≡ with_state old.controller.live.phase asked)
Performs (Some operation.Alarm) old asked given answer new reported = (new ≡ old) × IsAlarm old.controller.live.alarm asked answer reported
Performs (Some operation.Stop) old asked given answer new reported =
    (reported ≡ asked) × IsEvent (has_frames old.frames) old event.Stop answer new
Performs (Some operation.Due) old asked given answer new reported =
    (new ≡ old) × (answer ≡ 0) × (reported ≡ record asked { due = port_due_in old })
Performs (Some operation.Status) old asked given answer new reported =
    (reported ≡ asked) × IsStatus (place_in asked.slot asked.subslot) old (not (asked.is_good == 0)) answer new
Performs (Some operation.Provider) old asked given answer new reported =
    (new ≡ old) × IsProvider (place_in asked.slot asked.subslot) old asked answer reported
Performs (Some operation.Conflicts) old asked given answer new reported =
    (new ≡ old) × (answer ≡ 0) × (reported ≡ with_conflicts old.services.ip.conflicts asked)
Performs (Some operation.Refusal) old asked given answer new reported =
    (new ≡ old) × IsRefusal old.controller.live.refusal asked answer reported
Performs (Some operation.ReadRecord) old asked given answer new reported =
    (reported ≡ asked) × IsRead (place_in asked.slot asked.subslot) (index_in asked.index) old answer new
Performs (Some operation.WriteRecord) old asked given answer new reported =
    (reported ≡ asked) × IsWrite (place_in asked.slot asked.subslot) (index_in asked.index) old given answer new
Performs (Some operation.Answer) old asked given answer new reported =
    (new ≡ old) × IsAnswered old.controller.live.access.answer (record_of old.controller.live.access) asked answer reported
Performs (Some operation.RefusedRecord) old asked given answer new reported =
    (new ≡ old) × IsRefusedRecord old.controller.live.refused_record asked answer reported
Performs (Some operation.Report) old asked given answer new reported =
    (new ≡ old) × IsReported (report_in old.controller.live (priority_in asked.is_low))
    (end_of old.controller.live (priority_in asked.is_low)).seen asked answer reported
Performs (Some operation.Diagnoses) old asked given answer new reported =
    (new ≡ old) × (answer ≡ 0) × (reported ≡ with_diagnoses old.controller.live.diagnosis asked)
Performs (Some operation.Diagnosis) old asked given answer new reported =
    (new ≡ old) × IsDiagnosis (slice_get old.controller.live.diagnosis.existing asked.number) asked answer reported
Performs (Some operation.Neighbour) old asked given answer new reported =
    (new ≡ old) × IsNeighbour (option_map (λ (k : Known). k.peer) old.services.near.known) asked answer reported
Performs (Some operation.Place) old asked given answer new reported =
    (new ≡ old) × IsPlace (place_in asked.slot asked.subslot) old asked answer reported
Performs None old asked given answer new reported = (answer ≡ 10) × (new ≡ old) × (reported ≡ asked)

-- The result of an operation: 17 for each one if the controller did not start, and nothing changes.
abbrev pub ServesIf : Bool → Option Operation → State → Op → List ℕ → ℕ → State → Op → Type 0
ServesIf true what old asked given answer new reported = Performs what old asked given answer new reported
ServesIf false what old asked given answer new reported = (answer ≡ 17) × (new ≡ old) × (reported ≡ asked)

-- What each operation does.
abbrev pub Serves : Option Operation → State → Op → List ℕ → ℕ → State → Op → Type 0
Serves what old asked given answer new reported = ServesIf old.is_started what old asked given answer new reported
