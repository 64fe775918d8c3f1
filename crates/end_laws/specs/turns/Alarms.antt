-- The alarms of one priority of a relation, between a device's end and a controller: what may happen to either, in any order
-- and number.
use Rattle.std.specs.Prelude.{◌≡◌, ◌≤◌, ◌+◌, ◌==◌, ◌&&◌, ◌++◌, ℕ, Bool, true, false, List, [], ◌∷◌, length, slice_get, if◌then◌else◌, Option, Some, None}
use Rattle.std.specs.List.{AllByRecursion}
use Rattle.pn_values.specs.declared.mac.Mac.{Mac}
use Rattle.record_blocks.specs.declared.alarm_notification.AlarmNotification.{AlarmNotification}
use Rattle.pn_alarms.specs.declared.message.Notice.TheVariants as notice
use Rattle.pn_alarms.specs.declared.pdu.Header.{Header}
use Rattle.pn_alarms.specs.Device.{end_behind, end_later, end_with, idle}
use Rattle.pn_alarms.specs.Ends.{DeviceEnd}
use Rattle.pn_alarms.specs.Numbers.{send_number}
use Rattle.pn_alarms.specs.Sending.{due}
use Rattle.diagnosis.specs.declared.reports.priority.Priority.{Priority}
use Rattle.diagnosis.specs.declared.reports.priority.Priority.TheVariants.{High, Low}
use Rattle.diagnosis.specs.declared.reports.report.Report.{Report}
use Rattle.diagnosis.specs.Line.{Line, empty, with_come, with_sent}
use Rattle.diagnosis.specs.World.{IsPrefixOf, line_after}
use Rattle.diagnosis.specs.reported.Channel.{channel_report}
use Rattle.diagnosis.specs.reported.Pulled.{pulled_by}
use Rattle.diagnosis.specs.reported.Reported.{Reported, after_report, nothing_reported}
use Rattle.controller_messages.specs.declared.record_request.RecordService.TheVariants as service
use Rattle.controller_messages.specs.declared.setup.Setup.{Setup}
use Rattle.controller_messages.specs.Heard.{Heard, Alarms}
use Rattle.controller_messages.specs.Sent.{Sent, Confirms}
use Rattle.controller_core.specs.stored.Alarms.{is_alarm, kept_alarm}
use Rattle.controller_core.specs.Machine.{Turn, end_of, first, given, rated, requested, stays, stopped, ticked, turned, written}
use Rattle.controller_core.specs.stored.State.{Live}

-- ---- priorities

-- Whether two priorities are the same.
abbrev pub is_priority : Priority → Priority → Bool
is_priority High High = true
is_priority Low Low = true
is_priority _ _ = false

-- What a device of this product sends as an alarm of a priority: a process alarm has the UserStructureIdentifier 1, a change
-- of diagnosis 0x8000, and a pull or a plug, which has no data, none.
abbrev pub structure_of : Priority → AlarmNotification → Option ℕ
structure_of High alarm = Some 1
structure_of Low alarm = if length alarm.alarm_data == 0 then None else Some 0x8000

-- An AlarmNotification as the controller reads it, with this priority.
abbrev pub report_as : Priority → AlarmNotification → Report
report_as priority alarm = record { priority = priority; notification = alarm; user_structure = structure_of priority alarm }

-- The last alarm of a priority that a controller accepted, as it stores it.
abbrev pub shown_of : Priority → Live → Option AlarmNotification
shown_of High live = live.alarm
shown_of Low live = live.low_alarm

-- ---- what there is

-- The device's end; the state of the controller; the alarms: those that were raised, each PDU of one that the device's
-- end ever sent, and those that the controller accepted; and each message that the controller ever sent.
pub record Relation : Type 0 where
  pub device : DeviceEnd
  pub live : Live
  pub alarms : Line AlarmNotification
  pub reported : List Sent

-- What may happen: the device raises an alarm; a unit passes at its end; the message at this position, of all that the
-- controller ever sent, arrives at it; an ACK arrives at it, of any number; the data at this position, of all that it ever
-- sent, arrives at the controller in a frame of this station with these endpoints and under this FrameID; anything else is
-- received by the controller, also an ACK of any number, an ERR, a NACK, or any data of the other priority; a unit passes
-- at the controller; or its application sets an output or its status, reads or writes a record, or stops it.
pub data Move : Type 0 where
  Raises : (alarm : AlarmNotification) → Move
  PassesAtDevice : Move
  ComesToDevice : (place : ℕ) → Move
  AckComesToDevice : (number : ℕ) → Move
  AlarmComes : (source : Mac) → (under : Priority) → (header : Header) → (place : ℕ) → Move
  Hears : (heard : Heard) → Move
  PassesAtController : Move
  Gives : (slot subslot : ℕ) → (value : List ℕ) → Move
  GivesStatus : (slot subslot : ℕ) → (is_good : Bool) → Move
  Reads : (slot subslot index : ℕ) → Move
  Writes : (slot subslot index : ℕ) → (octets : List ℕ) → Move
  Stops : Move

-- ---- at the device

-- An alarm is raised, and sent as data, if no alarm is active.
abbrev pub raised_by : Relation → AlarmNotification → Option AlarmNotification → Relation
raised_by r alarm None = record r {
  device = end_with r.device alarm;
  alarms = with_sent r.alarms (send_number (end_with r.device alarm).sender.sending.last) alarm;
}
raised_by r alarm (Some standing) = r

-- A unit passes: the active alarm may be due again.
abbrev pub passed_at_device : Relation → Relation
passed_at_device r = record r {
  device = end_later r.device;
  alarms = line_after r.alarms (send_number r.device.sender.sending.last) r.device.sender.standing (due r.device.sender.sending);
}

-- A message of the controller arrives: an AlarmAck of this priority. Its other messages do not concern the alarms of this
-- priority, except ACKs, which may arrive with any number.
abbrev pub comes_to_device : Priority → Relation → Option Sent → Relation
comes_to_device priority r (Some (Confirms route other header ack)) =
    if is_priority priority other then record r { device = end_behind r.device (notice.Data header.send_number ack) } else r
comes_to_device priority r (Some _) = r
comes_to_device priority r None = r

-- The relation after the ACK with this number has come to the device.
abbrev pub acked_at_device : Relation → ℕ → Relation
acked_at_device r number = record r { device = end_behind r.device (notice.Ack number) }

-- ---- at the controller

-- It makes a turn.
abbrev pub turns : Relation → Turn → Relation
turns r turn = record r { live = turn.live; reported = r.reported ++ turn.sent }

-- Whether it handles an alarm frame of this station with these endpoints: while its relation is established, if the
-- frame belongs to that.
abbrev pub is_looked_at : Relation → Mac → Header → Bool
is_looked_at r source header = r.live.stands && is_alarm r.live.cyclic.route source header

-- An alarm of the device arrives, which is accepted if its number is the expected one of its priority.
abbrev pub alarm_comes : Priority → Setup → Relation → Mac → Priority → Header → Option (ℕ × AlarmNotification) → Relation
alarm_comes priority setup r source under header (Some came) =
    record (turns r (turned setup r.live (Alarms source under header (notice.Data came.0 (report_as priority came.1))))) {
      alarms = if is_looked_at r source header then with_come r.alarms (end_of r.live priority).seen came else r.alarms;
    }
alarm_comes priority setup r source under header None = r

-- Anything else is received: no data of this priority.
abbrev pub hears : Priority → Setup → Relation → Heard → Relation
hears priority setup r (Alarms source under header (notice.Data number report)) =
    if is_priority priority report.priority then r else turns r (turned setup r.live (Alarms source under header (notice.Data number report)))
hears priority setup r heard = turns r (turned setup r.live heard)

-- ----

-- The relation after a move, and after several moves.
abbrev pub behind_one : Priority → Setup → Relation → Move → Relation
behind_one priority setup r (Raises alarm) = raised_by r alarm r.device.sender.standing
behind_one priority setup r PassesAtDevice = passed_at_device r
behind_one priority setup r (ComesToDevice place) = comes_to_device priority r (slice_get r.reported place)
behind_one priority setup r (AckComesToDevice number) = acked_at_device r number
behind_one priority setup r (AlarmComes source under header place) = alarm_comes priority setup r source under header (slice_get r.alarms.pdus place)
behind_one priority setup r (Hears heard) = hears priority setup r heard
behind_one priority setup r PassesAtController = turns r (ticked setup r.live)
behind_one priority setup r (Gives slot subslot value) = turns r (stays (given r.live slot subslot value))
behind_one priority setup r (GivesStatus slot subslot is_good) = turns r (stays (rated r.live slot subslot is_good))
behind_one priority setup r (Reads slot subslot index) = turns r (requested setup r.live service.Read slot subslot index [])
behind_one priority setup r (Writes slot subslot index octets) = turns r (written setup r.live slot subslot index octets)
behind_one priority setup r Stops = turns r (stopped setup r.live r.live.phase)

-- The relation after these moves of its alarms.
abbrev pub behind : Priority → Setup → List Move → Relation → Relation
behind priority setup [] r = r
behind priority setup (move ∷ moves) r = behind priority setup moves (behind_one priority setup r move)

-- A new controller, and a device's end with the RTATimeoutFactor and RTARetries of its Connect: nothing has happened
-- yet.
abbrev pub start : Setup → Relation
start setup = record { device = idle 1 3; live = first setup.plan; alarms = empty; reported = [] }

-- The last of the alarms that were accepted, as a controller stores it.
abbrev pub last_of : List AlarmNotification → Option AlarmNotification
last_of [] = None
last_of (alarm ∷ []) = Some (kept_alarm alarm)
last_of (alarm ∷ next ∷ alarms) = last_of (next ∷ alarms)

-- What these alarms of low priority report of diagnoses, one after the other: what appears and disappears, and with a pull the end of
-- those of what was pulled. A plug reports none.
abbrev pub after_reports : List AlarmNotification → Reported → Reported
after_reports [] reported = reported
after_reports (alarm ∷ alarms) reported = after_reports alarms (after_report (report_as Low alarm) reported)

-- An alarm reports no diagnosis and no pull.
abbrev pub ReportsNone : Report → Type 0
ReportsNone report = (channel_report report ≡ None) × (pulled_by report ≡ None)

-- No data of high priority reports a diagnosis or a pull.
abbrev pub IsQuiet : Priority → Move → Type 0
IsQuiet Low (Hears (Alarms source under header (notice.Data number report))) = ReportsNone report
IsQuiet _ _ = Unit {0}

-- ---- the law: of either priority, over any moves, from the start

-- While at most 32,768 alarms are raised, the alarms that the controller accepted are a prefix of those that were
-- raised.
abbrev pub AreTakenInOrder : Type 0
AreTakenInOrder = (priority : Priority) (setup : Setup) (moves : List Move) → length (behind priority setup moves (start setup)).alarms.sent ≤ 32768
    → IsPrefixOf (behind priority setup moves (start setup)).alarms.taken (behind priority setup moves (start setup)).alarms.sent

-- While at most 32,768 alarms are raised, at most the last one is missing.
abbrev pub LackAtMostTheLast : Type 0
LackAtMostTheLast = (priority : Priority) (setup : Setup) (moves : List Move) → length (behind priority setup moves (start setup)).alarms.sent ≤ 32768
    → length (behind priority setup moves (start setup)).alarms.sent ≤ length (behind priority setup moves (start setup)).alarms.taken + 1

-- While at most 32,768 alarms are raised, none is missing if no alarm is unconfirmed.
abbrev pub AreAllTaken : Type 0
AreAllTaken = (priority : Priority) (setup : Setup) (moves : List Move) → length (behind priority setup moves (start setup)).alarms.sent ≤ 32768
    → (behind priority setup moves (start setup)).device.sender.standing ≡ None
    → (behind priority setup moves (start setup)).alarms.taken ≡ (behind priority setup moves (start setup)).alarms.sent

-- The controller reports the last alarm of this priority that it accepted.
abbrev pub ShowsTheLast : Type 0
ShowsTheLast = (priority : Priority) (setup : Setup) (moves : List Move)
    → shown_of priority (behind priority setup moves (start setup)).live ≡ last_of (behind priority setup moves (start setup)).alarms.taken

-- While its relation is established, its list of diagnoses is what the changes that it accepted report, if no data of high
-- priority reports a diagnosis or a pull.
abbrev pub ListsWhatIsReported : Type 0
ListsWhatIsReported = (setup : Setup) (moves : List Move) → AllByRecursion (IsQuiet Low) moves
    → (behind Low setup moves (start setup)).live.stands ≡ true
    → (behind Low setup moves (start setup)).live.diagnosis ≡ after_reports (behind Low setup moves (start setup)).alarms.taken nothing_reported
