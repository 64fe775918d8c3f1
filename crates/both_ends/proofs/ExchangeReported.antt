-- What either end of a network says of alarms, and what the other hears of it.
use Rattle.std.proofs.Common.{◌≡◌, ◌⊎◌, ◌<◌, ◌==◌, Bool, true, false, cond, ℕ, List, length, Option, Some, None, option_map, refl}
use Rattle.std.specs.Prelude.{if◌then◌else◌}
use Rattle.pn_values.specs.declared.identity.Identity.{Identity}
use Rattle.pn_values.specs.declared.mac.Mac.{Mac}
use Rattle.record_blocks.specs.declared.alarm_ack.AlarmAck.{AlarmAck}
use Rattle.record_blocks.specs.declared.alarm_notification.AlarmNotification.{AlarmNotification}
use Rattle.pn_alarms.specs.Abort.{status_of}
use Rattle.pn_alarms.specs.declared.message.Notice.{Notice}
use Rattle.pn_alarms.specs.declared.message.Notice.TheVariants as notice
use Rattle.pn_alarms.specs.declared.pdu.PduType.{PduType}
use Rattle.diagnosis.specs.declared.reports.priority.Priority.{Priority}
use Rattle.diagnosis.specs.declared.reports.priority.Priority.TheVariants.{High, Low}
use Rattle.diagnosis.specs.declared.reports.report.Report.{Report}
use Rattle.diagnosis.specs.reports.Message.{ToController}
use Rattle.diagnosis.specs.reports.Report.{bare, diagnosed, low_report, ours}
use Rattle.pn_alarms.specs.declared.pdu.PduType.TheVariants as pdu
use Rattle.relations.specs.exchange.Frames.{Frame, Inputs, Notifies, Replies as Answers, Reports, RepliesLow}
use Rattle.device_frames.specs.declared.event.Event.TheVariants.{Frame as comes_in}
use Rattle.device_frames.specs.Heard as device
use Rattle.device_frames.specs.Heard.{heard_of}
use Rattle.device_frames.specs.Sent as sent
use Rattle.device_frames.specs.Sent.{bytes_of}
use Rattle.controller_messages.specs.declared.setup.Setup.{Setup}
use Rattle.controller_messages.specs.Heard as controller
use Rattle.controller_messages.specs.Heard.{heard_of as heard_by}
use Rattle.controller_messages.specs.Sent as said
use Rattle.frame_codec.specs.Sendable.{IsMac}
use Rattle.rpc_core.specs.Response.{is_done}
use Rattle.rpc_core.specs.Sendable.{IsHeader}
use Rattle.controller_messages.specs.declared.request.Request.TheVariants as asks
use Rattle.controller_core.specs.start_up.Answers.{is_answer}
use Rattle.end_laws.specs.hearing.Stations.{IsCaller}
use Rattle.end_laws.specs.sending.Sized.{IsNotice}
use Rattle.end_laws.specs.turns.Alarms.{is_priority, report_as}
use Rattle.both_ends.specs.exchange.Sized.{IsChosenWell}

-- ---- at the device

-- what the device hears of alarms, if it hears an alarm frame: of this priority, or of either if that depends on the relation
abbrev pub reported_at : device.Heard → Option (Option Priority × Notice AlarmAck)
reported_at (device.Alarms source header message) = Some (Some High, message)
reported_at (device.LowReplies source header message) = Some (None, message)
reported_at (device.LowConfirms source header message) = Some (Some Low, message)
reported_at other = None

abbrev pub may_be_of : Priority → Option Priority → Bool
may_be_of priority (Some other) = is_priority priority other
may_be_of priority None = true

-- the AlarmAck of this priority, with its number
abbrev pub ack_in : Priority → Option (Option Priority × Notice AlarmAck) → Option (ℕ × AlarmAck)
ack_in priority (Some (way, notice.Data number ack)) = if may_be_of priority way then Some (number, ack) else None
ack_in priority other = None

-- what a reply to data says, by its type: an ACK of the number, or that it was refused
abbrev pub reply_of : {B : Type 0} → ℕ → PduType → Option (Notice B)
reply_of number pdu.Ack = Some (notice.Ack number)
reply_of number pdu.Nack = Some notice.Nack
reply_of number pdu.Data = None
reply_of number pdu.Error = None

-- what the device says of alarms: an alarm with its number, the reply to an AlarmAck, or the end of the relation
abbrev pub noted_by : Frame → Option (Notice Report)
noted_by (Inputs state inputs counter) = None
noted_by (Notifies header alarm) = Some (notice.Data header.send_number (ours alarm))
noted_by (Answers header) = reply_of header.ack_number header.kind
noted_by (Reports tag header alarm) = Some (notice.Data header.send_number (low_report alarm))
noted_by (RepliesLow tag header) = reply_of header.ack_number header.kind

abbrev pub noted_in : sent.Sent → Option (Notice Report)
noted_in (sent.Exchanges route frame) = noted_by frame
noted_in (sent.Ends farewell) = Some (notice.Abort (status_of farewell.reason))
noted_in other = None

-- the alarm of this priority in it, with its number
abbrev pub alarm_in : Priority → Option (Notice Report) → Option (ℕ × AlarmNotification)
alarm_in priority (Some (notice.Data number report)) = if is_priority priority report.priority then Some (number, report.notification) else None
alarm_in priority other = None

abbrev pub data_in : Priority → sent.Sent → Option (ℕ × AlarmNotification)
data_in priority message = alarm_in priority (noted_in message)

-- an alarm of low priority, as the controller reads it
pub low_is : (alarm : AlarmNotification) → low_report alarm ≡ report_as Low alarm
low_is alarm = by_test (length alarm.alarm_data == 0)
  where
    by_test : (b : Bool) → cond b (bare alarm) (diagnosed alarm) ≡ record { priority = Low; notification = alarm; user_structure = cond b None (Some 0x8000) }
    by_test true = refl
    by_test false = refl

-- it is one, whether it has a UserStructureIdentifier or not
pub low_data : (priority : Priority) (number : ℕ) (alarm : AlarmNotification) → alarm_in priority (Some (notice.Data number (low_report alarm))) ≡ alarm_in priority (Some (notice.Data number (diagnosed alarm)))
low_data priority number alarm = by_test (length alarm.alarm_data == 0)
  where
    by_test : (b : Bool) → alarm_in priority (Some (notice.Data number (cond b (bare alarm) (diagnosed alarm)))) ≡ alarm_in priority (Some (notice.Data number (diagnosed alarm)))
    by_test true = refl
    by_test false = refl

-- ---- at the controller

-- what the controller hears of alarms
abbrev pub noted_at : controller.Heard → Option ToController
noted_at (controller.Alarms source under header message) = Some message
noted_at other = None

-- what the controller says of alarms to a device: an AlarmAck with its number, the reply to an alarm, or the end of the relation
abbrev pub reply_way : Priority → PduType → Option Priority
reply_way Low pdu.Ack = None
reply_way priority kind = Some High

abbrev pub reported_reply : Priority → ℕ → PduType → Option (Option Priority × Notice AlarmAck)
reported_reply priority number kind = option_map (λ reply. (reply_way priority kind, reply)) (reply_of number kind)

abbrev pub reported_in : said.Sent → Option (Option Priority × Notice AlarmAck)
reported_in (said.Confirms route priority header ack) = Some (Some priority, notice.Data header.send_number ack)
reported_in (said.Replies route priority header) = reported_reply priority header.ack_number header.kind
reported_in (said.Ends route header reason) = Some (Some High, notice.Abort (status_of reason))
reported_in other = None

-- ---- what a controller hears of its device

-- an alarm of high priority is a process alarm
abbrev pub IsOfPriority : Priority → AlarmNotification → Type 0
IsOfPriority High alarm = alarm.alarm_type ≡ 2
IsOfPriority Low alarm = Unit {0}

-- an alarm is one of this product's device
abbrev pub IsOurs : ToController → Type 0
IsOurs (notice.Data number report) = (report ≡ report_as report.priority report.notification) × IsOfPriority report.priority report.notification
IsOurs other = Unit {0}

-- only this station responds to the controller and calls it, its alarms are ours, and each field has its size
abbrev pub IsGood : Mac → controller.Heard → Type 0
IsGood mac (controller.Answers source answer) = (source ≡ mac) × IsMac source
IsGood mac (controller.Calls caller call) = (caller.mac ≡ mac) × IsCaller caller × IsHeader call.header × (call.args_maximum < 4294967296)
IsGood mac (controller.Alarms source under header reported) = IsNotice reported × IsOurs reported
IsGood mac other = Unit {0}

-- a positive response to the Connect chooses a suitable FrameID for outputs
abbrev pub IsWell : Setup → controller.Heard → Type 0
IsWell setup (controller.Responds response) = is_answer setup asks.Connect response.header ≡ true → is_done response.status ≡ true → IsChosenWell response.blocks
IsWell setup other = Unit {0}

-- ---- what is heard as it is said

-- what the device and the controller hear of octets
abbrev pub reported_of : Identity → List ℕ → Option (Option Priority × Notice AlarmAck)
reported_of identity octets = reported_at (heard_of identity (comes_in (record { items = octets })))

abbrev pub noted_of : Setup → List ℕ → Option ToController
noted_of setup octets = noted_at (heard_by setup.plan.controller octets)

-- octets of the device: the controller hears this of alarms in them, or nothing, the device hears nothing, and
-- everything has its size
abbrev pub IsNotedBy : Setup → Identity → List ℕ → Option (Notice Report) → Type 0
IsNotedBy setup identity octets says = ((noted_of setup octets ≡ says) ⊎ (noted_of setup octets ≡ None)) × (reported_of identity octets ≡ None) × IsGood identity.mac (heard_by setup.plan.controller octets)

-- a message of the device; the frame of a repeated response was sent before
abbrev pub IsNotedAs : Setup → Identity → sent.Sent → Type 0
IsNotedAs setup identity (sent.Again frame) = Unit {0}
IsNotedAs setup identity (sent.Exchanges route frame) = IsNotedBy setup identity (bytes_of identity (sent.Exchanges route frame)) (noted_by frame)
IsNotedAs setup identity (sent.Ends farewell) = IsNotedBy setup identity (bytes_of identity (sent.Ends farewell)) (Some (notice.Abort (status_of farewell.reason)))
IsNotedAs setup identity (sent.IdentifyAnswer asker running xid) = IsNotedBy setup identity (bytes_of identity (sent.IdentifyAnswer asker running xid)) None
IsNotedAs setup identity (sent.GetAnswer asker running alias request) = IsNotedBy setup identity (bytes_of identity (sent.GetAnswer asker running alias request)) None
IsNotedAs setup identity (sent.SetAnswer asker request answers) = IsNotedBy setup identity (bytes_of identity (sent.SetAnswer asker request answers)) None
IsNotedAs setup identity (sent.ArpReply asker address target) = IsNotedBy setup identity (bytes_of identity (sent.ArpReply asker address target)) None
IsNotedAs setup identity (sent.CallAnswer caller address answer) = IsNotedBy setup identity (bytes_of identity (sent.CallAnswer caller address answer)) None
IsNotedAs setup identity (sent.ReadyCall address ready) = IsNotedBy setup identity (bytes_of identity (sent.ReadyCall address ready)) None
IsNotedAs setup identity (sent.PlugReadyCall address ready) = IsNotedBy setup identity (bytes_of identity (sent.PlugReadyCall address ready)) None

-- octets of the controller: the device hears this of alarms in them, or nothing, and the controller hears nothing at
-- all
abbrev pub IsReportedBy : Setup → Identity → List ℕ → Option (Option Priority × Notice AlarmAck) → Type 0
IsReportedBy setup identity octets says = ((reported_of identity octets ≡ says) ⊎ (reported_of identity octets ≡ None)) × (heard_by setup.plan.controller octets ≡ controller.Nothing)

-- a message of the controller
abbrev pub IsReportedAs : Setup → Identity → said.Sent → Type 0
IsReportedAs setup identity message = IsReportedBy setup identity (said.bytes_of setup message) (reported_in message)

-- a message of the device in which a controller hears no other positive response to its Connect
abbrev pub IsWellBy : Setup → List ℕ → Type 0
IsWellBy setup octets = IsWell setup (heard_by setup.plan.controller octets)

abbrev pub IsWellSent : Setup → Identity → sent.Sent → Type 0
IsWellSent setup identity (sent.Again frame) = Unit {0}
IsWellSent setup identity (sent.Exchanges route frame) = IsWellBy setup (bytes_of identity (sent.Exchanges route frame))
IsWellSent setup identity (sent.Ends farewell) = IsWellBy setup (bytes_of identity (sent.Ends farewell))
IsWellSent setup identity (sent.IdentifyAnswer asker running xid) = IsWellBy setup (bytes_of identity (sent.IdentifyAnswer asker running xid))
IsWellSent setup identity (sent.GetAnswer asker running alias request) = IsWellBy setup (bytes_of identity (sent.GetAnswer asker running alias request))
IsWellSent setup identity (sent.SetAnswer asker request answers) = IsWellBy setup (bytes_of identity (sent.SetAnswer asker request answers))
IsWellSent setup identity (sent.ArpReply asker address target) = IsWellBy setup (bytes_of identity (sent.ArpReply asker address target))
IsWellSent setup identity (sent.CallAnswer caller address answer) = IsWellBy setup (bytes_of identity (sent.CallAnswer caller address answer))
IsWellSent setup identity (sent.ReadyCall address ready) = IsWellBy setup (bytes_of identity (sent.ReadyCall address ready))
IsWellSent setup identity (sent.PlugReadyCall address ready) = IsWellBy setup (bytes_of identity (sent.PlugReadyCall address ready))
