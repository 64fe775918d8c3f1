-- The frames of a device's exchange, by their meaning.
use Rattle.std.specs.Prelude.{ℕ, List, [], Option, Some, None, option_map}
use Rattle.record_blocks.specs.declared.alarm_notification.AlarmNotification.{AlarmNotification}
use Rattle.cyclic_data.specs.declared.status.StationState.{StationState}
use Rattle.cyclic_data.specs.Image.{Shown}
use Rattle.pn_alarms.specs.declared.pdu.Header.{Header}
use Rattle.pn_alarms.specs.declared.pdu.PduType.TheVariants.{Data}
use Rattle.pn_alarms.specs.declared.receiver.Taken.{Taken}
use Rattle.pn_alarms.specs.Carried.{alarm_pdu}
use Rattle.diagnosis.specs.declared.reports.priority.Priority.TheVariants.{Low}
use Rattle.pn_alarms.specs.Format.{frame_id_of, pdu_bytes}
use Rattle.diagnosis.specs.reports.Priority.{frame_id_at}
use Rattle.pn_alarms.specs.Receiver.{answer_to}
use Rattle.diagnosis.specs.reports.Report.{low_pdu}
use Rattle.cyclic_data.specs.declared.exchange.route.Route.{Route}
use Rattle.cyclic_data.specs.exchange.Frames.{body_at}
use Rattle.relations.specs.exchange.Flow.{Flow, state_of}
use Rattle.relations.specs.exchange.Diagnosis.{low_header_of}
use Rattle.relations.specs.exchange.Notices.{header_of}

-- A frame to the partner: the inputs, at this CycleCounter, of a station in this state; an alarm; the ACK or NACK that is the
-- response to an AlarmAck; or the same two of low priority, with their tag.
pub data Frame : Type 0 where
  Inputs : (state : StationState) → (inputs : Shown) → (counter : ℕ) → Frame
  Notifies : (header : Header) → (alarm : AlarmNotification) → Frame
  Replies : (header : Header) → Frame
  Reports : (tag : ℕ) → (header : Header) → (alarm : AlarmNotification) → Frame
  RepliesLow : (tag : ℕ) → (header : Header) → Frame

-- The current inputs; the active alarm, if there is one; the reply to data with this outcome.
abbrev pub inputs_frame : Flow → ℕ → Frame
inputs_frame flow counter = Inputs (state_of flow) flow.cyclic.shown counter

-- The process alarm that is sent, or sent again, if one is not acknowledged.
abbrev pub alarm_frame : Flow → Option Frame
alarm_frame flow = option_map (Notifies (header_of flow Data)) flow.alarms.sender.standing

-- The ACK or NACK of data of high priority.
abbrev pub reply_frame : Flow → Taken → Frame
reply_frame flow taken = Replies (header_of flow (answer_to taken))

-- The alarm of low priority that is sent, or sent again, if one is not acknowledged.
abbrev pub low_alarm_frame : Flow → Option Frame
low_alarm_frame flow = option_map (Reports flow.low.tag (low_header_of flow Data)) flow.low.alarms.sender.standing

-- The ACK or NACK of data of low priority.
abbrev pub low_reply_frame : Flow → Taken → Frame
low_reply_frame flow taken = RepliesLow flow.low.tag (low_header_of flow (answer_to taken))

-- The tag, the FrameID, and the octets that follow it.
abbrev pub tag_of : Route → Frame → ℕ
tag_of route (Inputs state inputs counter) = route.sent_tag
tag_of route (Notifies header alarm) = route.alarm_tag
tag_of route (Replies header) = route.alarm_tag
tag_of route (Reports tag header alarm) = tag
tag_of route (RepliesLow tag header) = tag

-- The FrameID of each frame of a relation.
abbrev pub id_of : Route → Frame → ℕ
id_of route (Inputs state inputs counter) = route.sent_id
id_of route (Notifies header alarm) = frame_id_of Data
id_of route (Replies header) = frame_id_of header.kind
id_of route (Reports tag header alarm) = frame_id_at Low Data
id_of route (RepliesLow tag header) = frame_id_at Low header.kind

-- The octets of each frame after its FrameID.
abbrev pub body_of : Frame → List ℕ
body_of (Inputs state inputs counter) = body_at state inputs counter
body_of (Notifies header alarm) = pdu_bytes (alarm_pdu header alarm)
body_of (Replies header) = pdu_bytes (record { header = header; body = [] })
body_of (Reports tag header alarm) = pdu_bytes (low_pdu header alarm)
body_of (RepliesLow tag header) = pdu_bytes (record { header = header; body = [] })

-- The octets of a frame after its FrameID, none without a frame.
abbrev pub body_in : Option Frame → List ℕ
body_in (Some frame) = body_of frame
body_in None = []
