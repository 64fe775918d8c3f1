-- The state of a controller and what it hears, with each field of its size.
use Rattle.std.specs.Prelude.{◌≡◌, ◌≤◌, ◌<◌, ℕ, List, Option, Some, None, option_and_then, ⊤}
use Rattle.record_blocks.specs.declared.alarm_ack.AlarmAck.{AlarmAck}
use Rattle.record_blocks.specs.declared.alarm_notification.AlarmNotification.{AlarmNotification}
use Rattle.pn_alarms.specs.declared.message.Notice.TheVariants as notice
use Rattle.pn_alarms.specs.Ends.{ControllerEnd}
use Rattle.diagnosis.specs.reports.Message.{ToController}
use Rattle.controller_messages.specs.declared.plug_request.PlugRequest.{PlugRequest}
use Rattle.controller_messages.specs.declared.record_request.RecordRequest.{RecordRequest}
use Rattle.controller_messages.specs.declared.request.Request.{Request}
use Rattle.controller_messages.specs.declared.request.Request.TheVariants as asks
use Rattle.controller_messages.specs.declared.setup.Setup.{Setup}
use Rattle.controller_messages.specs.Heard.{Heard, Nothing, Answers, Responds, Refuses, Calls, Cyclic, Alarms, heard_of}
use Rattle.controller_core.specs.declared.stored.event.Event.{Event}
use Rattle.controller_core.specs.declared.stored.event.Event.TheVariants.{Frame, Tick, Give, Status, Read, Write, Stop}
use Rattle.controller_messages.specs.Access.{Accessing}
use Rattle.connects.specs.answers.Connect.{Chosen, chosen_of, found_in, nothing}
use Rattle.controller_core.specs.stored.State.{Live}
use Rattle.frame_codec.specs.Sendable.{IsMac}
use Rattle.rpc_core.specs.Sendable.{IsHeader}
use Rattle.block_codec.specs.Writable.{IsAck}
use Rattle.end_laws.specs.hearing.Stations.{IsCaller, IsPlugCall, IsRecordCall}
use Rattle.end_laws.specs.sending.Messages.{IsWay}

-- ---- the state of a controller

-- a pending request: a plan has at most 32 records
abbrev pub IsFew : Request → Type 0
IsFew asks.Identify = ⊤
IsFew asks.Address = ⊤
IsFew asks.Connect = ⊤
IsFew (asks.Write number) = number < 32
IsFew asks.PrmEnd = ⊤
IsFew (asks.Release sequence) = sequence < 4294967296
IsFew (asks.WriteAfter number tries) = (number < 32) × (tries < 65536)
IsFew (asks.PrmEndAfter tries) = tries < 65536

-- the pending request, if there is one, has its sizes
abbrev pub AreFew : Option Request → Type 0
AreFew None = ⊤
AreFew (Some request) = IsFew request

-- a number of two octets, if there is one
abbrev pub IsShort : Option ℕ → Type 0
IsShort None = ⊤
IsShort (Some number) = number < 65536

-- an AlarmAck that can be written, if there is one
abbrev pub IsAckOrNone : Option AlarmAck → Type 0
IsAckOrNone None = ⊤
IsAckOrNone (Some ack) = IsAck ack

-- the numbers of alarms and the AlarmAck of a priority have their sizes
pub record IsSizedEnd (end : ControllerEnd) : Type 0 where
  pub last : IsShort end.sending.last
  pub seen : IsShort end.seen
  pub confirming : IsAckOrNone end.confirming

-- the request of the application that waits, if there is one, can be written
abbrev pub IsWaiting : Option RecordRequest → List ℕ → Type 0
IsWaiting None octets = ⊤
IsWaiting (Some request) octets = IsRecordCall request octets

-- the request after a plug that waits, if there is one, can be written
abbrev pub IsPlugging : Option PlugRequest → Type 0
IsPlugging None = ⊤
IsPlugging (Some request) = IsPlugCall request

-- The requests beside the exchange that wait, and the octets of that of the application, have the sizes that a call can carry.
abbrev pub IsAccess : Accessing → Type 0
IsAccess access = IsWaiting access.waiting access.octets × IsPlugging access.plug

-- a controller whose station, requests, route, image and alarms have their sizes
pub record IsLive (live : Live) : Type 0 where
  pub device : IsMac live.device
  pub asked : AreFew live.asked
  pub way : IsWay live.cyclic.route
  pub few : live.cyclic.shown.data_length ≤ 1440
  pub high : IsSizedEnd live.alarms
  pub low : IsSizedEnd live.low_alarms
  pub access : IsAccess live.access

-- ---- what it hears

-- an alarm for which an AlarmAck can be written
pub record IsNoted (alarm : AlarmNotification) : Type 0 where
  pub alarm_type : alarm.alarm_type < 65536
  pub api : alarm.api < 4294967296
  pub slot_number : alarm.slot_number < 65536
  pub subslot_number : alarm.subslot_number < 65536
  pub alarm_specifier : alarm.alarm_specifier < 65536

-- what an alarm frame says has its sizes
abbrev pub IsNotice : ToController → Type 0
IsNotice (notice.Data number report) = (number < 65536) × IsNoted report.notification
IsNotice notice.Nack = ⊤
IsNotice (notice.Ack number) = ⊤
IsNotice (notice.Abort status) = ⊤

-- the type of what is found in the response to a Connect
abbrev TypeOf : {A : Type 0} → A → Type 0
TypeOf {A = A} value = A

-- what a controller finds in the response to a Connect
abbrev pub Found : Type 0
Found = TypeOf nothing

-- what the device chose, if these blocks are the response to a Connect
abbrev pub chosen_in : List ℕ → Option Chosen
chosen_in blocks = option_and_then (λ (found : Found). chosen_of found) (found_in 400 blocks nothing)

-- the FrameID that these blocks choose for outputs has two octets, and so has the alarm endpoint
abbrev pub IsChosen : List ℕ → Type 0
IsChosen blocks = (chosen : Chosen) → chosen_in blocks ≡ Some chosen → (chosen.frame_id < 65536) × (chosen.reference < 65536)

-- what was heard has its sizes; in the response to a Connect so has what the device chose
abbrev pub IsSized : Heard → Type 0
IsSized Nothing = ⊤
IsSized (Answers source answer) = IsMac source
IsSized (Responds response) = IsChosen response.blocks
IsSized (Refuses refusal) = ⊤
IsSized (Calls caller call) = IsCaller caller × IsHeader call.header × (call.args_maximum < 4294967296)
IsSized (Cyclic source frame_id body) = ⊤
IsSized (Alarms source under header reported) = IsNotice reported

-- what the event brings has its sizes
abbrev pub IsSizedEvent : Setup → Event → Type 0
IsSizedEvent setup (Frame bytes) = IsSized (heard_of setup.plan.controller bytes.items)
IsSizedEvent setup Tick = ⊤
IsSizedEvent setup (Give slot subslot value) = ⊤
IsSizedEvent setup (Status slot subslot is_good) = ⊤
IsSizedEvent setup (Read slot subslot index) = ⊤
IsSizedEvent setup (Write slot subslot index octets) = ⊤
IsSizedEvent setup Stop = ⊤
