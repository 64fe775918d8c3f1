-- What a relation exchanges, from one end to the other.
use Rattle.std.proofs.Common.{◌≡◌, ◌⊎◌, inl, inr, ◌≤◌, ◌<◌, ◌+◌, ◌==◌, ℕ, Bool, true, false, cond, nat_eq, List, [], ◌++◌, length, Some, Result, Ok, refl, ap, ◌∙◌, arith}
use Rattle.pn_values.specs.declared.identity.Identity.{Identity}
use Rattle.pn_values.specs.declared.mac.Mac.{Mac}
use Rattle.frame_codec.specs.Meaning.{RealTime}
use Rattle.cyclic_data.specs.declared.status.StationState.{StationState}
use Rattle.cyclic_data.specs.Image.{Shown}
use Rattle.pn_alarms.specs.declared.pdu.Header.{Header}
use Rattle.pn_alarms.specs.declared.pdu.PduType.{PduType}
use Rattle.pn_alarms.specs.declared.pdu.PduType.TheVariants as pdu
use Rattle.pn_alarms.specs.Format.{Said, frame_id_of, pdu_bytes}
use Rattle.pn_alarms.specs.declared.fault.AlarmFault.{AlarmFault}
use Rattle.diagnosis.specs.declared.reports.priority.Priority.{Priority}
use Rattle.diagnosis.specs.declared.reports.priority.Priority.TheVariants.{High, Low}
use Rattle.pn_alarms.specs.Message.{ToDevice, message_of}
use Rattle.diagnosis.specs.reports.Message.{ToController, alarm_of, low_message_of}
use Rattle.pn_alarms.specs.declared.message.Notice.TheVariants as notice
use Rattle.record_blocks.specs.declared.alarm_ack.AlarmAck.{AlarmAck}
use Rattle.record_blocks.specs.declared.alarm_notification.AlarmNotification.{AlarmNotification}
use Rattle.diagnosis.specs.reports.Report.{bare, diagnosed, low_report, report}
use Rattle.diagnosis.specs.reports.Priority.{frame_id_at, priority_of}
use Rattle.cyclic_data.specs.declared.exchange.route.Route.{Route}
use Rattle.cyclic_data.specs.exchange.Frames.{body_at, tagged_frame}
use Rattle.relations.specs.exchange.Frames.{Inputs}
use Rattle.plans.specs.declared.parts.Controller.{Controller}
use Rattle.device_frames.specs.Heard.{Alarms, Cyclic, LowConfirms, heard_alarm, heard_low, heard_of as device_hears, heard_reply}
use Rattle.device_frames.specs.Sent.{Exchanges, bytes_of as device_bytes}
use Rattle.std.specs.Cmp.Lexicographic.{pointwise}
use Rattle.controller_messages.specs.Heard.{Alarms as Alarmed, Cyclic as Comes, Nothing, heard_of as controller_hears, heard_real_time}
use Rattle.controller_messages.specs.Sent.{tag_of}
use Rattle.frame_codec.specs.Sendable.{CanBeSent, IsMac, carrying}
use Rattle.end_laws.specs.hearing.Hearing.{comes, mine_hears, own_hears, padded}
use Rattle.end_laws.specs.hearing.Stations.{IsDevice, IsRoute}
use Rattle.end_laws.proofs.HearingGiven.{DataIsRead, PdusAreLong}
use Rattle.std.specs.Prelude.{IsErr}
use Rattle.end_laws.proofs.HearingChoices.{cyclic_small, faulty}
use Rattle.end_laws.proofs.HearingController as controller
use Rattle.end_laws.proofs.HearingDevice as device

-- ---- cyclic frames

cyclic_sent : (source : Mac) (route : Route) (body : List ℕ) → IsMac source → IsRoute route → length body ≤ 1498
    → CanBeSent (carrying route.partner source (Some route.sent_tag) (RealTime route.sent_id body))
cyclic_sent source route body one is few =
    let small = cyclic_small route.sent_id is.cyclic in
    record { destination = is.partner; source = one; tag = is.tag; content = (omega (arith, small), few) }

pub inputs_at_controller : DataIsRead → (mine : Controller) (identity : Identity) (route : Route) (state : StationState) (inputs : Shown) (counter : ℕ)
    → IsDevice identity → IsRoute route → length (body_at state inputs counter) ≤ 1498
    → controller_hears mine (device_bytes identity (Exchanges route (Inputs state inputs counter)))
    ≡ mine_hears mine route.partner (Comes identity.mac route.sent_id
    (padded identity.mac route.partner (Some route.sent_tag) route.sent_id (body_at state inputs counter)))
inputs_at_controller reads mine identity route state inputs counter good is few =
    controller.cyclic_heard reads mine route.partner identity.mac (Some route.sent_tag) route.sent_id (body_at state inputs counter)
    (cyclic_sent _ route _ good is few) is.cyclic

pub inputs_at_device : DataIsRead → (other identity : Identity) (route : Route) (state : StationState) (inputs : Shown) (counter : ℕ)
    → IsDevice identity → IsRoute route → length (body_at state inputs counter) ≤ 1498
    → device_hears other (comes (device_bytes identity (Exchanges route (Inputs state inputs counter))))
    ≡ own_hears other route.partner (Cyclic identity.mac route.sent_id
    (padded identity.mac route.partner (Some route.sent_tag) route.sent_id (body_at state inputs counter)))
inputs_at_device reads other identity route state inputs counter good is few =
    device.cyclic_heard reads other route.partner identity.mac (Some route.sent_tag) route.sent_id (body_at state inputs counter)
    (cyclic_sent _ route _ good is few) is.cyclic

-- ---- alarm frames

pub tag_small : (route : Route) (priority : Priority) → IsRoute route → tag_of route priority < 65536
tag_small route High is = is.alarm_tag
tag_small route Low is = omega arith

kind_small : (priority : Priority) (kind : PduType) → frame_id_at priority kind < 65536
kind_small Low kind = omega arith
kind_small High pdu.Data = omega arith
kind_small High pdu.Nack = omega arith
kind_small High pdu.Ack = omega arith
kind_small High pdu.Error = omega arith

module _ (reads : DataIsRead) (long : PdusAreLong) where
  pdu_sent : (destination source : Mac) (tag : ℕ) (priority : Priority) (kind : PduType) (said : Said) → IsMac destination → IsMac source → tag < 65536 → length said.body ≤ 1486
      → CanBeSent (carrying destination source (Some tag) (RealTime (frame_id_at priority kind) (pdu_bytes said)))
  pdu_sent destination source tag priority kind said one other tagged few =
      record { destination = one; source = other; tag = tagged; content = (kind_small priority kind, omega (arith, long said, few)) }

  -- a PDU from one station to another
  pub pdu_at_device : (identity : Identity) (destination source : Mac) (tag : ℕ) (priority : Priority) (kind : PduType) (said : Said) (header : Header) (reported : ToDevice)
      → IsMac destination → IsMac source → tag < 65536 → length said.body ≤ 1486 → ((more : List ℕ) → message_of (pdu_bytes said ++ more) ≡ Ok (header, reported))
      → device_hears identity (comes (tagged_frame source destination tag (RealTime (frame_id_at priority kind) (pdu_bytes said))))
      ≡ own_hears identity destination (heard_reply source (priority_of (frame_id_at priority kind)) header reported)
  pdu_at_device identity destination source tag priority kind said header reported one other tagged few says =
      device.alarm_heard reads identity destination source (Some tag) priority kind (pdu_bytes said) (heard_reply source (priority_of (frame_id_at priority kind)) header reported)
      (pdu_sent destination source tag priority kind said one other tagged few)
      (λ more. ap (λ (r : Result (Header × ToDevice) AlarmFault). heard_alarm source (frame_id_at priority kind) (pdu_bytes said ++ more) r) (says more))

  -- a PDU that carries an AlarmAck of low priority
  pub low_at_device : (identity : Identity) (destination source : Mac) (tag : ℕ) (priority : Priority) (kind : PduType) (said : Said) (header : Header) (reported : ToDevice)
      → IsMac destination → IsMac source → tag < 65536 → length said.body ≤ 1486 → ((more : List ℕ) → IsErr (message_of (pdu_bytes said ++ more)))
      → ((more : List ℕ) → low_message_of (pdu_bytes said ++ more) ≡ Ok (header, reported))
      → device_hears identity (comes (tagged_frame source destination tag (RealTime (frame_id_at priority kind) (pdu_bytes said)))) ≡ own_hears identity destination (LowConfirms source header reported)
  low_at_device identity destination source tag priority kind said header reported one other tagged few fails says =
      device.alarm_heard reads identity destination source (Some tag) priority kind (pdu_bytes said) (LowConfirms source header reported) (pdu_sent destination source tag priority kind said one other tagged few)
      (λ more.
      faulty (λ (r : Result (Header × ToDevice) AlarmFault). heard_alarm source (frame_id_at priority kind) (pdu_bytes said ++ more) r) (heard_low source (low_message_of (pdu_bytes said ++ more)))
      (message_of (pdu_bytes said ++ more)) (λ fault. refl) (fails more)
      ∙ ap (λ (r : Result (Header × ToDevice) AlarmFault). heard_low source r) (says more))

  -- a PDU to another station than this controller
  pub pdu_unheard : (mine : Controller) (destination source : Mac) (tag : ℕ) (priority : Priority) (kind : PduType) (said : Said)
      → IsMac destination → IsMac source → tag < 65536 → length said.body ≤ 1486 → pointwise nat_eq destination.octets mine.mac.octets ≡ false
      → controller_hears mine (tagged_frame source destination tag (RealTime (frame_id_at priority kind) (pdu_bytes said))) ≡ Nothing
  pdu_unheard mine destination source tag priority kind said one other tagged few apart =
      controller.data_heard reads mine destination source (Some tag) (frame_id_at priority kind) (pdu_bytes said) (pdu_sent destination source tag priority kind said one other tagged few)
      ∙ ap (λ (b : Bool). cond b (heard_real_time source (frame_id_at priority kind) (padded source destination (Some tag) (frame_id_at priority kind) (pdu_bytes said))) Nothing) apart

  pub pdu_at_controller : (mine : Controller) (destination source : Mac) (tag : ℕ) (priority : Priority) (kind : PduType) (said : Said) (header : Header) (reported : ToController)
      → IsMac destination → IsMac source → tag < 65536 → length said.body ≤ 1486 → ((more : List ℕ) → alarm_of (pdu_bytes said ++ more) ≡ Ok (header, reported))
      → controller_hears mine (tagged_frame source destination tag (RealTime (frame_id_at priority kind) (pdu_bytes said)))
      ≡ mine_hears mine destination (Alarmed source (priority_of (frame_id_at priority kind)) header reported)
  pdu_at_controller mine destination source tag priority kind said header reported one other tagged few says =
      controller.alarm_heard reads mine destination source (Some tag) priority kind (pdu_bytes said) header reported (pdu_sent destination source tag priority kind said one other tagged few) says

-- an alarm of low priority fits a frame: that of a pull or a plug, and that of a change of diagnosis
pub low_few : ((alarm : AlarmNotification) → length (report.write (bare alarm) []) ≡ 26 + length alarm.alarm_data)
    → ((alarm : AlarmNotification) → length (report.write (diagnosed alarm) []) ≡ 28 + length alarm.alarm_data)
    → (alarm : AlarmNotification) → length alarm.alarm_data ≤ 1458 → length (report.write (low_report alarm) []) ≤ 1486
low_few bare_long long alarm few = by_empty (length alarm.alarm_data == 0)
  where
    by_empty : (b : Bool) → length (report.write (cond b (bare alarm) (diagnosed alarm)) []) ≤ 1486
    by_empty true = omega (arith, bare_long alarm, few)
    by_empty false = omega (arith, long alarm, few)

-- ---- replies

-- the priority under whose FrameID a reply is sent
pub reply_under : (priority : Priority) (kind : PduType) → (kind ≡ pdu.Ack) ⊎ (kind ≡ pdu.Nack) → priority_of (frame_id_at priority kind) ≡ priority
reply_under Low kind is = refl
reply_under High kind (inl is) = ap (λ (k : PduType). priority_of (frame_id_of k)) is
reply_under High kind (inr is) = ap (λ (k : PduType). priority_of (frame_id_of k)) is

-- data, a NACK or an ERR is heard alike under either FrameID
pub data_as : (priority : Priority) (source : Mac) (header : Header) (number : ℕ) (ack : AlarmAck) → heard_reply source priority header (notice.Data number ack) ≡ Alarms source header (notice.Data number ack)
data_as High source header number ack = refl
data_as Low source header number ack = refl

pub nack_as : (priority : Priority) (source : Mac) (header : Header) → heard_reply source priority header notice.Nack ≡ Alarms source header notice.Nack
nack_as High source header = refl
nack_as Low source header = refl
