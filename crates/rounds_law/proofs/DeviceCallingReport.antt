-- The first alarm of low priority that a device sends as data exchange begins: a diagnosis, a pull or a plug.
use Rattle.std.proofs.Common.{◌≡◌, ◌≤◌, ◌<◌, ℕ, Bool, true, false, List, length, map, Option, Some, None, refl, sym, ap, subst, ◌∙◌, arith}
use Rattle.std.specs.Prelude.{is_none, is_some, unwrap_or, if◌then◌else◌}
use Rattle.std.specs.List.{AllByRecursion}
use Rattle.pn_values.specs.declared.identity.Identity.{Identity}
use Rattle.record_blocks.specs.declared.alarm_notification.AlarmNotification.{AlarmNotification}
use Rattle.pn_alarms.specs.declared.pdu.Header.{Header}
use Rattle.pn_alarms.specs.declared.pdu.PduType.TheVariants as pdu
use Rattle.pn_alarms.specs.Device.{end_with, header_now, idle}
use Rattle.pn_alarms.specs.Ends.{DeviceEnd}
use Rattle.diagnosis.specs.Notices.{channel_bytes}
use Rattle.diagnosis.specs.Queue.{alarm_of, change_bytes, first_of, first_reported, next_in, rest_of}
use Rattle.diagnosis.specs.alarms.Alarms.{Low}
use Rattle.diagnosis.specs.declared.alarms.alarms.SentAlarm.{SentAlarm}
use Rattle.diagnosis.specs.declared.queue.LowChange.{LowChange}
use Rattle.diagnosis.specs.declared.queue.LowChange.TheVariants as change
use Rattle.diagnosis.specs.declared.queue.QueuedAlarm.{QueuedAlarm}
use Rattle.cyclic_data.specs.declared.exchange.route.Route.{Route}
use Rattle.relations.specs.exchange.Diagnosis.{with_low}
use Rattle.relations.specs.exchange.Flow.{Flow}
use Rattle.relations.specs.exchange.Frames.{Reports}
use Rattle.device_frames.specs.Relation.{low_alarms_of, where_due}
use Rattle.device_frames.specs.Sendable.{AreSendable}
use Rattle.device_frames.specs.Sent.{Sent, Exchanges, bytes_of}
use Rattle.controller_messages.specs.declared.setup.Setup.{Setup}
use Rattle.rounds_law.specs.Path.{HasNumber, IsReport, WaitsFew}
use Rattle.rounds_law.proofs.AlarmOctets.{frame_same, lowered, lowered_good}

-- ---- the next alarm

-- the alarms of low priority with this one, which was the first that waited, as the active one
abbrev pub active_one : Low → QueuedAlarm → Low
active_one low alarm = record low {
  alarms = end_with low.alarms (alarm_of low.alarms.sender.specifier alarm);
  waiting = rest_of low.waiting;
  sent = Some (record { change = alarm.change; number = low.alarms.sender.specifier });
}

abbrev IsNext : Low → Option Low → Type 0
IsNext low None = Unit {0}
IsNext low (Some next) = (alarm : QueuedAlarm) × (next ≡ active_one low alarm)

next_by_standing : (low : Low) (alarm : QueuedAlarm) (free : Bool) → IsNext low (if free then Some (active_one low alarm) else None)
next_by_standing low alarm true = (alarm, refl)
next_by_standing low alarm false = tt

next_by_first : (low : Low) (first : Option QueuedAlarm) → IsNext low (first_reported low first)
next_by_first low None = tt
next_by_first low (Some alarm) = next_by_standing low alarm (is_none low.alarms.sender.standing)

pub next_is : (low : Low) → IsNext low (next_in low)
next_is low = next_by_first low (first_of low.waiting)

-- its data are short
data_few : (change : LowChange) → length (change_bytes change) ≤ 1458
data_few (change.Diagnosis made) = let six : length (channel_bytes made) ≡ 6 = refl in omega (arith, six)
data_few (change.Module made) = omega arith

-- ---- what is sent

-- the exchange after it, and the messages
abbrev pub told_flow : Flow → Low → Option Low → Flow
told_flow flow low next = with_low flow (unwrap_or next low)

abbrev pub told : Flow → Low → Option Low → List Sent
told flow low next = where_due (is_some next) (low_alarms_of (Some (told_flow flow low next)))

-- it is one alarm of low priority at most, and it was sent just now
pub record IsReported (setup : Setup) (identity : Identity) (flow : Flow) (low : Low) (next : Option Low) : Type 0 where
  pub frames : AllByRecursion (IsReport setup identity) (map (bytes_of identity) (told flow low next))
  pub waits : WaitsFew 0 (told_flow flow low next).low.alarms.sender.sending.waiting
  pub limit : 3200 ≤ (told_flow flow low next).low.alarms.sender.sending.limit

module _ (setup : Setup) (identity : Identity) (flow : Flow) (serial : ℕ) (numbered : HasNumber setup serial flow) where
  -- the alarm is active, these wait, and this one was sent
  one_reported : (low : Low) (alarm : AlarmNotification) (waiting : List QueuedAlarm) (last : Option SentAlarm) → length alarm.alarm_data ≤ 1458
      → AreSendable identity (told flow low (Some (record low { alarms = end_with (idle 1 3) alarm; waiting = waiting; sent = last })))
      → IsReported setup identity flow low (Some (record low { alarms = end_with (idle 1 3) alarm; waiting = waiting; sent = last }))
  one_reported low alarm waiting last few sendable =
      let header : Header = header_now (end_with (idle 1 3) alarm) pdu.Data flow.cyclic.route.reference flow.endpoint in
      record {
        frames = (
          record {
            serial = serial;
            tag = low.tag;
            header = header;
            alarm = lowered alarm;
            tag_short = sendable.0.tag;
            is_data = refl;
            header_good = record {
              destination = subst (λ (route : Route). route.reference < 65536) (sym numbered.route) (omega arith);
              source = omega (arith, numbered.few, numbered.endpoint);
              send_number = omega arith;
              ack_number = omega arith;
            };
            alarm_good = lowered_good alarm few;
            frame = sym (frame_same identity flow.cyclic.route low.tag header alarm)
                ∙ ap (λ (route : Route). bytes_of identity (Exchanges route (Reports low.tag header (lowered alarm)))) numbered.route;
          },
          tt,
        );
        waits = omega arith;
        limit = omega arith;
      }

  pub is_reported : (low : Low) (next : Option Low) → low.alarms ≡ idle 1 3 → IsNext low next
      → AreSendable identity (told flow low next) → IsReported setup identity flow low next
  is_reported low None fresh is sendable = record {
    frames = tt;
    waits = subst (λ (end : DeviceEnd). WaitsFew 0 end.sender.sending.waiting) (sym fresh) tt;
    limit = subst (λ (end : DeviceEnd). 3200 ≤ end.sender.sending.limit) (sym fresh) (omega arith);
  }
  is_reported low (Some next) fresh is sendable =
      let waiting = rest_of low.waiting in
      let alarm = alarm_of 0 is.0 in
      let last : Option SentAlarm = Some (record { change = is.0.change; number = 0 }) in
      let same : next ≡ record low { alarms = end_with (idle 1 3) alarm; waiting = waiting; sent = last } =
      is.1 ∙ ap (λ (end : DeviceEnd). active_one (record low { alarms = end }) is.0) fresh in
      subst (λ (n : Low). AreSendable identity (told flow low (Some n)) → IsReported setup identity flow low (Some n)) (sym same)
      (λ can. one_reported low alarm waiting last (data_few is.0.change) can) sendable
