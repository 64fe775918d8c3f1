-- The numbers of a device's alarms have their sizes, and its frames go to the controller.
use Rattle.std.proofs.Common.{◌≡◌, ◌⊎◌, inl, inr, ◌==◌, ◌&&◌, ◌++◌, ◌≤◌, ◌<◌, ◌+◌, ◌-◌, ◌%◌, ℕ, zero, suc, Bool, true, false, cond, List, [], ◌∷◌, length, map, take, Option, Some, None, option_map, refl, sym, ap, subst, ◌∙◌, arith}
use Rattle.std.specs.Prelude.{nat_lt, unwrap_or}
use Rattle.std.specs.List.{AllByRecursion, filter}
use Rattle.std.proofs.lemmas.Bool.{and_parts, eqb-true, leb-true}
use Rattle.std.proofs.Math.Nat.{mod-lt}
use Rattle.pn_values.specs.declared.identity.Identity.{Identity}
use Rattle.pn_values.specs.declared.real.RealModule.{RealModule}
use Rattle.module_diff.specs.declared.changes.RealChange.{RealChange}
use Rattle.module_diff.specs.declared.expected.Expected.{Expected}
use Rattle.module_diff.specs.Changes.{affected_by}
use Rattle.module_diff.specs.Plugged.{module_ident, submodule_ident}
use Rattle.frame_codec.specs.FrameId.{is_alarm}
use Rattle.record_blocks.specs.declared.alarm_ack.AlarmAck.{AlarmAck}
use Rattle.record_blocks.specs.declared.alarm_notification.AlarmNotification.{AlarmNotification}
use Rattle.rpc_core.specs.Cache.{Kept as Answer}
use Rattle.connects.specs.requests.Request.{Request}
use Rattle.pn_alarms.specs.declared.message.Notice.TheVariants as notice
use Rattle.pn_alarms.specs.declared.pdu.PduType.{PduType}
use Rattle.pn_alarms.specs.declared.pdu.PduType.TheVariants as pdu
use Rattle.pn_alarms.specs.declared.receiver.Taken.{Taken}
use Rattle.pn_alarms.specs.declared.receiver.Taken.TheVariants.{New, Again as Once_more, Refused as Not_taken}
use Rattle.pn_alarms.specs.Device.{end_behind, end_later, end_with, header_now, sender_after}
use Rattle.diagnosis.specs.Notices.{first_notice, first_notices, flag, notice_of as told_of}
use Rattle.diagnosis.specs.declared.diagnosis.Change.{Change}
use Rattle.diagnosis.specs.declared.diagnosis.Diagnosis.{Diagnosis}
use Rattle.diagnosis.specs.declared.alarms.own.Place.{Place}
use Rattle.diagnosis.specs.declared.module_change.ModuleChange.{ModuleChange}
use Rattle.diagnosis.specs.declared.module_change.ModuleChangeKind.{ModuleChangeKind}
use Rattle.diagnosis.specs.declared.module_change.ModuleChangeKind.TheVariants as kind_is
use Rattle.diagnosis.specs.declared.notice.Notice.{Notice}
use Rattle.diagnosis.specs.declared.queue.LowChange.{LowChange}
use Rattle.diagnosis.specs.declared.queue.LowChange.TheVariants as change_is
use Rattle.diagnosis.specs.declared.queue.QueuedAlarm.{QueuedAlarm}
use Rattle.diagnosis.specs.alarms.Alarms.{Low, noted}
use Rattle.diagnosis.specs.alarms.Own.{is_own}
use Rattle.diagnosis.specs.Queue.{after_next, alarm_of, begun, change_bytes, change_type, changed as low_changed, diagnosis_queued, is_next, is_reported, kind_type, module_queued, module_waits, queued, slot_of, subslot_of, waits_with}
use Rattle.pn_alarms.specs.Alarming.{Alarming}
use Rattle.pn_alarms.specs.Ends.{DeviceEnd}
use Rattle.pn_alarms.specs.Numbers.{ack_number, is_last, next_number, send_number}
use Rattle.pn_alarms.specs.Receiver.{answer_to, last_behind, taken_as}
use Rattle.pn_alarms.specs.Sender.{is_end, notice_of}
use Rattle.pn_alarms.specs.Sending.{Sending, acked, rested}
use Rattle.cyclic_data.specs.declared.exchange.route.Route.{Route}
use Rattle.relations.specs.exchange.Flow.{Flow}
use Rattle.relations.specs.exchange.Diagnosis.{begins_with_one, behind_low, low_header_of, next_reported}
use Rattle.relations.specs.exchange.Frames.{Frame, Inputs, Notifies, Replies as Answers, Reports, RepliesLow}
use Rattle.relations.specs.exchange.Modules.{modules_restated}
use Rattle.relations.specs.exchange.Notices.{behind_message, header_of}
use Rattle.relations.specs.Diagnosed.{diagnose_one, diagnosing}
use Rattle.relations.specs.exchange.Opening.{route_of}
use Rattle.relations.specs.exchange.Units.{flow_later, repeated_of, tick_of}
use Rattle.relations.specs.Plugging.{is_alarmed_by, low_changed as modules_told, modules_changing, places_then, reported_as, rows_now}
use Rattle.expected_places.specs.Machine.{is_hit}
use Rattle.plans.specs.declared.parts.Parts.{Parts}
use Rattle.both_ends.specs.startup.request.Request.{request_for}
use Rattle.relations.specs.declared.farewell.Farewell.{Farewell}
use Rattle.relations.specs.Farewells.{farewell_of, said_by}
use Rattle.relations.specs.RelationState.{RelationState, flow_of}
use Rattle.relations.specs.Phases.{exchanging_from, made_of, updated, with_flow}
use Rattle.relations.specs.Timers.{unit_later}
use Rattle.device_frames.specs.Heard.{Heard}
use Rattle.device_frames.specs.Relation.{alarms_of, frames_in, low_alarms_of, low_replies_of, where_due}
use Rattle.device_frames.specs.Sent.{Sent, Ends, Exchanges}
use Rattle.block_codec.specs.Writable.{IsAlarm}
use Rattle.diagnosis.specs.Sendable.{IsHeader}
use Rattle.end_laws.specs.sending.Sized.{IsShort}
use Rattle.end_laws.specs.device.Turn.{AreCalm, Begins, Changes, Diagnoses, HearsAck, HearsData, HearsLowAck, HearsLowData, IsCalm, Makes, Passes, Raises, Standing, heard_low_in}
use Rattle.both_ends.specs.exchange.Sized.{AreSizedModules}
use Rattle.both_ends.proofs.ExchangeKeys.{KeysSo}
use Rattle.both_ends.proofs.ExchangeLists.{each_behind, none_some, some_is}
use Rattle.both_ends.proofs.ExchangeNextTold.{NextIs, after_places, next_is}
use Rattle.both_ends.proofs.ExchangeOwn.{own_places, own_plugged}
use Rattle.both_ends.proofs.ExchangeSmall.{module_small, part_small}
use Rattle.both_ends.proofs.ExchangeStated.{IsSizedChange, IsSizedHeard, IsStated, IsStatedIn, change_sized, changed_places, changed_stated, idents_small, later_keys, parts_small, same_stated}
use Rattle.both_ends.proofs.ExchangeTurns.{IsSameOr, IsTurn, Way, way_of}
use Rattle.both_ends.proofs.ExchangeTied.{begun_keys, begun_link, changed_link, diagnosed_keys, diagnosed_link, may_be, next_keys, next_link, way_before}

-- ---- a message

-- an alarm of high priority is a process alarm
abbrev pub IsProcess : AlarmNotification → Type 0
IsProcess alarm = alarm.alarm_type ≡ 2

abbrev pub IsSizedFrame : Identity → Route → Frame → Type 0
IsSizedFrame identity route (Inputs state inputs counter) = is_alarm route.sent_id ≡ false
IsSizedFrame identity route (Notifies header alarm) = (route.partner ≡ identity.mac → ⊥) × (header.kind ≡ pdu.Data) × IsHeader header × IsAlarm alarm × IsProcess alarm
IsSizedFrame identity route (Answers header) = (route.partner ≡ identity.mac → ⊥) × ((header.kind ≡ pdu.Ack) ⊎ (header.kind ≡ pdu.Nack)) × IsHeader header
IsSizedFrame identity route (Reports tag header alarm) = (route.partner ≡ identity.mac → ⊥) × (header.kind ≡ pdu.Data) × IsHeader header × IsAlarm alarm
IsSizedFrame identity route (RepliesLow tag header) = (route.partner ≡ identity.mac → ⊥) × ((header.kind ≡ pdu.Ack) ⊎ (header.kind ≡ pdu.Nack)) × IsHeader header

abbrev pub IsSizedSent : Identity → Sent → Type 0
IsSizedSent identity (Exchanges route frame) = IsSizedFrame identity route frame
IsSizedSent identity (Ends farewell) = (farewell.initiator ≡ identity.mac → ⊥) × IsHeader (said_by farewell).header
IsSizedSent identity other = Unit {0}

-- ---- a device's end of alarms

abbrev pub IsAlarmOrNone : Option AlarmNotification → Type 0
IsAlarmOrNone None = Unit {0}
IsAlarmOrNone (Some alarm) = IsAlarm alarm

abbrev pub IsProcessOrNone : Option AlarmNotification → Type 0
IsProcessOrNone None = Unit {0}
IsProcessOrNone (Some alarm) = IsProcess alarm

pub record IsSizedEnd (end : DeviceEnd) : Type 0 where
  pub last : IsShort end.sender.sending.last
  pub seen : IsShort end.seen
  pub specifier : end.sender.specifier < 2048
  pub standing : IsAlarmOrNone end.sender.standing

-- the frames of a relation go between the stations of the plan
abbrev pub IsRouted : Request → Route → Type 0
IsRouted request route = (number : ℕ) × (route ≡ route_of number request)

-- an alarm of low priority that waits
pub record IsSizedQueued (alarm : QueuedAlarm) : Type 0 where
  pub slot : slot_of alarm.change < 65536
  pub subslot : subslot_of alarm.change < 65536
  pub module_ident_number : alarm.module_ident_number < 4294967296
  pub submodule_ident_number : alarm.submodule_ident_number < 4294967296

-- a device's end of alarms of low priority, and what waits
pub record IsSizedLow (low : Low) : Type 0 where
  pub end : IsSizedEnd low.alarms
  pub waiting : AllByRecursion IsSizedQueued low.waiting

-- the alarm part of the relation that a plan asks for, while these modules are plugged
pub record IsSizedWay (real : List RealModule) (request : Request) (way : Way) : Type 0 where
  pub same : way.request ≡ request
  pub routed : IsRouted request way.route
  pub endpoint : way.endpoint < 65536
  pub alarms : IsSizedEnd way.alarms
  pub process : IsProcessOrNone way.alarms.sender.standing
  pub low : IsSizedLow way.low
  pub stated : IsStatedIn real way.request way.low.places way.keys

-- the relation, if there is one, is that of the plan
abbrev pub AreSizedIn : List RealModule → Request → Option RelationState → Type 0
AreSizedIn real request link = (l : RelationState) → link ≡ Some l → IsSizedWay real request (way_of l)

send_short : (last : Option ℕ) → IsShort last → send_number last < 65536
send_short None short = omega arith
send_short (Some number) short = short

ack_short : (last : Option ℕ) → IsShort last → ack_number last < 65536
ack_short None short = omega arith
ack_short (Some number) short = short

next_short : (last : Option ℕ) → next_number last < 65536
next_short None = omega arith
next_short (Some number) = let less : (number + 1) % 0x8000 < 0x8000 = mod-lt (number + 1) (omega arith) in omega (arith, less)

behind_short : (last : Option ℕ) (number : ℕ) (b : Bool) → (number == next_number last) ≡ b → IsShort last → IsShort (cond b (Some number) last)
behind_short last number true e short = subst (λ (n : ℕ). n < 65536) (sym (eqb-true number (next_number last) e)) (next_short last)
behind_short last number false e short = short

-- ---- what changes the relation

acked_last : (s : Sending) (b : Bool) → IsShort s.last → IsShort (cond b (rested s) s).last
acked_last s true short = short
acked_last s false short = short

ack_sized : (end : DeviceEnd) (number : ℕ) → IsSizedEnd end → IsSizedEnd (end_behind end (notice.Ack number))
ack_sized end number sized = record {
  last = acked_last end.sender.sending (is_last end.sender.sending.last number) sized.last;
  seen = sized.seen;
  specifier = sized.specifier;
  standing = sized.standing;
}

ended_sized : (end : DeviceEnd) (seen : Option ℕ) (b : Bool) → IsSizedEnd end → IsShort seen
    → IsSizedEnd (record { sender = cond b (record { sending = rested end.sender.sending; specifier = end.sender.specifier; standing = None }) end.sender; seen = seen })
ended_sized end seen true sized short = record { last = sized.last; seen = short; specifier = sized.specifier; standing = tt }
ended_sized end seen false sized short = record { last = sized.last; seen = short; specifier = sized.specifier; standing = sized.standing }

after_sized : (end : DeviceEnd) (seen : Option ℕ) (ack : AlarmAck) (as_what : Taken) → IsSizedEnd end → IsShort seen → IsSizedEnd (record { sender = sender_after end.sender ack as_what; seen = seen })
after_sized end seen ack New sized short = ended_sized end seen (is_end ack end.sender.standing) sized short
after_sized end seen ack Once_more sized short = record { last = sized.last; seen = short; specifier = sized.specifier; standing = sized.standing }
after_sized end seen ack Not_taken sized short = record { last = sized.last; seen = short; specifier = sized.specifier; standing = sized.standing }

data_sized : (end : DeviceEnd) (number : ℕ) (ack : AlarmAck) → IsSizedEnd end → IsSizedEnd (end_behind end (notice.Data number ack))
data_sized end number ack sized =
    after_sized end (last_behind end.seen number) ack (taken_as end.seen number) sized (behind_short end.seen number (number == next_number end.seen) refl sized.seen)

-- the active alarm of high priority stays one, or is over
ended_process : (a : Alarming) (b : Bool) → IsProcessOrNone a.standing → IsProcessOrNone (cond b (record { sending = rested a.sending; specifier = a.specifier; standing = None }) a).standing
ended_process a true is = tt
ended_process a false is = is

after_process : (a : Alarming) (ack : AlarmAck) (as_what : Taken) → IsProcessOrNone a.standing → IsProcessOrNone (sender_after a ack as_what).standing
after_process a ack New is = ended_process a (is_end ack a.standing) is
after_process a ack Once_more is = is
after_process a ack Not_taken is = is

data_process : (end : DeviceEnd) (number : ℕ) (ack : AlarmAck) → IsProcessOrNone end.sender.standing → IsProcessOrNone (end_behind end (notice.Data number ack)).sender.standing
data_process end number ack is = after_process end.sender ack (taken_as end.seen number) is

later_sized : (end : DeviceEnd) → IsSizedEnd end → IsSizedEnd (end_later end)
later_sized end sized = record { last = sized.last; seen = sized.seen; specifier = sized.specifier; standing = sized.standing }

with_sized : (end : DeviceEnd) (alarm : AlarmNotification) → IsSizedEnd end → IsAlarm alarm → IsSizedEnd (end_with end alarm)
with_sized end alarm sized is = record {
  last = next_short end.sender.sending.last;
  seen = sized.seen;
  specifier = mod-lt (end.sender.specifier + 1) (omega arith);
  standing = is;
}

-- ---- what waits for its alarm

type_small : (change : LowChange) → change_type change < 65536
type_small (change_is.Diagnosis change) = by_test change.appears
  where
    by_test : (b : Bool) → cond b 1 0x000C < 65536
    by_test true = omega arith
    by_test false = omega arith
type_small (change_is.Module made) = by_kind made.kind
  where
    by_kind : (kind : ModuleChangeKind) → kind_type kind < 65536
    by_kind kind_is.Pull = omega arith
    by_kind kind_is.PullModule = omega arith
    by_kind kind_is.Plug = omega arith
    by_kind kind_is.PlugWrong = omega arith

bytes_few : (change : LowChange) → length (change_bytes change) ≤ 1458
bytes_few (change_is.Diagnosis change) = omega arith
bytes_few (change_is.Module made) = omega arith

flag_few : (b : Bool) (value : ℕ) → flag b value ≤ value
flag_few true value = omega arith
flag_few false value = omega arith

-- its alarm
told_alarm : (sequence : ℕ) (alarm : QueuedAlarm) → sequence < 2048 → IsSizedQueued alarm → IsAlarm (alarm_of sequence alarm)
told_alarm sequence alarm few sized = record {
  alarm_type = type_small alarm.change;
  api = omega arith;
  slot_number = sized.slot;
  subslot_number = sized.subslot;
  module_ident_number = sized.module_ident_number;
  submodule_ident_number = sized.submodule_ident_number;
  alarm_specifier = omega (arith, few, flag_few alarm.is_any_at_submodule 0x2800, flag_few alarm.is_any_in_relation 0x8000);
  few = bytes_few alarm.change;
}

next_sized : (low : Low) → IsSizedLow low → IsSizedLow (after_next low)
next_sized low sized = by_next (next_is low)
  where
    by_next : NextIs low → IsSizedLow (after_next low)
    by_next (inl rests) = subst (λ (l : Low). IsSizedLow l) (sym rests.0) sized
    by_next (inr told) =
        let waits = subst (λ (ws : List QueuedAlarm). AllByRecursion IsSizedQueued ws) told.waits sized.waiting in
        subst (λ (l : Low). IsSizedLow l) (sym told.is) (record {
          end = with_sized low.alarms _ sized.end (told_alarm low.alarms.sender.specifier told.alarm sized.end.specifier waits.0);
          waiting = waits.1;
        })

-- one more waits
queued_sized : (alarm : QueuedAlarm) (low : Low) → IsSizedQueued alarm → IsSizedLow low → IsSizedLow (queued alarm low)
queued_sized alarm low one sized = record { end = sized.end; waiting = by_room (nat_lt (length low.waiting) 64) }
  where
    by_room : (b : Bool) → AllByRecursion IsSizedQueued (unwrap_or (cond b (Some (low.waiting ++ alarm ∷ [])) None) low.waiting)
    by_room true = each_behind IsSizedQueued low.waiting (alarm ∷ []) sized.waiting (one, tt)
    by_room false = sized.waiting

each_taken : (n : ℕ) (alarms : List QueuedAlarm) → AllByRecursion IsSizedQueued alarms → AllByRecursion IsSizedQueued (take n alarms)
each_taken zero alarms all = tt
each_taken (suc n) [] all = tt
each_taken (suc n) (alarm ∷ alarms) all = (all.0, each_taken n alarms all.1)

-- a change of diagnosis at a submodule of the relation
diagnosis_sized : (real : List RealModule) (told : Notice) → AreSizedModules real → (told.change.diagnosis.slot < 65536) × (told.change.diagnosis.subslot < 65536) → IsSizedQueued (diagnosis_queued real told)
diagnosis_sized real told all small = record {
  slot = small.0;
  subslot = small.1;
  module_ident_number = idents_small real told.change.diagnosis.slot all;
  submodule_ident_number = parts_small real told.change.diagnosis.slot told.change.diagnosis.subslot all;
}

-- its slot and its subslot
own_small : (real : List RealModule) (expected : Expected) (places : List Place) → AreSizedModules real → places ≡ own_places expected real
    → (slot subslot : ℕ) → is_own places slot subslot ≡ true → (slot < 65536) × (subslot < 65536)
own_small real expected places all same slot subslot own =
    let there = own_plugged expected real slot subslot (ap (λ (p : List Place). is_own p slot subslot) (sym same) ∙ own) in
    ((module_small real slot there.ident all there.module_is).0, (part_small real slot subslot there.part all there.part_is).0)

-- what exists as data exchange begins
first_sized : (real : List RealModule) (has : ℕ → ℕ → Bool) → AreSizedModules real → ((slot subslot : ℕ) → has slot subslot ≡ true → (slot < 65536) × (subslot < 65536))
    → (diagnoses : List Diagnosis) → AllByRecursion IsSizedQueued (map (diagnosis_queued real) (first_notices has diagnoses))
first_sized real has all small [] = tt
first_sized real has all small (one ∷ diagnoses) = by_has (has one.slot one.subslot) refl (first_sized real has all small diagnoses)
  where
    by_has : (b : Bool) → has one.slot one.subslot ≡ b → AllByRecursion IsSizedQueued (map (diagnosis_queued real) (first_notices has diagnoses))
        → AllByRecursion IsSizedQueued (map (diagnosis_queued real) (map first_notice (cond b (one ∷ filter (λ diagnosis. has diagnosis.slot diagnosis.subslot) diagnoses) (filter (λ diagnosis. has diagnosis.slot diagnosis.subslot) diagnoses))))
    by_has true e rest = (diagnosis_sized real (first_notice one) all (small one.slot one.subslot e), rest)
    by_has false e rest = rest

begun_sized : (real : List RealModule) (diagnoses : List Diagnosis) (low : Low) → AreSizedModules real → ((slot subslot : ℕ) → is_own low.places slot subslot ≡ true → (slot < 65536) × (subslot < 65536))
    → IsSizedLow low → IsSizedLow (begun real diagnoses low)
begun_sized real diagnoses low all small sized = record {
  end = sized.end;
  waiting = each_behind IsSizedQueued low.waiting (take (64 - length low.waiting) (map (diagnosis_queued real) (first_notices (is_own low.places) diagnoses))) sized.waiting
      (each_taken (64 - length low.waiting) (map (diagnosis_queued real) (first_notices (is_own low.places) diagnoses)) (first_sized real (is_own low.places) all small diagnoses));
}

-- a change of diagnosis
changed_sized : (real : List RealModule) (has_begun : Bool) (change : Change) (later : List Diagnosis) (low : Low) → AreSizedModules real
    → ((slot subslot : ℕ) → is_own low.places slot subslot ≡ true → (slot < 65536) × (subslot < 65536)) → IsSizedLow low → IsSizedLow (low_changed real has_begun change later low)
changed_sized real has_begun change later low all small sized = by_test (is_reported has_begun change low) refl
  where
    noted_so : IsSizedLow (noted later low)
    noted_so = record { end = sized.end; waiting = sized.waiting }

    by_test : (b : Bool) → is_reported has_begun change low ≡ b → IsSizedLow (cond b (after_next (waits_with real change later low)) (noted later low))
    by_test true e =
        let own = and_parts has_begun (is_own low.places change.diagnosis.slot change.diagnosis.subslot) e in
        next_sized (waits_with real change later low)
        (queued_sized (diagnosis_queued real (told_of (is_own low.places) change later)) (noted later low)
        (diagnosis_sized real (told_of (is_own low.places) change later) all (small change.diagnosis.slot change.diagnosis.subslot own.1)) noted_so)
    by_test false e = noted_so

-- a pull or a plug
modules_sized : (is_own_now has_begun : Bool) (told : ModuleChange) (made : RealChange) (later : List Diagnosis) (low : Low)
    → ((has : ℕ → ℕ → Bool) → IsSizedQueued (module_queued has told made later)) → IsSizedLow low → IsSizedLow (modules_told is_own_now has_begun told made later low)
modules_sized false has_begun told made later low one sized = sized
modules_sized true true told made later low one sized =
    next_sized (module_waits told made later low) (queued_sized (module_queued (is_own low.places) told made later) low (one (is_own low.places)) sized)
modules_sized true false told made later low one sized = queued_sized (module_queued (is_own low.places) told made later) low (one (is_own low.places)) sized

-- ---- turns of the device of a plan

module _ (laws : KeysSo) (identity : Identity) (plan : Parts) (ar : List ℕ) (apart : identity.mac ≡ plan.controller.mac → ⊥) where
  abbrev pub request : Request
  request = request_for plan ar

  abbrev AreSizedSent : List Sent → Type 0
  AreSizedSent messages = AllByRecursion (IsSizedSent identity) messages

  to_other : (route : Route) → IsRouted request route → route.partner ≡ identity.mac → ⊥
  to_other route routed e = apart (sym e ∙ ap (λ (r : Route). r.partner) routed.1)

  -- a header of either priority
  end_header : (end : DeviceEnd) (route : Route) (kind : PduType) (endpoint : ℕ) → IsRouted request route → endpoint < 65536 → IsSizedEnd end → IsHeader (header_now end kind route.reference endpoint)
  end_header end route kind endpoint routed few sized = record {
    destination = subst (λ (r : Route). r.reference < 65536) (sym routed.1) (omega arith);
    source = few;
    send_number = send_short end.sender.sending.last sized.last;
    ack_number = ack_short end.seen sized.seen;
  }

  calm_sized : (real : List RealModule) (before : Option RelationState) (message : Sent) → AreSizedIn real request before → IsCalm before message → IsSizedSent identity message
  calm_sized real before (Exchanges route (Inputs state inputs counter)) sized calm =
      ap (λ (r : Route). is_alarm r.sent_id) (calm.2 ∙ (sized calm.0 calm.1).routed.1)
  calm_sized real before (Exchanges route (Notifies header alarm)) sized calm = absurd calm
  calm_sized real before (Exchanges route (Answers header)) sized calm = absurd calm
  calm_sized real before (Exchanges route (Reports tag header alarm)) sized calm = absurd calm
  calm_sized real before (Exchanges route (RepliesLow tag header)) sized calm = absurd calm
  calm_sized real before (Ends farewell) sized calm =
      let way = sized calm.1 calm.2 in
      let said : IsHeader (said_by (farewell_of calm.0 calm.1)).header = record {
        destination = subst (λ (r : Request). r.alarm.reference < 65536) (sym way.same) (omega arith);
        source = way.endpoint;
        send_number = send_short calm.1.flow.alarms.sender.sending.last way.alarms.last;
        ack_number = ack_short calm.1.flow.alarms.seen way.alarms.seen;
      } in (
        λ e. apart (sym e ∙ (ap (λ (f : Farewell). f.initiator) calm.3 ∙ ap (λ (r : Request). r.ar.initiator) way.same)),
        subst (λ (f : Farewell). IsHeader (said_by f).header) (sym calm.3) said,
      )
  calm_sized real before other sized calm = tt

  all_calm : (real : List RealModule) (before : Option RelationState) (messages : List Sent) → AreSizedIn real request before → AreCalm before messages → AreSizedSent messages
  all_calm real before [] sized calm = tt
  all_calm real before (message ∷ messages) sized calm = (calm_sized real before message sized calm.0, all_calm real before messages sized calm.1)

  same_sized : (real : List RealModule) (before after : Option RelationState) → IsSameOr before after → AreSizedIn real request before → AreSizedIn real request after
  same_sized real before after (inl same) sized l is =
      let there = way_before before (way_of l) (ap (λ (o : Option RelationState). option_map way_of o) (sym is) ∙ same) in
      subst (λ (way : Way). IsSizedWay real request way) (sym there.2) (sized there.0 there.1)
  same_sized real before after (inr none) sized l is = absurd (none_some l after none is)

  becomes_sized : (real : List RealModule) (after : Option RelationState) (link : RelationState) → after ≡ Some link → IsSizedWay real request (way_of link) → AreSizedIn real request after
  becomes_sized real after link becomes sized l is = subst (λ (k : RelationState). IsSizedWay real request (way_of k)) (some_is link l (sym becomes ∙ is)) sized

  stands_sized : (flow : Flow) (standing : Option AlarmNotification) → IsRouted request flow.cyclic.route → flow.endpoint < 65536 → IsSizedEnd flow.alarms → IsAlarmOrNone standing → IsProcessOrNone standing
      → AreSizedSent (frames_in flow.cyclic.route (option_map (Notifies (header_of flow pdu.Data)) standing))
  stands_sized flow None routed few sized is process = tt
  stands_sized flow (Some alarm) routed few sized is process =
      ((to_other flow.cyclic.route routed, refl, end_header flow.alarms flow.cyclic.route pdu.Data flow.endpoint routed few sized, is, process), tt)

  low_stands : (flow : Flow) (standing : Option AlarmNotification) → IsRouted request flow.cyclic.route → flow.endpoint < 65536 → IsSizedEnd flow.low.alarms → IsAlarmOrNone standing
      → AreSizedSent (frames_in flow.cyclic.route (option_map (Reports flow.low.tag (low_header_of flow pdu.Data)) standing))
  low_stands flow None routed few sized is = tt
  low_stands flow (Some alarm) routed few sized is = ((to_other flow.cyclic.route routed, refl, end_header flow.low.alarms flow.cyclic.route pdu.Data flow.endpoint routed few sized, is), tt)

  due_sized : (b : Bool) (messages : List Sent) → AreSizedSent messages → AreSizedSent (where_due b messages)
  due_sized true messages sized = sized
  due_sized false messages sized = tt

  lows_sized : (b : Bool) (flow : Flow) → IsRouted request flow.cyclic.route → flow.endpoint < 65536 → IsSizedEnd flow.low.alarms → AreSizedSent (where_due b (low_alarms_of (Some flow)))
  lows_sized b flow routed few sized = due_sized b (low_alarms_of (Some flow)) (low_stands flow flow.low.alarms.sender.standing routed few sized sized.standing)

  pub record SizedTurn (real : List RealModule) (after : Option RelationState) (sent : List Sent) : Type 0 where
    pub link : AreSizedIn real request after
    pub messages : AreSizedSent sent

  raised_sized : (real : List RealModule) (before : Option RelationState) (heard : Heard) (after : Option RelationState) (sent : List Sent) → AreSizedModules real → AreSizedIn real request before → Raises real before heard after sent
      → SizedTurn real after sent
  raised_sized real before heard after sent all sized raises =
      let flow = raises.link.flow in
      let way = sized raises.link raises.was in
      let may = may_be flow raises.slot raises.subslot raises.octets (module_ident real raises.slot) (submodule_ident real raises.slot raises.subslot) raises.flow raises.raised in
      let plugged = module_small real raises.slot may.ident all may.plugged in
      let fitted = part_small real raises.slot raises.subslot may.part all may.fitted in
      let specifier = way.alarms.specifier in
      let few = leb-true (length raises.octets) 32 may.few in
      let alarm : IsAlarm (notice_of flow.alarms.sender.specifier raises.slot raises.subslot may.ident may.part raises.octets) = record {
        alarm_type = omega arith;
        api = omega arith;
        slot_number = plugged.0;
        subslot_number = fitted.0;
        module_ident_number = plugged.1;
        submodule_ident_number = fitted.1;
        alarm_specifier = omega (arith, specifier);
        few = omega (arith, few);
      } in
      let now : IsSizedWay real request (way_of (with_flow raises.flow raises.link)) =
      subst (λ (f : Flow). IsSizedWay real request (way_of (with_flow f raises.link))) (sym may.is) (record { same = way.same; routed = way.routed; endpoint = way.endpoint; alarms = with_sized flow.alarms _ way.alarms alarm; process = refl; low = way.low; stated = way.stated }) in
      record {
        link = becomes_sized real after (with_flow raises.flow raises.link) raises.becomes now;
        messages = subst (λ (messages : List Sent). AreSizedSent messages) (sym raises.sends) (stands_sized raises.flow raises.flow.alarms.sender.standing now.routed now.endpoint now.alarms now.alarms.standing now.process);
      }

  acked_sized : (real : List RealModule) (before : Option RelationState) (heard : Heard) (after : Option RelationState) (sent : List Sent) → AreSizedIn real request before → HearsAck before heard after sent → SizedTurn real after sent
  acked_sized real before heard after sent sized acked =
      let way = sized acked.link acked.was in
      record {
        link = becomes_sized real after (with_flow (behind_message acked.link.flow (notice.Ack acked.number)) acked.link) acked.becomes
            (record { same = way.same; routed = way.routed; endpoint = way.endpoint; alarms = ack_sized acked.link.flow.alarms acked.number way.alarms; process = way.process; low = way.low; stated = way.stated });
        messages = subst (λ (messages : List Sent). AreSizedSent messages) (sym acked.silent) tt;
      }

  answers_so : (as_what : Taken) → (answer_to as_what ≡ pdu.Ack) ⊎ (answer_to as_what ≡ pdu.Nack)
  answers_so New = inl refl
  answers_so Once_more = inl refl
  answers_so Not_taken = inr refl

  came_sized : (real : List RealModule) (before : Option RelationState) (heard : Heard) (after : Option RelationState) (sent : List Sent) → AreSizedIn real request before → HearsData before heard after sent → SizedTurn real after sent
  came_sized real before heard after sent sized came =
      let way = sized came.link came.was in
      let flow = behind_message came.link.flow (notice.Data came.number came.ack) in
      let end = data_sized came.link.flow.alarms came.number came.ack way.alarms in
      let as_what = taken_as came.link.flow.alarms.seen came.number in
      record {
        link = becomes_sized real after (with_flow flow came.link) came.becomes (record { same = way.same; routed = way.routed; endpoint = way.endpoint; alarms = end; process = data_process came.link.flow.alarms came.number came.ack way.process; low = way.low; stated = way.stated });
        messages = subst (λ (messages : List Sent). AreSizedSent messages) (sym came.sends)
            ((to_other flow.cyclic.route way.routed, answers_so as_what, end_header flow.alarms flow.cyclic.route (answer_to as_what) flow.endpoint way.routed way.endpoint end), tt);
      }

  passed_sized : (real : List RealModule) (before : Option RelationState) (heard : Heard) (after : Option RelationState) (sent : List Sent) → AreSizedIn real request before → Passes before heard after sent → SizedTurn real after sent
  passed_sized real before heard after sent sized passes =
      let way = sized passes.link passes.was in
      let flow = flow_later passes.link.flow in
      let end = later_sized passes.link.flow.alarms way.alarms in
      let low = later_sized passes.link.flow.low.alarms way.low.end in
      let high_due = (tick_of passes.link.flow).is_alarm && (repeated_of passes.link.flow).high in
      let low_due = (tick_of passes.link.flow).is_alarm && (repeated_of passes.link.flow).low in
      record {
        link = becomes_sized real after (unit_later passes.link) passes.becomes (record { same = way.same; routed = way.routed; endpoint = way.endpoint; alarms = end; process = way.process; low = record { end = low; waiting = way.low.waiting }; stated = same_stated real passes.link (unit_later passes.link) refl refl (later_keys passes.link) way.stated });
        messages = subst (λ (messages : List Sent). AreSizedSent messages) (sym passes.sends)
            (each_behind (IsSizedSent identity) (where_due high_due (alarms_of (Some flow))) (where_due low_due (low_alarms_of (Some flow)) ++ passes.others)
            (due_sized high_due (alarms_of (Some flow)) (stands_sized flow flow.alarms.sender.standing way.routed way.endpoint end end.standing way.process))
            (each_behind (IsSizedSent identity) (where_due low_due (low_alarms_of (Some flow))) passes.others
            (lows_sized low_due flow way.routed way.endpoint low)
            (all_calm real before passes.others sized passes.calm)));
      }

  -- ---- of low priority

  -- the next change is reported, if one can be, in this relation
  abbrev IsReporting : List RealModule → Option RelationState → Flow → Type 0
  IsReporting real after next = (b : Bool) → SizedTurn real after (where_due b (low_alarms_of (Some next)))

  reports_sized : (real : List RealModule) (link next : RelationState) (after : Option RelationState) → IsSizedWay real request (way_of link) → after ≡ Some next
      → IsSizedWay real request (way_of next) → IsReporting real after next.flow
  reports_sized real link next after way becomes later b = record {
    link = becomes_sized real after next becomes later;
    messages = lows_sized b next.flow later.routed later.endpoint later.low.end;
  }

  low_acked_sized : (real : List RealModule) (before : Option RelationState) (heard : Heard) (after : Option RelationState) (sent : List Sent) → AreSizedIn real request before → HearsLowAck before heard after sent → SizedTurn real after sent
  low_acked_sized real before heard after sent sized acked =
      let way = sized acked.link acked.was in
      record {
        link = becomes_sized real after (with_flow (behind_low acked.link.flow (notice.Ack acked.number)) acked.link) acked.becomes
            (record { same = way.same; routed = way.routed; endpoint = way.endpoint; alarms = way.alarms; process = way.process; low = record { end = ack_sized acked.link.flow.low.alarms acked.number way.low.end; waiting = way.low.waiting }; stated = way.stated });
        messages = subst (λ (messages : List Sent). AreSizedSent messages) (sym acked.silent) tt;
      }

  low_came_sized : (real : List RealModule) (before : Option RelationState) (heard : Heard) (after : Option RelationState) (sent : List Sent) → AreSizedIn real request before
      → HearsLowData before heard after sent → SizedTurn real after sent
  low_came_sized real before heard after sent sized came =
      let way = sized came.link came.was in
      let middle = heard_low_in came.link (notice.Data came.number came.ack) in
      let end = data_sized came.link.flow.low.alarms came.number came.ack way.low.end in
      let as_what = taken_as came.link.flow.low.alarms.seen came.number in
      let heard_way : IsSizedWay real request (way_of middle) = record {
        same = way.same;
        routed = way.routed;
        endpoint = way.endpoint;
        alarms = way.alarms;
        process = way.process;
        low = record { end = end; waiting = way.low.waiting };
        stated = way.stated;
      } in
      let next_way : IsSizedWay real request (way_of (next_link middle)) = record {
        same = way.same;
        routed = way.routed;
        endpoint = way.endpoint;
        alarms = way.alarms;
        process = way.process;
        low = next_sized middle.flow.low heard_way.low;
        stated = same_stated real came.link (next_link middle) refl (after_places middle.flow.low) (next_keys laws middle) way.stated;
      } in
      let next = reports_sized real middle (next_link middle) after heard_way came.becomes next_way (is_next middle.flow.low) in
      record {
        link = next.link;
        messages = subst (λ (messages : List Sent). AreSizedSent messages) (sym came.sends)
            (each_behind (IsSizedSent identity) (low_replies_of as_what (Some middle.flow)) (where_due (is_next middle.flow.low) (low_alarms_of (Some (next_reported middle.flow))))
            ((to_other middle.flow.cyclic.route way.routed, answers_so as_what, end_header middle.flow.low.alarms middle.flow.cyclic.route (answer_to as_what) middle.flow.endpoint way.routed way.endpoint end), tt) next.messages);
      }

  begins_sized : (real : List RealModule) (diagnoses : List Diagnosis) (before : Option RelationState) (after : Option RelationState) (sent : List Sent) → AreSizedModules real → AreSizedIn real request before
      → Begins real diagnoses before after sent → SizedTurn real after sent
  begins_sized real diagnoses before after sent all sized begins =
      let way = sized begins.link begins.was in
      let now = exchanging_from begins.link in
      let first = begun real diagnoses now.flow.low in
      let middle : IsSizedWay real request (way_of now) = record { same = way.same; routed = way.routed; endpoint = way.endpoint; alarms = way.alarms; process = way.process; low = way.low; stated = way.stated } in
      let next_way : IsSizedWay real request (way_of (begun_link real diagnoses now)) = record {
        same = way.same;
        routed = way.routed;
        endpoint = way.endpoint;
        alarms = way.alarms;
        process = way.process;
        low = next_sized first (begun_sized real diagnoses now.flow.low all (own_small real now.request.expected now.flow.low.places all way.stated.0) way.low);
        stated = same_stated real begins.link (begun_link real diagnoses now) refl (after_places first) (begun_keys laws real diagnoses now) way.stated;
      } in
      subst (λ (messages : List Sent). SizedTurn real after messages) (sym begins.sends)
      (reports_sized real now (begun_link real diagnoses now) after middle begins.becomes next_way (begins_with_one real diagnoses now.flow))

  diagnoses_sized : (real : List RealModule) (diagnoses later : List Diagnosis) (before : Option RelationState) (heard : Heard) (after : Option RelationState) (sent : List Sent) → AreSizedModules real → AreSizedIn real request before
      → Diagnoses real diagnoses later before heard after sent → SizedTurn real after sent
  diagnoses_sized real diagnoses later before heard after sent all sized changes =
      subst (λ (messages : List Sent). SizedTurn real after messages) (sym changes.sends) (by_link before sized changes.becomes (diagnose_one real changes.change later before))
    where
      by_link : (link : Option RelationState) → AreSizedIn real request link → after ≡ updated (diagnosing real changes.change later link) link → (b : Bool) → SizedTurn real after (where_due b (low_alarms_of (flow_of after)))
      by_link None sized_so becomes b = record {
        link = λ l is. absurd (none_some l after becomes is);
        messages = subst (λ (l : Option RelationState). AreSizedSent (where_due b (low_alarms_of (flow_of l)))) (sym becomes) (due_sized b [] tt);
      }
      by_link (Some link) sized_so becomes b =
          let way = sized_so link refl in
          let next = diagnosed_link real changes.change later link in
          let low = changed_sized real link.flow.cyclic.begun changes.change later link.flow.low all (own_small real link.request.expected link.flow.low.places all way.stated.0) way.low in
          let next_way : IsSizedWay real request (way_of (diagnosed_link real changes.change later link)) = record {
            same = way.same;
            routed = way.routed;
            endpoint = way.endpoint;
            alarms = way.alarms;
            process = way.process;
            low = low;
            stated = same_stated real link (diagnosed_link real changes.change later link) refl (changed_places real link.flow.cyclic.begun changes.change later link.flow.low) (diagnosed_keys laws real changes.change later link) way.stated;
          } in
          record {
            link = becomes_sized real after next becomes next_way;
            messages = subst (λ (l : Option RelationState). AreSizedSent (where_due b (low_alarms_of (flow_of l)))) (sym becomes) (lows_sized b next.flow way.routed way.endpoint low.end);
          }

  -- something is pulled or plugged
  changes_sized : (real now : List RealModule) (diagnoses later : List Diagnosis) (before : Option RelationState) (heard : Heard) (after : Option RelationState) (sent : List Sent) → IsSizedHeard heard → AreSizedModules real
      → AreSizedIn real request before → Changes real now diagnoses later before heard after sent → SizedTurn now after sent
  changes_sized real now diagnoses later before heard after sent small all sized changes =
      subst (λ (messages : List Sent). SizedTurn now after messages) (sym changes.sends) (by_link before refl changes.becomes (is_alarmed_by now changes.made later before))
    where
      one : IsSizedChange now changes.made
      one = change_sized real now heard changes.made all small changes.is changes.modules

      with_others : (messages : List Sent) → AreSizedSent messages → AreSizedSent (messages ++ changes.others)
      with_others messages ones = each_behind (IsSizedSent identity) messages changes.others ones (all_calm real before changes.others sized changes.calm)

      by_link : (link : Option RelationState) → before ≡ link → after ≡ modules_changing now changes.made later link → (b : Bool)
          → SizedTurn now after (where_due b (low_alarms_of (flow_of after)) ++ changes.others)
      by_link None was becomes b = record {
        link = λ l is. absurd (none_some l after becomes is);
        messages = with_others (where_due b (low_alarms_of (flow_of after)))
            (subst (λ (l : Option RelationState). AreSizedSent (where_due b (low_alarms_of (flow_of l)))) (sym becomes) (due_sized b [] tt));
      }
      by_link (Some link) was becomes b = record {
        link = becomes_sized now after (changed_link now changes.made later link) becomes next_way;
        messages = with_others (where_due b (low_alarms_of (flow_of after)))
            (subst (λ (l : Option RelationState). AreSizedSent (where_due b (low_alarms_of (flow_of l)))) (sym becomes)
            (lows_sized b (changed_link now changes.made later link).flow next_way.routed next_way.endpoint next_way.low.end));
      }
        where
          way : IsSizedWay real request (way_of link)
          way = sized link was

          low : IsSizedLow (changed_link now changes.made later link).flow.low
          low =
              modules_sized (is_hit (affected_by changes.made) (places_then (rows_now now link) changes.made link)) link.flow.cyclic.begun (reported_as link.request (rows_now now link) changes.made) changes.made later
              (modules_restated link.request.expected (rows_now now link) later link.flow).low
              (λ has. record { slot = one.slot; subslot = one.subslot; module_ident_number = one.module_ident_number; submodule_ident_number = one.submodule_ident_number })
              (record { end = way.low.end; waiting = way.low.waiting })

          route_same : (changed_link now changes.made later link).flow.cyclic.route ≡ link.flow.cyclic.route
          route_same = ap (λ (s : Standing). s.route) (laws.standing (rows_now now link) changes.made later link)

          next_way : IsSizedWay now request (way_of (changed_link now changes.made later link))
          next_way = record {
            same = way.same;
            routed = subst (λ (r : Route). IsRouted request r) (sym route_same) way.routed;
            endpoint = way.endpoint;
            alarms = way.alarms;
            process = way.process;
            low = low;
            stated = changed_stated laws now changes.made later link way.stated.1;
          }

  -- any turn but a pull or a plug, if a relation that is made now is that of the plan
  same_turn : (real now : List RealModule) (calls : List Answer) (diagnoses later : List Diagnosis) (before : Option RelationState) (heard : Heard) (after : Option RelationState) (sent : List Sent) → IsSizedHeard heard → AreSizedModules real
      → AreSizedIn real request before
      → ((makes : Makes calls before heard after sent) → (makes.request ≡ request) × ((l : RelationState) → after ≡ Some l → IsStated real l)) → now ≡ real → IsTurn real now calls diagnoses later before heard after sent → SizedTurn now after sent
  same_turn real now calls diagnoses later before heard after sent small all sized planned same is = by_kind is
    where
      on : SizedTurn real after sent → SizedTurn now after sent
      on turn = subst (λ (modules : List RealModule). SizedTurn modules after sent) (sym same) turn

      by_kind : IsTurn real now calls diagnoses later before heard after sent → SizedTurn now after sent
      by_kind (inl stays) = on (record { link = same_sized real before after stays.link sized; messages = all_calm real before sent sized stays.calm })
      by_kind (inr (inl makes)) = on (record {
        link = becomes_sized real after (made_of makes.request makes.partner makes.rows makes.options makes.starting) makes.made (record {
          same = (planned makes).0;
          routed = (makes.starting.number, ap (route_of makes.starting.number) (planned makes).0);
          endpoint = omega (arith, makes.few);
          alarms = record { last = tt; seen = tt; specifier = omega arith; standing = tt };
          process = tt;
          low = record { end = record { last = tt; seen = tt; specifier = omega arith; standing = tt }; waiting = tt };
          stated = (planned makes).1 (made_of makes.request makes.partner makes.rows makes.options makes.starting) makes.made;
        });
        messages = all_calm real before sent sized makes.calm;
      })
      by_kind (inr (inr (inl raises))) = on (raised_sized real before heard after sent all sized raises)
      by_kind (inr (inr (inr (inl acked)))) = on (acked_sized real before heard after sent sized acked)
      by_kind (inr (inr (inr (inr (inl came))))) = on (came_sized real before heard after sent sized came)
      by_kind (inr (inr (inr (inr (inr (inl passes)))))) = on (passed_sized real before heard after sent sized passes)
      by_kind (inr (inr (inr (inr (inr (inr (inl acked))))))) = on (low_acked_sized real before heard after sent sized acked)
      by_kind (inr (inr (inr (inr (inr (inr (inr (inl came)))))))) = on (low_came_sized real before heard after sent sized came)
      by_kind (inr (inr (inr (inr (inr (inr (inr (inr (inl begins))))))))) = on (begins_sized real diagnoses before after sent all sized begins)
      by_kind (inr (inr (inr (inr (inr (inr (inr (inr (inr (inl changes)))))))))) = on (diagnoses_sized real diagnoses later before heard after sent all sized changes)
      by_kind (inr (inr (inr (inr (inr (inr (inr (inr (inr (inr changes)))))))))) = changes_sized real now diagnoses later before heard after sent small all sized changes

  -- any turn
  pub turn_sized : (real now : List RealModule) (calls : List Answer) (diagnoses later : List Diagnosis) (before : Option RelationState) (heard : Heard) (after : Option RelationState) (sent : List Sent) → IsSizedHeard heard → AreSizedModules real
      → AreSizedIn real request before
      → ((makes : Makes calls before heard after sent) → (makes.request ≡ request) × ((l : RelationState) → after ≡ Some l → IsStated real l))
      → (now ≡ real) ⊎ Changes real now diagnoses later before heard after sent → IsTurn real now calls diagnoses later before heard after sent → SizedTurn now after sent
  turn_sized real now calls diagnoses later before heard after sent small all sized planned (inl same) is = same_turn real now calls diagnoses later before heard after sent small all sized planned same is
  turn_sized real now calls diagnoses later before heard after sent small all sized planned (inr changes) is = changes_sized real now diagnoses later before heard after sent small all sized changes
