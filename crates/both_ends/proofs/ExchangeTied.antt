-- Each turn of a device, as moves of the alarms of one priority of a relation.
use Rattle.std.proofs.Common.{◌≡◌, ◌⊎◌, inl, inr, ◌&&◌, ◌++◌, ℕ, Bool, true, false, cond, List, [], ◌∷◌, length, nat_le, Option, Some, None, option_map, refl, sym, ap, subst, ◌∙◌, append-nil}
use Rattle.std.specs.Prelude.{slice_get, is_none}
use Rattle.std.specs.List.{AllByRecursion}
use Rattle.pn_values.specs.declared.real.RealModule.{RealModule}
use Rattle.module_diff.specs.Plugged.{module_ident, submodule_ident}
use Rattle.record_blocks.specs.declared.alarm_ack.AlarmAck.{AlarmAck}
use Rattle.record_blocks.specs.declared.alarm_notification.AlarmNotification.{AlarmNotification}
use Rattle.rpc_core.specs.Cache.{Kept as Answer}
use Rattle.diagnosis.specs.declared.diagnosis.Diagnosis.{Diagnosis}
use Rattle.pn_alarms.specs.declared.message.Notice.TheVariants as notice
use Rattle.pn_alarms.specs.declared.pdu.Header.{Header}
use Rattle.pn_alarms.specs.declared.pdu.PduType.{PduType}
use Rattle.pn_alarms.specs.declared.pdu.PduType.TheVariants as pdu
use Rattle.diagnosis.specs.declared.reports.priority.Priority.{Priority}
use Rattle.diagnosis.specs.declared.reports.priority.Priority.TheVariants.{High, Low as low_priority}
use Rattle.pn_alarms.specs.declared.repeats.Due.{Due}
use Rattle.pn_alarms.specs.declared.repeats.Due.TheVariants as due_is
use Rattle.pn_alarms.specs.Device.{end_behind, end_later, end_with, idle}
use Rattle.pn_alarms.specs.Ends.{DeviceEnd}
use Rattle.pn_alarms.specs.Numbers.{send_number}
use Rattle.pn_alarms.specs.Receiver.{answer_to, taken_as}
use Rattle.pn_alarms.specs.Sender.{notice_of}
use Rattle.pn_alarms.specs.Sending.{due, is_again}
use Rattle.cyclic_data.specs.declared.exchange.route.Route.{Route}
use Rattle.diagnosis.specs.declared.diagnosis.Change.{Change}
use Rattle.diagnosis.specs.Queue.{is_next}
use Rattle.module_diff.specs.declared.changes.RealChange.{RealChange}
use Rattle.relations.specs.exchange.Diagnosis.{begins_with_one, behind_low, diagnosed, diagnoses_begun, is_diagnosed, low_header_of, next_reported}
use Rattle.relations.specs.exchange.Flow.{Flow}
use Rattle.relations.specs.exchange.Frames.{Notifies, Replies as Answers, Reports, RepliesLow}
use Rattle.relations.specs.exchange.Notices.{behind_message, header_of, may_raise, raised_at, raised_by as raised_from}
use Rattle.relations.specs.exchange.Units.{flow_later, repeated_of, tick_of}
use Rattle.relations.specs.Diagnosed.{diagnosing}
use Rattle.relations.specs.Exchanged.{raised_to}
use Rattle.relations.specs.RelationState.{RelationState, flow_of}
use Rattle.relations.specs.Phases.{exchanging_from, made_of, updated, with_flow, with_reported}
use Rattle.relations.specs.Plugging.{changed_by, first_sent, modules_changing, plugs_after, rows_now, taken_after}
use Rattle.relations.specs.Timers.{unit_later}
use Rattle.diagnosis.specs.Line.{Line}
use Rattle.diagnosis.specs.World.{line_after}
use Rattle.device_frames.specs.declared.local.Local.TheVariants as local
use Rattle.device_frames.specs.Heard.{Heard, Applied}
use Rattle.device_frames.specs.Relation.{alarms_of, frames_in, low_alarms_of, where_due}
use Rattle.device_frames.specs.Sent.{Sent, Exchanges}
use Rattle.controller_messages.specs.declared.setup.Setup.{Setup}
use Rattle.controller_messages.specs.Sent as said
use Rattle.end_laws.specs.turns.Alarms.{IsQuiet, Relation, Move, Raises as raising, PassesAtDevice, ComesToDevice, AckComesToDevice, acked_at_device, behind, behind_one, comes_to_device, is_priority, passed_at_device, raised_by}
use Rattle.both_ends.proofs.ExchangeKeys.{KeysSo}
use Rattle.both_ends.proofs.ExchangeReported.{ack_in, data_in, low_data, reported_at}
use Rattle.both_ends.specs.exchange.Over.{one_in, raised_in}
use Rattle.both_ends.proofs.ExchangeLists.{Extends, at_end, each_behind, each_on, more_extends, none_some, some_is, unchanged}
use Rattle.end_laws.specs.device.Orderly.{keys_of}
use Rattle.end_laws.specs.device.Turn.{AreCalm, Begins, Changes, Diagnoses, HearsAck, HearsData, HearsLowAck, HearsLowData, IsCalm, IsHigh, IsRaise, Makes, Passes, Raises, Refused, alarm_heard, heard_low_in}
use Rattle.both_ends.proofs.ExchangeTurns.{IsSameOr, IsTurn, Way, end_at, end_in, way_of}

-- ---- what is said is among what was sent

abbrev pub IsSaid : List (ℕ × AlarmNotification) → Option (ℕ × AlarmNotification) → Type 0
IsSaid pdus (Some alarm) = (k : ℕ) × (slice_get pdus k ≡ Some alarm)
IsSaid pdus None = Unit {0}

pub record IsConfirmed (priority : Priority) (reported : List said.Sent) (number : ℕ) (ack : AlarmAck) : Type 0 where
  pub place : ℕ
  pub route : Route
  pub header : Header
  pub there : slice_get reported place ≡ Some (said.Confirms route priority header ack)
  pub same : header.send_number ≡ number

abbrev pub IsHeard : Priority → List said.Sent → Option (ℕ × AlarmAck) → Type 0
IsHeard priority reported (Some (number, ack)) = IsConfirmed priority reported number ack
IsHeard priority reported None = Unit {0}

pub said_stays : (pdus more : List (ℕ × AlarmNotification)) (says : Option (ℕ × AlarmNotification)) → Extends pdus more → IsSaid pdus says → IsSaid more says
said_stays pdus more (Some alarm) p is = (is.0, p is.0 alarm is.1)
said_stays pdus more None p is = tt

pub heard_stays : (priority : Priority) (reported more : List said.Sent) (says : Option (ℕ × AlarmAck)) → Extends reported more → IsHeard priority reported says → IsHeard priority more says
heard_stays priority reported more (Some (number, ack)) t is =
    record { place = is.place; route = is.route; header = is.header; there = t is.place (said.Confirms is.route priority is.header ack) is.there; same = is.same }
heard_stays priority reported more None t is = tt

-- ---- messages without data of a priority

abbrev pub IsNone : Priority → Sent → Type 0
IsNone priority message = data_in priority message ≡ None

pub answer_none : (priority : Priority) (route : Route) (header : Header) (kind : PduType) → header.kind ≡ kind → IsNone priority (Exchanges route (Answers header))
answer_none priority route header pdu.Ack e = rw e refl
answer_none priority route header pdu.Nack e = rw e refl
answer_none priority route header pdu.Data e = rw e refl
answer_none priority route header pdu.Error e = rw e refl

pub low_answer_none : (priority : Priority) (route : Route) (tag : ℕ) (header : Header) (kind : PduType) → header.kind ≡ kind → IsNone priority (Exchanges route (RepliesLow tag header))
low_answer_none priority route tag header pdu.Ack e = rw e refl
low_answer_none priority route tag header pdu.Nack e = rw e refl
low_answer_none priority route tag header pdu.Data e = rw e refl
low_answer_none priority route tag header pdu.Error e = rw e refl

calm_none : (priority : Priority) (before : Option RelationState) (message : Sent) → IsCalm before message → IsNone priority message
calm_none priority before (Exchanges route (Notifies header alarm)) calm = absurd calm
calm_none priority before (Exchanges route (Answers header)) calm = absurd calm
calm_none priority before (Exchanges route (Reports tag header alarm)) calm = absurd calm
calm_none priority before (Exchanges route (RepliesLow tag header)) calm = absurd calm
calm_none priority before other calm = refl

pub all_calm_none : (priority : Priority) (before : Option RelationState) (messages : List Sent) → AreCalm before messages → AllByRecursion (IsNone priority) messages
all_calm_none priority before [] calm = tt
all_calm_none priority before (message ∷ messages) calm = (calm_none priority before message calm.0, all_calm_none priority before messages calm.1)

pub due_holds : (P : Sent → Type 0) (b : Bool) (messages : List Sent) → AllByRecursion P messages → AllByRecursion P (where_due b messages)
due_holds P true messages all = all
due_holds P false messages all = tt

-- alarms of high priority are none of low priority, and the other way round
pub highs_none : (flow : Flow) → AllByRecursion (IsNone low_priority) (alarms_of (Some flow))
highs_none flow = by_standing flow.alarms.sender.standing
  where
    by_standing : (standing : Option AlarmNotification) → AllByRecursion (IsNone low_priority) (frames_in flow.cyclic.route (option_map (Notifies (header_of flow pdu.Data)) standing))
    by_standing None = tt
    by_standing (Some alarm) = (refl, tt)

lows_none : (flow : Flow) → AllByRecursion (IsNone High) (low_alarms_of (Some flow))
lows_none flow = by_standing flow.low.alarms.sender.standing
  where
    by_standing : (standing : Option AlarmNotification) → AllByRecursion (IsNone High) (frames_in flow.cyclic.route (option_map (Reports flow.low.tag (low_header_of flow pdu.Data)) standing))
    by_standing None = tt
    by_standing (Some alarm) = (low_data High (low_header_of flow pdu.Data).send_number alarm, tt)

link_lows_none : (link : Option RelationState) → AllByRecursion (IsNone High) (low_alarms_of (flow_of link))
link_lows_none None = tt
link_lows_none (Some link) = lows_none link.flow

-- the active alarm of the priority, as it is said
abbrev pub IsActive : Priority → DeviceEnd → Sent → Type 0
IsActive priority end message =
    IsNone priority message ⊎ ((alarm : AlarmNotification) × (end.sender.standing ≡ Some alarm) × (data_in priority message ≡ Some (send_number end.sender.sending.last, alarm)))

highs_active : (flow : Flow) → AllByRecursion (IsActive High flow.alarms) (alarms_of (Some flow))
highs_active flow = by_standing flow.alarms.sender.standing refl
  where
    by_standing : (standing : Option AlarmNotification) → flow.alarms.sender.standing ≡ standing
        → AllByRecursion (IsActive High flow.alarms) (frames_in flow.cyclic.route (option_map (Notifies (header_of flow pdu.Data)) standing))
    by_standing None e = tt
    by_standing (Some alarm) e = (inr (alarm, e, refl), tt)

pub lows_active : (flow : Flow) → AllByRecursion (IsActive low_priority flow.low.alarms) (low_alarms_of (Some flow))
lows_active flow = by_standing flow.low.alarms.sender.standing refl
  where
    by_standing : (standing : Option AlarmNotification) → flow.low.alarms.sender.standing ≡ standing
        → AllByRecursion (IsActive low_priority flow.low.alarms) (frames_in flow.cyclic.route (option_map (Reports flow.low.tag (low_header_of flow pdu.Data)) standing))
    by_standing None e = tt
    by_standing (Some alarm) e = (inr (alarm, e, low_data low_priority (low_header_of flow pdu.Data).send_number alarm), tt)

-- ---- a turn of the device

-- the device's end of alarms is that of its relation
abbrev pub IsTied : Priority → Relation → Option RelationState → Type 0
IsTied priority r link = (l : RelationState) → link ≡ Some l → end_at priority l ≡ r.device

-- no alarm is raised
abbrev pub IsUnraised : Heard → Type 0
IsUnraised (Applied (local.Alarm slot subslot octets)) = ⊥
IsUnraised other = Unit {0}

pub way_before : (before : Option RelationState) (way : Way) → Some way ≡ option_map way_of before → (l : RelationState) × (before ≡ Some l) × (way ≡ way_of l)
way_before None way e = absurd cc
way_before (Some link) way e = (link, refl, some_is way (way_of link) e)

-- the alarm may be raised: a submodule is plugged there, it has few octets, and no other one is unconfirmed
pub record MayRaise (flow : Flow) (slot subslot : ℕ) (octets : List ℕ) (ident_at part_at : Option ℕ) (after : Flow) : Type 0 where
  pub ident : ℕ
  pub part : ℕ
  pub plugged : ident_at ≡ Some ident
  pub fitted : part_at ≡ Some part
  pub few : nat_le (length octets) 32 ≡ true
  pub none : flow.alarms.sender.standing ≡ None
  pub is : after ≡ record flow { alarms = end_with flow.alarms (notice_of flow.alarms.sender.specifier slot subslot ident part octets) }

stands_none : (standing : Option AlarmNotification) → is_none standing ≡ true → standing ≡ None
stands_none None e = refl
stands_none (Some alarm) e = absurd cc

and_true : (a b : Bool) → (a && b) ≡ true → (a ≡ true) × (b ≡ true)
and_true true b e = (refl, e)
and_true false b e = absurd cc

pub may_be : (flow : Flow) (slot subslot : ℕ) (octets : List ℕ) (ident part : Option ℕ) (after : Flow) → raised_from flow slot subslot octets ident part ≡ Some after
    → MayRaise flow slot subslot octets ident part after
may_be flow slot subslot octets None part after e = absurd cc
may_be flow slot subslot octets (Some ident) None after e = absurd cc
may_be flow slot subslot octets (Some ident) (Some part) after e = by_test (may_raise flow octets) refl e
  where
    by_test : (b : Bool) → may_raise flow octets ≡ b
        → cond b (Some (record flow { alarms = end_with flow.alarms (notice_of flow.alarms.sender.specifier slot subslot ident part octets) })) None ≡ Some after
        → MayRaise flow slot subslot octets (Some ident) (Some part) after
    by_test true f g =
        let rest = (and_true flow.cyclic.begun (nat_le (length octets) 32 && is_none flow.alarms.sender.standing) f).1 in
        let both = and_true (nat_le (length octets) 32) (is_none flow.alarms.sender.standing) rest in
        record { ident = ident; part = part; plugged = refl; fitted = refl; few = both.0; none = stands_none flow.alarms.sender.standing both.1; is = sym (some_is _ after g) }
    by_test false f g = absurd cc

module _ (priority : Priority) (setup : Setup) where
  -- the effect on the alarms of this priority, if the device's relation was the first and is the second, and these alarms are
  -- raised
  pub record Goes (r : Relation) (before after : Option RelationState) (sent : List Sent) (now : List AlarmNotification) : Type 0 where
    pub next : Relation
    pub moves : List Move
    pub made : behind priority setup moves r ≡ next
    pub quiet : AllByRecursion (IsQuiet priority) moves
    pub live : next.live ≡ r.live
    pub reported : next.reported ≡ r.reported
    pub pdus : Extends r.alarms.pdus next.alarms.pdus
    pub raised : next.alarms.sent ≡ r.alarms.sent ++ now
    pub taken : next.alarms.taken ≡ r.alarms.taken
    pub tied : IsTied priority next after
    pub still : before ≡ None → next ≡ r
    pub said : AllByRecursion (λ message. IsSaid next.alarms.pdus (data_in priority message)) sent

  none_said : (pdus : List (ℕ × AlarmNotification)) (message : Sent) → IsNone priority message → IsSaid pdus (data_in priority message)
  none_said pdus message none = subst (λ (o : Option (ℕ × AlarmNotification)). IsSaid pdus o) (sym none) tt

  pub all_none_said : (pdus : List (ℕ × AlarmNotification)) (messages : List Sent) → AllByRecursion (IsNone priority) messages → AllByRecursion (λ message. IsSaid pdus (data_in priority message)) messages
  all_none_said pdus messages none = each_on (IsNone priority) (λ message. IsSaid pdus (data_in priority message)) messages (none_said pdus) none

  -- nothing happens to the alarms
  pub rests : (r : Relation) (before after : Option RelationState) (sent : List Sent) → IsTied priority r after → AllByRecursion (IsNone priority) sent → Goes r before after sent []
  rests r before after sent tied none = record {
    next = r;
    moves = [];
    made = refl;
    quiet = tt;
    live = refl;
    reported = refl;
    pdus = unchanged r.alarms.pdus;
    raised = sym (append-nil r.alarms.sent);
    taken = refl;
    tied = tied;
    still = λ none_before. refl;
    said = all_none_said r.alarms.pdus sent none;
  }

  -- an alarm is raised
  abbrev raised_now : Relation → AlarmNotification → Relation
  raised_now r alarm = raised_by r alarm None

  active_said : (r : Relation) (alarm : AlarmNotification) (message : Sent) → IsActive priority (raised_now r alarm).device message
      → IsSaid (raised_now r alarm).alarms.pdus (data_in priority message)
  active_said r alarm message (inl none) = none_said (raised_now r alarm).alarms.pdus message none
  active_said r alarm message (inr is) =
      subst (λ (o : Option (ℕ × AlarmNotification)). IsSaid (raised_now r alarm).alarms.pdus o) (sym is.2) (
        length r.alarms.pdus,
        at_end r.alarms.pdus (send_number (raised_now r alarm).device.sender.sending.last, alarm)
            ∙ ap (λ (a : AlarmNotification). Some (send_number (raised_now r alarm).device.sender.sending.last, a)) (some_is alarm is.0 is.1),
      )

  pub raised_goes : (r : Relation) (before after : Option RelationState) (sent : List Sent) (alarm : AlarmNotification) → r.device.sender.standing ≡ None → (before ≡ None → ⊥)
      → IsTied priority (raised_now r alarm) after → AllByRecursion (IsActive priority (raised_now r alarm).device) sent → Goes r before after sent (alarm ∷ [])
  raised_goes r before after sent alarm none some tied active = record {
    next = raised_now r alarm;
    moves = raising alarm ∷ [];
    made = ap (λ (standing : Option AlarmNotification). raised_by r alarm standing) none;
    quiet = (raises_quiet priority alarm, tt);
    live = refl;
    reported = refl;
    pdus = more_extends r.alarms.pdus _;
    raised = refl;
    taken = refl;
    tied = tied;
    still = λ none_before. absurd (some none_before);
    said = each_on (IsActive priority (raised_now r alarm).device) (λ message. IsSaid (raised_now r alarm).alarms.pdus (data_in priority message)) sent (active_said r alarm) active;
  }
    where
      raises_quiet : (p : Priority) (a : AlarmNotification) → IsQuiet p (raising a)
      raises_quiet High a = tt
      raises_quiet low_priority a = tt

  -- a unit passes
  line_extends : (line : Line AlarmNotification) (number : ℕ) (alarm : Option AlarmNotification) (due_now : Due) → Extends line.pdus (line_after line number alarm due_now).pdus
  line_extends line number alarm due_is.Nothing = unchanged line.pdus
  line_extends line number None due_is.Again = unchanged line.pdus
  line_extends line number (Some alarm) due_is.Again = more_extends line.pdus ((number, alarm) ∷ [])
  line_extends line number alarm due_is.Spent = unchanged line.pdus

  line_sent : (line : Line AlarmNotification) (number : ℕ) (alarm : Option AlarmNotification) (due_now : Due) → (line_after line number alarm due_now).sent ≡ line.sent
  line_sent line number alarm due_is.Nothing = refl
  line_sent line number None due_is.Again = refl
  line_sent line number (Some alarm) due_is.Again = refl
  line_sent line number alarm due_is.Spent = refl

  line_taken : (line : Line AlarmNotification) (number : ℕ) (alarm : Option AlarmNotification) (due_now : Due) → (line_after line number alarm due_now).taken ≡ line.taken
  line_taken line number alarm due_is.Nothing = refl
  line_taken line number None due_is.Again = refl
  line_taken line number (Some alarm) due_is.Again = refl
  line_taken line number alarm due_is.Spent = refl

  -- the unconfirmed alarm is sent again if it is due
  again_said : (r : Relation) (message : Sent) → due r.device.sender.sending ≡ due_is.Again → IsActive priority r.device message → IsSaid (passed_at_device r).alarms.pdus (data_in priority message)
  again_said r message again (inl none) = none_said (passed_at_device r).alarms.pdus message none
  again_said r message again (inr is) =
      subst (λ (o : Option (ℕ × AlarmNotification)). IsSaid (passed_at_device r).alarms.pdus o) (sym is.2)
      (subst (λ (d : Due). IsSaid (line_after r.alarms (send_number r.device.sender.sending.last) r.device.sender.standing d).pdus (Some (send_number r.device.sender.sending.last, is.0))) (sym again)
      (subst (λ (standing : Option AlarmNotification). IsSaid (line_after r.alarms (send_number r.device.sender.sending.last) standing due_is.Again).pdus (Some (send_number r.device.sender.sending.last, is.0))) (sym is.1)
      (length r.alarms.pdus, at_end r.alarms.pdus (send_number r.device.sender.sending.last, is.0))))

  pub due_said : (r : Relation) (b : Bool) (messages : List Sent) → (b ≡ true → due r.device.sender.sending ≡ due_is.Again) → AllByRecursion (IsActive priority r.device) messages
      → AllByRecursion (λ message. IsSaid (passed_at_device r).alarms.pdus (data_in priority message)) (where_due b messages)
  due_said r true messages again active =
      each_on (IsActive priority r.device) (λ message. IsSaid (passed_at_device r).alarms.pdus (data_in priority message)) messages (λ message is. again_said r message (again refl) is) active
  due_said r false messages again active = tt

  pub passed_goes : (r : Relation) (before after : Option RelationState) (sent : List Sent) → (before ≡ None → ⊥) → IsTied priority (passed_at_device r) after
      → AllByRecursion (λ message. IsSaid (passed_at_device r).alarms.pdus (data_in priority message)) sent → Goes r before after sent []
  passed_goes r before after sent some tied all =
      let number = send_number r.device.sender.sending.last in
      let due_now = due r.device.sender.sending in
      record {
        next = passed_at_device r;
        moves = PassesAtDevice ∷ [];
        made = refl;
        quiet = (passes_quiet priority, tt);
        live = refl;
        reported = refl;
        pdus = line_extends r.alarms number r.device.sender.standing due_now;
        raised = line_sent r.alarms number r.device.sender.standing due_now ∙ sym (append-nil r.alarms.sent);
        taken = line_taken r.alarms number r.device.sender.standing due_now;
        tied = tied;
        still = λ none_before. absurd (some none_before);
        said = all;
      }
    where
      passes_quiet : (p : Priority) → IsQuiet p PassesAtDevice
      passes_quiet High = tt
      passes_quiet low_priority = tt

  -- an ACK arrives
  pub acked_goes : (r : Relation) (before after : Option RelationState) (sent : List Sent) (number : ℕ) → (before ≡ None → ⊥) → IsTied priority (acked_at_device r number) after
      → AllByRecursion (IsNone priority) sent → Goes r before after sent []
  acked_goes r before after sent number some tied none = record {
    next = acked_at_device r number;
    moves = AckComesToDevice number ∷ [];
    made = refl;
    quiet = (acks_quiet priority, tt);
    live = refl;
    reported = refl;
    pdus = unchanged r.alarms.pdus;
    raised = sym (append-nil r.alarms.sent);
    taken = refl;
    tied = tied;
    still = λ none_before. absurd (some none_before);
    said = all_none_said r.alarms.pdus sent none;
  }
    where
      acks_quiet : (p : Priority) → IsQuiet p (AckComesToDevice number)
      acks_quiet High = tt
      acks_quiet low_priority = tt

  -- an AlarmAck arrives
  abbrev pub confirmed_now : Relation → ℕ → AlarmAck → Relation
  confirmed_now r number ack = record r { device = end_behind r.device (notice.Data number ack) }

  own_priority : (p : Priority) → is_priority p p ≡ true
  own_priority High = refl
  own_priority low_priority = refl

  pub confirmed_goes : (r : Relation) (before after : Option RelationState) (sent : List Sent) (number : ℕ) (ack : AlarmAck) → (before ≡ None → ⊥) → IsConfirmed priority r.reported number ack
      → IsTied priority (confirmed_now r number ack) after → AllByRecursion (IsNone priority) sent → Goes r before after sent []
  confirmed_goes r before after sent number ack some there tied none = record {
    next = confirmed_now r number ack;
    moves = ComesToDevice there.place ∷ [];
    made = ap (λ (o : Option said.Sent). comes_to_device priority r o) there.there
        ∙ (ap (λ (b : Bool). cond b (confirmed_now r there.header.send_number ack) r) (own_priority priority)
        ∙ ap (λ (n : ℕ). confirmed_now r n ack) there.same);
    quiet = (comes_quiet priority, tt);
    live = refl;
    reported = refl;
    pdus = unchanged r.alarms.pdus;
    raised = sym (append-nil r.alarms.sent);
    taken = refl;
    tied = tied;
    still = λ none_before. absurd (some none_before);
    said = all_none_said r.alarms.pdus sent none;
  }
    where
      comes_quiet : (p : Priority) → IsQuiet p (ComesToDevice there.place)
      comes_quiet High = tt
      comes_quiet low_priority = tt

  runs_on : (moves more : List Move) (r : Relation) → behind priority setup (moves ++ more) r ≡ behind priority setup more (behind priority setup moves r)
  runs_on [] more r = refl
  runs_on (move ∷ moves) more r = runs_on moves more (behind_one priority setup r move)

  -- one after the other, in a turn that sends both
  goes_both : (r : Relation) (before middle after : Option RelationState) (first second : List Sent) (now : List AlarmNotification) → (before ≡ None → ⊥)
      → (one : Goes r before middle first []) → Goes one.next before after second now → Goes r before after (first ++ second) now
  goes_both r before middle after first second now some one other = record {
    next = other.next;
    moves = one.moves ++ other.moves;
    made = runs_on one.moves other.moves r ∙ (ap (λ (x : Relation). behind priority setup other.moves x) one.made ∙ other.made);
    quiet = each_behind (IsQuiet priority) one.moves other.moves one.quiet other.quiet;
    live = other.live ∙ one.live;
    reported = other.reported ∙ one.reported;
    pdus = λ k x e. other.pdus k x (one.pdus k x e);
    raised = other.raised ∙ ap (λ (xs : List AlarmNotification). xs ++ now) (one.raised ∙ append-nil r.alarms.sent);
    taken = other.taken ∙ one.taken;
    tied = other.tied;
    still = λ none_before. absurd (some none_before);
    said = each_behind (λ message. IsSaid other.next.alarms.pdus (data_in priority message)) first second
        (each_on (λ message. IsSaid one.next.alarms.pdus (data_in priority message)) (λ message. IsSaid other.next.alarms.pdus (data_in priority message)) first
        (λ message is. said_stays one.next.alarms.pdus other.next.alarms.pdus (data_in priority message) other.pdus is) one.said) other.said;
  }

  pub confirmed_then : (r : Relation) (before middle after : Option RelationState) (first second : List Sent) (now : List AlarmNotification) (number : ℕ) (ack : AlarmAck) → (before ≡ None → ⊥)
      → IsConfirmed priority r.reported number ack → IsTied priority (confirmed_now r number ack) middle → AllByRecursion (IsNone priority) first → Goes (confirmed_now r number ack) before after second now
      → Goes r before after (first ++ second) now
  unfolding confirmed_goes
  confirmed_then r before middle after first second now number ack some there tied none other =
      goes_both r before middle after first second now some (confirmed_goes r before middle first number ack some there tied none) other

  pub same_tied : (r : Relation) (before after : Option RelationState) → IsSameOr before after → IsTied priority r before → IsTied priority r after
  same_tied r before after (inl same) tied l is =
      let there = way_before before (way_of l) (ap (λ (o : Option RelationState). option_map way_of o) (sym is) ∙ same) in
      ap (λ (way : Way). end_in priority way) there.2 ∙ tied there.0 there.1
  same_tied r before after (inr none) tied l is = absurd (none_some l after none is)

  -- the relation became this one, whose end is this
  pub tied_by : (r : Relation) (after : Option RelationState) (link : RelationState) → after ≡ Some link → end_at priority link ≡ r.device → IsTied priority r after
  tied_by r after link becomes e l is = ap (λ (k : RelationState). end_at priority k) (some_is l link (sym is ∙ becomes)) ∙ e

  -- a relation that is made now begins as if nothing had happened
  abbrev pub IsFresh : Relation → List Answer → Option RelationState → Heard → Option RelationState → List Sent → Type 0
  IsFresh r calls before heard after sent = (makes : Makes calls before heard after sent) → idle makes.request.alarm.timeout_factor makes.request.alarm.retries ≡ r.device

pub is_some_link : (before : Option RelationState) (link : RelationState) → before ≡ Some link → before ≡ None → ⊥
is_some_link before link was none = none_some link before none was

pub again_due : (tick : Bool) (due_now : Due) → (tick && is_again due_now) ≡ true → due_now ≡ due_is.Again
again_due true due_is.Again e = refl
again_due true due_is.Nothing e = absurd cc
again_due true due_is.Spent e = absurd cc
again_due false due_now e = absurd cc

-- a relation that is made now
pub made_end : (priority : Priority) (r : Relation) (calls : List Answer) (before : Option RelationState) (heard : Heard) (after : Option RelationState) (sent : List Sent) (makes : Makes calls before heard after sent)
    → idle makes.request.alarm.timeout_factor makes.request.alarm.retries ≡ r.device → end_at priority (made_of makes.request makes.partner makes.rows makes.options makes.starting) ≡ r.device
made_end High r calls before heard after sent makes e = e
made_end low_priority r calls before heard after sent makes e = e

-- ---- an alarm of low priority is first sent

-- The relation after that: its exchange became this, and what follows from the alarm follows.
abbrev pub sent_link : Bool → Flow → RelationState → RelationState
sent_link is_sent flow link =
    let sent = first_sent is_sent flow.low in
    with_reported flow (taken_after sent link.plugs.places link.taken) (plugs_after sent flow.low.waiting link.plugs) link

-- The relation after the next change that waits was reported, if one can be.
abbrev pub next_link : RelationState → RelationState
next_link link = sent_link (is_next link.flow.low) (next_reported link.flow) link

-- The relation after a change of diagnosis.
abbrev pub diagnosed_link : List RealModule → Change → List Diagnosis → RelationState → RelationState
diagnosed_link real change later link = sent_link (is_diagnosed real change later link.flow) (diagnosed real change later link.flow) link

-- The relation as data exchange begins.
abbrev pub begun_link : List RealModule → List Diagnosis → RelationState → RelationState
begun_link real diagnoses link = sent_link (begins_with_one real diagnoses link.flow) (diagnoses_begun real diagnoses link.flow) link

-- The slots and subslots of its places are those of the relation before.
sent_keys : KeysSo → (is_sent : Bool) (flow : Flow) (link : RelationState) → keys_of (sent_link is_sent flow link).plugs.places ≡ keys_of link.plugs.places
sent_keys laws is_sent flow link = laws.sent (first_sent is_sent flow.low) flow.low.waiting link.plugs

pub next_keys : KeysSo → (link : RelationState) → keys_of (next_link link).plugs.places ≡ keys_of link.plugs.places
next_keys laws link = sent_keys laws (is_next link.flow.low) (next_reported link.flow) link

pub diagnosed_keys : KeysSo → (real : List RealModule) (change : Change) (later : List Diagnosis) (link : RelationState) → keys_of (diagnosed_link real change later link).plugs.places ≡ keys_of link.plugs.places
diagnosed_keys laws real change later link = sent_keys laws (is_diagnosed real change later link.flow) (diagnosed real change later link.flow) link

pub begun_keys : KeysSo → (real : List RealModule) (diagnoses : List Diagnosis) (link : RelationState) → keys_of (begun_link real diagnoses link).plugs.places ≡ keys_of link.plugs.places
begun_keys laws real diagnoses link = sent_keys laws (begins_with_one real diagnoses link.flow) (diagnoses_begun real diagnoses link.flow) link

-- The relation after a pull or a plug, after which these modules are plugged.
abbrev pub changed_link : List RealModule → RealChange → List Diagnosis → RelationState → RelationState
changed_link now made later link = changed_by (rows_now now link) made later link

-- ---- of high priority

module _ (setup : Setup) (r : Relation) (real : List RealModule) (before : Option RelationState) (tied : IsTied High r before) where
  raises_on : (heard : Heard) (after : Option RelationState) (sent : List Sent) → (raises : Raises real before heard after sent) → Goes High setup r before after sent (raised_in (Some raises.flow))
  raises_on heard after sent raises =
      let flow = raises.link.flow in
      let e = tied raises.link raises.was in
      let may = may_be flow raises.slot raises.subslot raises.octets (module_ident real raises.slot) (submodule_ident real raises.slot raises.subslot) raises.flow raises.raised in
      let alarm = notice_of flow.alarms.sender.specifier raises.slot raises.subslot may.ident may.part raises.octets in
      let now : raises.flow.alarms ≡ (raised_by r alarm None).device = ap (λ (f : Flow). f.alarms) may.is ∙ ap (λ (d : DeviceEnd). end_with d alarm) e in
      subst (λ (o : Option AlarmNotification). Goes High setup r before after sent (one_in o)) (sym (ap (λ (d : DeviceEnd). d.sender.standing) now))
      (raised_goes High setup r before after sent alarm (ap (λ (d : DeviceEnd). d.sender.standing) (sym e) ∙ may.none) (is_some_link before raises.link raises.was)
      (tied_by High setup (raised_by r alarm None) after (with_flow raises.flow raises.link) raises.becomes now)
      (subst (λ (messages : List Sent). AllByRecursion (IsActive High (raised_by r alarm None).device) messages) (sym raises.sends)
      (subst (λ (d : DeviceEnd). AllByRecursion (IsActive High d) (alarms_of (Some raises.flow))) now (highs_active raises.flow))))

  -- the alarm is refused
  refused_on : (slot subslot : ℕ) (octets : List ℕ) (after : Option RelationState) (sent : List Sent) → Refused real before slot subslot octets after sent → Goes High setup r before after sent []
  refused_on slot subslot octets after sent refused =
      rests High setup r before after sent (λ l is. tied l (sym refused.same ∙ is)) (subst (λ (messages : List Sent). AllByRecursion (IsNone High) messages) (sym refused.silent) tt)

  -- the effect of an alarm that is raised
  abbrev raised_for : Heard → RelationState → Option Flow
  raised_for (Applied (local.Alarm slot subslot octets)) link = raised_at link.flow real slot subslot octets.items
  raised_for other link = None

  pub raise_on : (slot subslot : ℕ) (octets : List ℕ) (after : Option RelationState) (sent : List Sent) → IsRaise real before slot subslot octets after sent
      → Goes High setup r before after sent (raised_in (raised_to real slot subslot octets before))
  raise_on slot subslot octets after sent (inl raises) =
      let raised : Some raises.flow ≡ raised_to real slot subslot octets before =
      sym raises.raised ∙ (ap (λ (h : Heard). raised_for h raises.link) (sym raises.is) ∙ ap (λ (l : Option RelationState). raised_to real slot subslot octets l) (sym raises.was)) in
      subst (λ (o : Option Flow). Goes High setup r before after sent (raised_in o)) raised (raises_on (alarm_heard slot subslot octets) after sent raises)
  raise_on slot subslot octets after sent (inr refused) =
      subst (λ (o : Option Flow). Goes High setup r before after sent (raised_in o)) (sym refused.unraised) (refused_on slot subslot octets after sent refused)

  passes_on : (heard : Heard) (after : Option RelationState) (sent : List Sent) → Passes before heard after sent → Goes High setup r before after sent []
  passes_on heard after sent passes =
      let flow = passes.link.flow in
      let later = flow_later flow in
      let e = tied passes.link passes.was in
      let high = (tick_of flow).is_alarm && (repeated_of flow).high in
      let low = (tick_of flow).is_alarm && (repeated_of flow).low in
      let Said = λ (message : Sent). IsSaid (passed_at_device r).alarms.pdus (data_in High message) in
      let others = where_due low (low_alarms_of (Some later)) ++ passes.others in
      passed_goes High setup r before after sent (is_some_link before passes.link passes.was)
      (tied_by High setup (passed_at_device r) after (unit_later passes.link) passes.becomes (ap (λ (d : DeviceEnd). end_later d) e))
      (subst (λ (messages : List Sent). AllByRecursion Said messages) (sym passes.sends)
      (each_behind Said (where_due high (alarms_of (Some later))) others
      (due_said High setup r high (alarms_of (Some later)) (λ f. ap (λ (d : DeviceEnd). due d.sender.sending) (sym e) ∙ again_due (tick_of flow).is_alarm (due flow.alarms.sender.sending) f)
      (subst (λ (d : DeviceEnd). AllByRecursion (IsActive High d) (alarms_of (Some later))) e (highs_active later)))
      (all_none_said High setup (passed_at_device r).alarms.pdus others
      (each_behind (IsNone High) (where_due low (low_alarms_of (Some later))) passes.others (due_holds (IsNone High) low (low_alarms_of (Some later)) (lows_none later)) (all_calm_none High before passes.others passes.calm)))))

  acks_on : (heard : Heard) (after : Option RelationState) (sent : List Sent) → HearsAck before heard after sent → Goes High setup r before after sent []
  acks_on heard after sent acked =
      acked_goes High setup r before after sent acked.number (is_some_link before acked.link acked.was)
      (tied_by High setup (acked_at_device r acked.number) after (with_flow (behind_message acked.link.flow (notice.Ack acked.number)) acked.link) acked.becomes
      (ap (λ (d : DeviceEnd). end_behind d (notice.Ack acked.number)) (tied acked.link acked.was)))
      (subst (λ (messages : List Sent). AllByRecursion (IsNone High) messages) (sym acked.silent) tt)

  data_on : (heard : Heard) (after : Option RelationState) (sent : List Sent) → IsHeard High r.reported (ack_in High (reported_at heard)) → HearsData before heard after sent → Goes High setup r before after sent []
  data_on heard after sent is came =
      let flow = behind_message came.link.flow (notice.Data came.number came.ack) in
      confirmed_goes High setup r before after sent came.number came.ack (is_some_link before came.link came.was) (there came.is)
      (tied_by High setup (record r { device = end_behind r.device (notice.Data came.number came.ack) }) after (with_flow flow came.link) came.becomes
      (ap (λ (d : DeviceEnd). end_behind d (notice.Data came.number came.ack)) (tied came.link came.was)))
      (subst (λ (messages : List Sent). AllByRecursion (IsNone High) messages) (sym came.sends)
      (answer_none High flow.cyclic.route (header_of flow (answer_to (taken_as came.link.flow.alarms.seen came.number))) _ refl, tt))
    where
      there : IsHigh heard came.source came.header (notice.Data came.number came.ack) → IsConfirmed High r.reported came.number came.ack
      there (inl same) = subst (λ (h : Heard). IsHeard High r.reported (ack_in High (reported_at h))) same is
      there (inr same) = subst (λ (h : Heard). IsHeard High r.reported (ack_in High (reported_at h))) same is

  -- what happens to alarms of low priority changes nothing of those of high priority
  begins_on : (diagnoses : List Diagnosis) (after : Option RelationState) (sent : List Sent) → Begins real diagnoses before after sent → Goes High setup r before after sent []
  begins_on diagnoses after sent begins =
      rests High setup r before after sent
      (tied_by High setup r after (begun_link real diagnoses (exchanging_from begins.link)) begins.becomes (tied begins.link begins.was))
      (subst (λ (messages : List Sent). AllByRecursion (IsNone High) messages) (sym begins.sends) (due_holds (IsNone High) _ _ (lows_none (diagnoses_begun real diagnoses (exchanging_from begins.link).flow))))

  changes_on : (diagnoses later : List Diagnosis) (heard : Heard) (after : Option RelationState) (sent : List Sent) → Diagnoses real diagnoses later before heard after sent → Goes High setup r before after sent []
  changes_on diagnoses later heard after sent changes =
      rests High setup r before after sent (λ l is. by_link before tied l (sym changes.becomes ∙ is))
      (subst (λ (messages : List Sent). AllByRecursion (IsNone High) messages) (sym changes.sends) (due_holds (IsNone High) _ _ (link_lows_none after)))
    where
      by_link : (link : Option RelationState) → IsTied High r link → (l : RelationState) → updated (diagnosing real changes.change later link) link ≡ Some l → end_at High l ≡ r.device
      by_link None tied_so l is = absurd cc
      by_link (Some link) tied_so l is =
          ap (λ (k : RelationState). end_at High k) (sym (some_is (diagnosed_link real changes.change later link) l is)) ∙ tied_so link refl

  low_acks_on : (heard : Heard) (after : Option RelationState) (sent : List Sent) → HearsLowAck before heard after sent → Goes High setup r before after sent []
  low_acks_on heard after sent acked =
      rests High setup r before after sent
      (tied_by High setup r after (with_flow (behind_low acked.link.flow (notice.Ack acked.number)) acked.link) acked.becomes (tied acked.link acked.was))
      (subst (λ (messages : List Sent). AllByRecursion (IsNone High) messages) (sym acked.silent) tt)

  low_data_on : (heard : Heard) (after : Option RelationState) (sent : List Sent) → HearsLowData before heard after sent → Goes High setup r before after sent []
  low_data_on heard after sent came =
      let flow = behind_low came.link.flow (notice.Data came.number came.ack) in
      let next = next_reported flow in
      rests High setup r before after sent (tied_by High setup r after (next_link (heard_low_in came.link (notice.Data came.number came.ack))) came.becomes (tied came.link came.was))
      (subst (λ (messages : List Sent). AllByRecursion (IsNone High) messages) (sym came.sends)
      (low_answer_none High flow.cyclic.route flow.low.tag (low_header_of flow (answer_to (taken_as came.link.flow.low.alarms.seen came.number))) _ refl, due_holds (IsNone High) _ _ (lows_none next)))

  -- so does a pull or a plug
  modules_on : (now : List RealModule) (diagnoses later : List Diagnosis) (heard : Heard) (after : Option RelationState) (sent : List Sent) → Changes real now diagnoses later before heard after sent
      → Goes High setup r before after sent []
  modules_on now diagnoses later heard after sent changes =
      rests High setup r before after sent (λ l is. by_link before tied l (sym changes.becomes ∙ is))
      (subst (λ (messages : List Sent). AllByRecursion (IsNone High) messages) (sym changes.sends)
      (each_behind (IsNone High) _ changes.others (due_holds (IsNone High) _ _ (link_lows_none after)) (all_calm_none High before changes.others changes.calm)))
    where
      by_link : (link : Option RelationState) → IsTied High r link → (l : RelationState) → modules_changing now changes.made later link ≡ Some l → end_at High l ≡ r.device
      by_link None tied_so l is = absurd cc
      by_link (Some link) tied_so l is = ap (λ (k : RelationState). end_at High k) (sym (some_is (changed_link now changes.made later link) l is)) ∙ tied_so link refl

  pub turn_on : (now : List RealModule) (calls : List Answer) (diagnoses later : List Diagnosis) (heard : Heard) (after : Option RelationState) (sent : List Sent)
      → IsHeard High r.reported (ack_in High (reported_at heard)) → IsUnraised heard → IsFresh High setup r calls before heard after sent
      → IsTurn real now calls diagnoses later before heard after sent → Goes High setup r before after sent []
  turn_on now calls diagnoses later heard after sent is unraised fresh (inl stays) = rests High setup r before after sent (same_tied High setup r before after stays.link tied) (all_calm_none High before sent stays.calm)
  turn_on now calls diagnoses later heard after sent is unraised fresh (inr (inl makes)) =
      rests High setup r before after sent
      (tied_by High setup r after (made_of makes.request makes.partner makes.rows makes.options makes.starting) makes.made (made_end High r calls before heard after sent makes (fresh makes)))
      (all_calm_none High before sent makes.calm)
  turn_on now calls diagnoses later heard after sent is unraised fresh (inr (inr (inl raises))) = absurd (subst (λ (h : Heard). IsUnraised h) raises.is unraised)
  turn_on now calls diagnoses later heard after sent is unraised fresh (inr (inr (inr (inl acked)))) = acks_on heard after sent acked
  turn_on now calls diagnoses later heard after sent is unraised fresh (inr (inr (inr (inr (inl came))))) = data_on heard after sent is came
  turn_on now calls diagnoses later heard after sent is unraised fresh (inr (inr (inr (inr (inr (inl passes)))))) = passes_on heard after sent passes
  turn_on now calls diagnoses later heard after sent is unraised fresh (inr (inr (inr (inr (inr (inr (inl acked))))))) = low_acks_on heard after sent acked
  turn_on now calls diagnoses later heard after sent is unraised fresh (inr (inr (inr (inr (inr (inr (inr (inl came)))))))) = low_data_on heard after sent came
  turn_on now calls diagnoses later heard after sent is unraised fresh (inr (inr (inr (inr (inr (inr (inr (inr (inl begins))))))))) = begins_on diagnoses after sent begins
  turn_on now calls diagnoses later heard after sent is unraised fresh (inr (inr (inr (inr (inr (inr (inr (inr (inr (inl changes)))))))))) = changes_on diagnoses later heard after sent changes
  turn_on now calls diagnoses later heard after sent is unraised fresh (inr (inr (inr (inr (inr (inr (inr (inr (inr (inr changes)))))))))) = modules_on now diagnoses later heard after sent changes
