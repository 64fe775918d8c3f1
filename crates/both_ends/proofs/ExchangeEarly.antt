-- Until the device has answered a call, its controller exchanges no data, and makes no request of the application.
use Rattle.std.proofs.Common.{◌≡◌, ◌⊎◌, inl, inr, ◌+◌, ◌&&◌, ◌||◌, ◌++◌, ℕ, Bool, true, false, not, cond, List, [], ◌∷◌, map, Option, Some, None, refl, sym, ap, subst, ◌∙◌}
use Rattle.std.specs.Prelude.{is_some}
use Rattle.std.specs.List.{AllByRecursion}
use Rattle.std.proofs.lemmas.Bool.{false≢true}
use Rattle.frame_codec.specs.declared.udp.Caller.{Caller}
use Rattle.rpc_core.specs.Call.{Asked as Call}
use Rattle.connect_blocks.specs.declared.control.ControlBlock.{ControlBlock}
use Rattle.record_blocks.specs.declared.alarm_ack.AlarmAck.{AlarmAck}
use Rattle.record_blocks.specs.declared.alarm_notification.AlarmNotification.{AlarmNotification}
use Rattle.pn_alarms.specs.Ends.{ControllerEnd}
use Rattle.diagnosis.specs.declared.reports.priority.Priority.{Priority}
use Rattle.diagnosis.specs.declared.reports.priority.Priority.TheVariants.{High, Low}
use Rattle.pn_alarms.specs.declared.receiver.Taken.{Taken}
use Rattle.pn_alarms.specs.declared.receiver.Taken.TheVariants.{New, Again, Refused}
use Rattle.diagnosis.specs.declared.reports.report.Report.{Report}
use Rattle.pn_alarms.specs.Receiver.{taken_as}
use Rattle.pn_values.specs.declared.mac.Mac.{Mac}
use Rattle.device_core.specs.State.{Station}
use Rattle.plan_places.specs.Places.{next_waiting}
use Rattle.controller_messages.specs.declared.plug_request.PlugRequest.{PlugRequest}
use Rattle.controller_messages.specs.declared.record_request.RecordRequest.{RecordRequest}
use Rattle.controller_messages.specs.declared.request.Request.{Request}
use Rattle.controller_messages.specs.declared.request.Request.TheVariants as asks
use Rattle.controller_messages.specs.declared.setup.Setup.{Setup}
use Rattle.controller_messages.specs.Access.{is_free}
use Rattle.controller_messages.specs.Heard.{Calls, heard_of}
use Rattle.controller_messages.specs.Requests.{writing_from}
use Rattle.controller_messages.specs.Sent as said
use Rattle.controller_core.specs.declared.stored.event.Event.{Event}
use Rattle.controller_core.specs.declared.stored.event.Event.TheVariants as event
use Rattle.controller_core.specs.declared.stored.state.State.{State}
use Rattle.controller_core.specs.declared.stored.state.State.TheVariants.{Exchanging}
use Rattle.controller_core.specs.stored.Alarms.{ack_of}
use Rattle.controller_core.specs.Machine.{Turn, accesses_by, acking, after_turn, begun_by, begun_turn, can_begin, diagnosing, acks_in, acks_of, asking, behind_data, brought, due_frames, end_of, is_again, is_exchanging, keeping, later, pending_by, pending_of, plugs_by, plugs_of, requests_of, taken, turn_due, turn_of, where_due, with_end}
use Rattle.controller_core.specs.stored.State.{phase_for}
use Rattle.controller_core.specs.start_up.Answers.{ready_in}
use Rattle.controller_core.specs.stored.State.{Live}
use Rattle.controller_core.specs.start_up.Answers.{is_ready}
use Rattle.end_laws.specs.both.Small as small
use Rattle.end_laws.specs.both.Small.{ToDevice}
use Rattle.end_laws.specs.controller.Small.{readied_by, said_to}
use Rattle.end_laws.specs.turns.Beside.{flow_begun}
use Rattle.end_laws.specs.turns.Turns.{Came, Hears, Passes, Gets, GetsStatus, AsksRead, AsksWrite, Halts, IsKind, IsReadied, Kind, Rests, Connects, Addresses, Ends, Releases, Relates, Writes, Skips, Tries, Waits, Forgets, Begins, Repeats, Follows, Takes, IsAcked, Asks, IsReplied, IsPlugAnswered, IsPlugReadied, Gives, GivesStatus, Flows, Breaks, Idles, came_by, turn_by}
use Rattle.both_ends.specs.startup.View.{IsSaidAs, rules_of, says_to_device}
use Rattle.both_ends.proofs.ExchangeLists.{each_behind, none_some, some_is}
use Rattle.controller_core.specs.start_up.Requests.{behind_write}
use Rattle.both_ends.proofs.ExchangeOutputsTurns.{KindsSo}

-- ---- what is early

-- a message that is no request of the application, and none after a plug
abbrev pub IsNoAccess : said.Sent → Type 0
IsNoAccess (said.Accesses device request octets) = ⊥
IsNoAccess (said.Parametrizes device request) = ⊥
IsNoAccess other = Unit {0}

-- a controller without data to exchange, and without a request of the application or after a plug
pub record IsEarlyAt (live : Live) : Type 0 where
  pub phase : is_exchanging live.phase ≡ false
  pub waiting : live.access.waiting ≡ None
  pub plug : live.access.plug ≡ None

pub record EarlyTurn (turn : Turn) : Type 0 where
  pub live : IsEarlyAt turn.live
  pub sent : AllByRecursion IsNoAccess turn.sent

-- a frame that is no request of the application, and no ApplicationReady of the relation
abbrev pub IsEarlyFrame : Setup → Station → List ℕ → Type 0
IsEarlyFrame setup station frame =
    ((sequence : ℕ) → (rules_of setup station).to_device frame ≡ small.Call sequence small.Accesses → ⊥) × ((rules_of setup station).to_controller frame ≡ small.Readies → ⊥)

-- ---- a turn of the controller

-- no ApplicationReady of the relation comes
abbrev IsUnready : Setup → Came → Type 0
IsUnready setup (Hears heard) = said_to setup heard ≡ small.Readies → ⊥
IsUnready setup Passes = Unit {0}
IsUnready setup (Gets slot subslot value) = Unit {0}
IsUnready setup (GetsStatus slot subslot is_good) = Unit {0}
IsUnready setup (AsksRead slot subslot index) = Unit {0}
IsUnready setup (AsksWrite slot subslot index octets) = Unit {0}
IsUnready setup Halts = Unit {0}

asking_early : (setup : Setup) (phase : State) (request : Request) (live : Live) → is_exchanging phase ≡ false → live.access.waiting ≡ None → live.access.plug ≡ None
    → EarlyTurn (asking setup phase request live)
asking_early setup phase request live e none unplugged = record { live = record { phase = e; waiting = none; plug = unplugged }; sent = (tt, tt) }

written_phase : (request : Request) → is_exchanging (phase_for request) ≡ false
written_phase asks.Identify = refl
written_phase asks.Address = refl
written_phase asks.Connect = refl
written_phase (asks.Write number) = refl
written_phase asks.PrmEnd = refl
written_phase (asks.Release sequence) = refl
written_phase (asks.WriteAfter number tries) = refl
written_phase (asks.PrmEndAfter tries) = refl

with_end_early : (live : Live) (priority : Priority) (end : ControllerEnd) → IsEarlyAt live → IsEarlyAt (with_end live priority end)
with_end_early live High end is = record { phase = is.phase; waiting = is.waiting; plug = is.plug }
with_end_early live Low end is = record { phase = is.phase; waiting = is.waiting; plug = is.plug }

keeping_early : (live : Live) (priority : Priority) (alarm : AlarmNotification) (structure : Option ℕ) → IsEarlyAt live → IsEarlyAt (keeping live priority alarm structure)
keeping_early live High alarm structure is = record { phase = is.phase; waiting = is.waiting; plug = is.plug }
keeping_early live Low alarm structure is = record { phase = is.phase; waiting = is.waiting; plug = is.plug }

diagnosing_early : (report : Report) (live : Live) → IsEarlyAt live → IsEarlyAt (diagnosing report live)
diagnosing_early report live is = record { phase = is.phase; waiting = is.waiting; plug = is.plug }

taken_early : (live : Live) (report : Report) (as_is : Taken) → IsEarlyAt live → EarlyTurn (taken live report as_is)
taken_early live report New is = record {
  live = diagnosing_early report _
      (keeping_early (acking live report.priority (ack_of report.notification)) report.priority _ report.user_structure (with_end_early live report.priority _ is));
  sent = (tt, (tt, tt));
}
taken_early live report Again is = record { live = is; sent = (tt, tt) }
taken_early live report Refused is = record { live = is; sent = (tt, tt) }

due_early : (b : Bool) (messages : List said.Sent) → AllByRecursion IsNoAccess messages → AllByRecursion IsNoAccess (where_due b messages)
due_early true messages all = all
due_early false messages all = tt

acks_early : (live : Live) (priority : Priority) (ack : Option AlarmAck) → AllByRecursion IsNoAccess (acks_in live priority ack)
acks_early live priority (Some ack) = (tt, tt)
acks_early live priority None = tt

requests_early : (device : Mac) (asked : Option Request) → AllByRecursion IsNoAccess (requests_of device asked)
requests_early device (Some request) = (tt, tt)
requests_early device None = tt

accesses_early : (device : Mac) (octets : List ℕ) (waiting : Option RecordRequest) → waiting ≡ None → AllByRecursion IsNoAccess (accesses_by device octets waiting)
accesses_early device octets (Some request) none = absurd cc
accesses_early device octets None none = tt

-- no request beside data exchange
beside_early : (device : Mac) (octets : List ℕ) (waiting : Option RecordRequest) (plug : Option PlugRequest) → waiting ≡ None → plug ≡ None
    → AllByRecursion IsNoAccess (cond (is_some plug) (plugs_by device plug) (accesses_by device octets waiting))
beside_early device octets waiting (Some request) none unplugged = absurd cc
beside_early device octets waiting None none unplugged = accesses_early device octets waiting none

pending_early : (live : Live) (asked : Option Request) → live.access.waiting ≡ None → live.access.plug ≡ None → AllByRecursion IsNoAccess (pending_by live asked)
pending_early live (Some request) none unplugged = (tt, tt)
pending_early live None none unplugged = beside_early live.device live.access.octets live.access.waiting live.access.plug none unplugged

flows_early : (live : Live) (is_high is_low is_request is_cyclic : Bool) → live.access.waiting ≡ None → live.access.plug ≡ None
    → AllByRecursion IsNoAccess (due_frames live is_high is_low is_request is_cyclic)
flows_early live is_high is_low is_request is_cyclic none unplugged =
    each_behind IsNoAccess (where_due is_high (acks_of live High)) _ (due_early is_high _ (acks_early live High live.alarms.confirming))
    (each_behind IsNoAccess (where_due is_low (acks_of live Low)) _ (due_early is_low _ (acks_early live Low live.low_alarms.confirming))
    (each_behind IsNoAccess (where_due is_request (pending_of live)) _ (due_early is_request _ (pending_early live live.asked none unplugged))
    (due_early is_cyclic _ (tt, tt))))

-- ---- turns of places

and_false : (b : Bool) → (b && false) ≡ false
and_false true = refl
and_false false = refl

-- without data to exchange none begins
cannot_begin : (live : Live) → IsEarlyAt live → can_begin live ≡ false
cannot_begin live is =
    ap (λ (b : Bool). live.stands && (b && (is_free live.access && is_some (next_waiting live.places)))) is.phase ∙ and_false live.stands

after_early : (setup : Setup) (could : Bool) (turn : Turn) → EarlyTurn turn → EarlyTurn (after_turn setup could turn)
after_early setup could turn early = by_tests could (can_begin turn.live) (cannot_begin turn.live early.live)
  where
    by_tests : (a b : Bool) → b ≡ false
        → EarlyTurn (cond (a || not b) turn (record { live = begun_turn setup turn.live; sent = turn.sent ++ plugs_of (begun_turn setup turn.live) }))
    by_tests true b e = early
    by_tests false false e = early
    by_tests false true e = absurd cc

due_turn_early : (setup : Setup) (is_due : Bool) (live : Live) → IsEarlyAt live → IsEarlyAt (turn_due setup is_due live)
due_turn_early setup true live is = by_test (can_begin live) (cannot_begin live is)
  where
    by_test : (b : Bool) → b ≡ false → IsEarlyAt (cond b (begun_by setup (next_waiting live.places) live) live)
    by_test false e = is
    by_test true e = absurd cc
due_turn_early setup false live is = is

-- a unit later
flow_early : (setup : Setup) (live : Live) → IsEarlyAt live → IsEarlyAt (flow_begun setup live)
flow_early setup live is =
    let due = due_turn_early setup (is_again live) (later live) (record { phase = is.phase; waiting = is.waiting; plug = is.plug }) in
    record { phase = due.phase; waiting = due.waiting; plug = due.plug }

module _ (setup : Setup) (live : Live) (came : Came) (is : IsEarlyAt live) (unready : IsUnready setup came) where
  exchanges_not : live.phase ≡ Exchanging → ⊥
  exchanges_not e = false≢true (sym is.phase ∙ ap (λ (s : State). is_exchanging s) e)

  readies : (caller : Caller) (call : Call) (block : ControlBlock) → IsReadied setup came caller call block → ⊥
  readies caller call block ready = unready_of (by_ready (ready_in call) block ready.is ready.right)
    where
      unready_of : said_to setup (Calls caller call) ≡ small.Readies → ⊥
      unready_of = subst (λ (c : Came). IsUnready setup c) ready.comes unready

      by_ready : (read : Option ControlBlock) (block : ControlBlock) → read ≡ Some block → is_ready setup block ≡ true → readied_by setup read ≡ small.Readies
      by_ready (Some found) block e right = ap (λ (b : Bool). cond b small.Readies small.Nothing) (ap (λ (c : ControlBlock). is_ready setup c) (some_is found block e) ∙ right)
      by_ready None block e right = absurd cc

  kind_early : (kind : Kind) → IsKind setup live came kind → EarlyTurn (turn_by setup live kind)
  kind_early Rests holds = record { live = is; sent = tt }
  kind_early (Connects source) holds = record { live = record { phase = refl; waiting = is.waiting; plug = is.plug }; sent = (tt, tt) }
  kind_early (Addresses source) holds = record { live = record { phase = refl; waiting = is.waiting; plug = is.plug }; sent = (tt, tt) }
  kind_early (Ends why refusal refused units) holds = record { live = record { phase = refl; waiting = refl; plug = refl }; sent = tt }
  kind_early (Releases why refusal refused units) holds = record { live = record { phase = refl; waiting = refl; plug = refl }; sent = (tt, tt) }
  kind_early (Relates places chosen) holds = record { live = record { phase = written_phase (writing_from setup.plan 0); waiting = is.waiting; plug = is.plug }; sent = (tt, tt) }
  kind_early (Tries next status) holds = record { live = record { phase = is.phase; waiting = is.waiting; plug = is.plug }; sent = tt }
  kind_early (Writes number tries) holds = record { live = record { phase = written_phase (behind_write setup.plan number tries); waiting = is.waiting; plug = is.plug }; sent = (tt, tt) }
  kind_early (Skips number tries refused status) holds = record { live = record { phase = written_phase (behind_write setup.plan number tries); waiting = is.waiting; plug = is.plug }; sent = (tt, tt) }
  kind_early (Waits tries) holds = record { live = record { phase = refl; waiting = is.waiting; plug = is.plug }; sent = tt }
  kind_early Forgets holds = record { live = record { phase = is.phase; waiting = is.waiting; plug = is.plug }; sent = tt }
  kind_early (Begins caller call block) holds = absurd (readies caller call block holds.1)
  kind_early (Repeats caller call block) holds = absurd (exchanges_not holds.0)
  kind_early (Follows source frame_id body) holds = record { live = record { phase = is.phase; waiting = is.waiting; plug = is.plug }; sent = tt }
  kind_early (Takes number report) holds =
      after_early setup (can_begin live) (taken (behind_data live report.priority number) report (taken_as (end_of live report.priority).seen number))
      (taken_early (behind_data live report.priority number) report (taken_as (end_of live report.priority).seen number) (with_end_early live report.priority _ is))
  kind_early (IsAcked priority number) holds = record { live = with_end_early live priority _ is; sent = tt }
  kind_early (Asks request octets) holds = absurd (exchanges_not holds.0)
  kind_early (IsReplied refusal access) holds = absurd (none_some holds.3 live.access.waiting is.waiting holds.4)
  kind_early (IsPlugAnswered refusal refused waited places access) holds = absurd (none_some holds.4 live.access.plug is.plug holds.5)
  kind_early (IsPlugReadied caller call block) holds = absurd (exchanges_not holds.0)
  kind_early (Gives slot subslot value) holds = record { live = record { phase = is.phase; waiting = is.waiting; plug = is.plug }; sent = tt }
  kind_early (GivesStatus slot subslot is_good) holds = record { live = record { phase = is.phase; waiting = is.waiting; plug = is.plug }; sent = tt }
  kind_early Flows holds =
      let early = flow_early setup live is in
      record { live = early; sent = flows_early (flow_begun setup live) _ _ (is_again live) (brought live).is_cyclic early.waiting early.plug }
  kind_early (Breaks reason) holds = record { live = record { phase = refl; waiting = refl; plug = refl }; sent = (tt, tt) }
  kind_early Idles holds = record { live = record { phase = is.phase; waiting = is.waiting; plug = is.plug }; sent = due_early (is_again live) _ (requests_early live.device live.asked) }

-- no ApplicationReady of the relation comes with an event
abbrev pub IsUnreadyAt : Setup → Event → Type 0
IsUnreadyAt setup (event.Frame bytes) = said_to setup (heard_of setup.plan.controller bytes.items) ≡ small.Readies → ⊥
IsUnreadyAt setup other = Unit {0}

came_unready : (setup : Setup) (one : Event) → IsUnreadyAt setup one → IsUnready setup (came_by setup one)
came_unready setup (event.Frame bytes) is = is
came_unready setup event.Tick is = tt
came_unready setup (event.Give slot subslot value) is = tt
came_unready setup (event.Status slot subslot is_good) is = tt
came_unready setup (event.Read slot subslot index) is = tt
came_unready setup (event.Write slot subslot index octets) is = tt
came_unready setup event.Stop is = tt

pub turn_early : KindsSo → (setup : Setup) (live : Live) (one : Event) → IsEarlyAt live → IsUnreadyAt setup one → EarlyTurn (turn_of setup live one)
turn_early kinds setup live one is unready =
    let turn = kinds setup live one in
    subst (λ (t : Turn). EarlyTurn t) (sym turn.is) (kind_early setup live (came_by setup one) is (came_unready setup one unready) turn.kind turn.holds)

-- ---- its frames

-- what a message says that is no request of the application
said_no_access : (setup : Setup) (message : said.Sent) (sequence : ℕ) → IsNoAccess message → says_to_device setup message ≡ small.Call sequence small.Accesses → ⊥
said_no_access setup (said.Accesses device request octets) sequence none e = none
said_no_access setup (said.Parametrizes device request) sequence none e = none
said_no_access setup (said.Requests device asks.Identify) sequence none e = absurd cc
said_no_access setup (said.Requests device asks.Address) sequence none e = absurd cc
said_no_access setup (said.Requests device asks.Connect) sequence none e = absurd cc
said_no_access setup (said.Requests device (asks.Write number)) sequence none e = absurd cc
said_no_access setup (said.Requests device asks.PrmEnd) sequence none e = absurd cc
said_no_access setup (said.Requests device (asks.Release number)) sequence none e = absurd cc
said_no_access setup (said.Requests device (asks.WriteAfter number tries)) sequence none e = absurd cc
said_no_access setup (said.Requests device (asks.PrmEndAfter tries)) sequence none e = absurd cc
said_no_access setup other sequence none e = absurd cc

message_early : (setup : Setup) (station : Station) (message : said.Sent) → IsNoAccess message → IsSaidAs setup station message → IsEarlyFrame setup station (said.bytes_of setup message)
message_early setup station message none meant = (λ sequence e. by_saying sequence e meant.1, λ e. absurd (nothing_readies (sym meant.0 ∙ e)))
  where
    nothing_readies : small.Nothing ≡ small.Readies → ⊥
    nothing_readies e = absurd cc

    idle_call : (sequence : ℕ) → small.Idle ≡ small.Call sequence small.Accesses → ⊥
    idle_call sequence e = absurd cc

    by_saying : (sequence : ℕ) → (rules_of setup station).to_device (said.bytes_of setup message) ≡ small.Call sequence small.Accesses
        → ((rules_of setup station).to_device (said.bytes_of setup message) ≡ says_to_device setup message) ⊎ ((rules_of setup station).to_device (said.bytes_of setup message) ≡ small.Idle) → ⊥
    by_saying sequence e (inl same) = said_no_access setup message sequence none (sym same ∙ e)
    by_saying sequence e (inr idle) = idle_call sequence (sym idle ∙ e)

pub messages_early : (setup : Setup) (station : Station) (messages : List said.Sent) → AllByRecursion IsNoAccess messages → AllByRecursion (IsSaidAs setup station) messages
    → AllByRecursion (IsEarlyFrame setup station) (map (said.bytes_of setup) messages)
messages_early setup station [] none meant = tt
messages_early setup station (message ∷ messages) none meant = (message_early setup station message none.0 meant.0, messages_early setup station messages none.1 meant.1)
