-- The state of a controller has its sizes, and so has what it sends.
use Rattle.std.proofs.Common.{◌≡◌, ◌⊎◌, inl, inr, ◌≤◌, ◌<◌, ◌+◌, ◌==◌, ◌&&◌, ℕ, Bool, true, false, List, [], ◌∷◌, length, Option, Some, None, if◌then◌else◌, refl, sym, subst, arith}
use Rattle.std.specs.Prelude.{is_some}
use Rattle.std.specs.List.{AllByRecursion}
use Rattle.std.proofs.Math.Nat.{max-le}
use Rattle.pn_alarms.specs.declared.pdu.PduType.{PduType}
use Rattle.pn_alarms.specs.declared.pdu.PduType.TheVariants as pdu
use Rattle.pn_alarms.specs.declared.message.Notice.TheVariants as notice
use Rattle.pn_alarms.specs.Numbers.{ack_number, is_last, next_number, send_number}
use Rattle.pn_alarms.specs.Sending.{Sending}
use Rattle.pn_alarms.specs.Ends.{ControllerEnd}
use Rattle.diagnosis.specs.declared.reports.priority.Priority.{Priority}
use Rattle.diagnosis.specs.declared.reports.priority.Priority.TheVariants.{High, Low}
use Rattle.diagnosis.specs.declared.reports.report.Report.{Report}
use Rattle.pn_values.specs.declared.mac.Mac.{Mac}
use Rattle.dcp_core.specs.Response.{Answered}
use Rattle.rpc_core.specs.Call.{Asked as Call}
use Rattle.frame_codec.specs.declared.udp.Caller.{Caller}
use Rattle.connect_blocks.specs.declared.control.ControlBlock.{ControlBlock}
use Rattle.record_blocks.specs.declared.alarm_ack.AlarmAck.{AlarmAck}
use Rattle.record_blocks.specs.declared.alarm_notification.AlarmNotification.{AlarmNotification}
use Rattle.pn_alarms.specs.declared.receiver.Taken.{Taken}
use Rattle.pn_alarms.specs.declared.receiver.Taken.TheVariants.{New, Again, Refused}
use Rattle.pn_alarms.specs.Receiver.{taken_as}
use Rattle.cyclic_data.specs.Image.{Cell}
use Rattle.cyclic_data.specs.exchange.Cyclic.{Cyclic}
use Rattle.cyclic_data.specs.exchange.Received.{behind_frame}
use Rattle.connect_blocks.specs.declared.plug_control.PlugControlBlock.{PlugControlBlock}
use Rattle.plans.specs.Numbers.{session_number}
use Rattle.controller_messages.specs.declared.plug_request.PlugRequest.{PlugRequest}
use Rattle.controller_messages.specs.declared.record_request.RecordRequest.{RecordRequest}
use Rattle.controller_messages.specs.declared.request.Request.{Request}
use Rattle.controller_messages.specs.declared.request.Request.TheVariants as asks
use Rattle.controller_messages.specs.declared.setup.Setup.{Setup}
use Rattle.controller_messages.specs.Heard.{Alarms, Answers, Calls, Responds}
use Rattle.controller_messages.specs.Requests.{writing_from}
use Rattle.controller_messages.specs.PlugRequests.{is_plug_ready, plug_answer}
use Rattle.controller_messages.specs.Sent.{Sent, Agrees, Parametrizes, ready_answer}
use Rattle.controller_core.specs.declared.stored.event.Event.{Event}
use Rattle.controller_core.specs.declared.stored.event.Event.TheVariants.{Frame, Give, Read, Status, Stop, Tick, Write}
use Rattle.controller_messages.specs.Access.{Accessing, unplugged}
use Rattle.controller_core.specs.declared.stored.outputs.OutputMark.{OutputMark}
use Rattle.controller_core.specs.declared.stored.state.Cause.{Cause}
use Rattle.controller_core.specs.declared.stored.state.State.{State}
use Rattle.controller_core.specs.declared.stored.state.State.TheVariants.{Addressing, Connecting, Ended, Exchanging, Waiting}
use Rattle.controller_core.specs.stored.State.{Live}
use Rattle.end_laws.specs.turns.Beside.{IsBegun, MayBegin, MayFollow, flow_begun}
use Rattle.end_laws.specs.turns.Turns.{Came, Hears, IsKind, IsReadied, IsStepped, IsTurn, Kind, Rests, Connects, Addresses, Ends, Releases, Relates, Writes, Skips, Tries, Waits, Forgets, Begins, Repeats, Follows, Takes, IsAcked, Asks, IsReplied, IsPlugAnswered, IsPlugReadied, Gives, GivesStatus, Flows, Breaks, Idles, came_by, turn_by}
use Rattle.frame_codec.specs.Sendable.{IsMac}
use Rattle.controller_core.specs.stored.Alarms.{ack_of, header_of}
use Rattle.connects.specs.answers.Connect.{Chosen}
use Rattle.controller_core.specs.Machine.{Turn, accesses_by, accesses_of, acking, acks_in, acks_of, after_turn, asking, asks_next, behind_ack, behind_data, brought, can_begin, confirming, diagnosing, due_frames, end_of, first, flow_later, given, is_again, is_end_of, keeping, later, noted, over, pending_by, pending_of, plug_readied, plugs_by, plugs_of, rated, released, requests_of, standing, stays, taken, turn_of, where_due, with_end, writing}
use Rattle.controller_core.specs.start_up.Requests.{behind_write, next_sequence, write_after}
use Rattle.controller_core.specs.stored.State.{phase_for}
use Rattle.diagnosis.specs.Sendable.{IsHeader}
use Rattle.block_codec.specs.Writable.{IsAck}
use Rattle.end_laws.specs.hearing.Stations.{IsRecordCall, IsSetup}
use Rattle.end_laws.specs.sending.Messages.{CanBeSent, IsWay}
use Rattle.end_laws.specs.sending.Sized.{AreFew, IsAccess, IsAckOrNone, IsFew, IsLive, IsNoted, IsPlugging, IsShort, IsSized, IsSizedEnd, IsSizedEvent, IsWaiting}
use Rattle.end_laws.proofs.SendingSizes.{BlocksAreLong, CameSo, Stays, all_append, answer_can, behind_few, body_few, due_all, frame_stays, named_so, next_short, number_few, numbered, plug_answer_can, sequence_few, writing_few, few_so, tried_few}
use Rattle.end_laws.proofs.TurnsBeside.{flows as flows_so, follows}

-- a turn after which everything has its size
pub record IsRight (setup : Setup) (turn : Turn) : Type 0 where
  pub live : IsLive turn.live
  pub sent : AllByRecursion (CanBeSent setup) turn.sent

came_sized : (setup : Setup) (event : Event) → IsSizedEvent setup event → CameSo IsSized (came_by setup event)
came_sized setup (Frame bytes) sized = sized
came_sized setup Tick sized = tt
came_sized setup (Give slot subslot value) sized = tt
came_sized setup (Status slot subslot is_good) sized = tt
came_sized setup (Read slot subslot index) sized = tt
came_sized setup (Write slot subslot index octets) sized = tt
came_sized setup Stop sized = tt

-- ---- requests

asking_right : (setup : Setup) (phase : State) (request : Request) (live : Live) → IsLive live → IsFew request → IsRight setup (asking setup phase request live)
asking_right setup phase request live is few = record {
  live = record { device = is.device; asked = few; way = is.way; few = is.few; high = is.high; low = is.low; access = is.access };
  sent = ((is.device, numbered request few), tt);
}

over_live : (cause_is : Cause) (live : Live) → IsLive live → IsLive (over cause_is live)
over_live cause_is live is = record { device = is.device; asked = tt; way = is.way; few = is.few; high = is.high; low = is.low; access = (tt, tt) }

released_right : (setup : Setup) (cause_is : Cause) (live : Live) → IsSetup setup → IsLive live → IsRight setup (released setup cause_is live)
released_right setup cause_is live good is =
    asking_right setup (Ended cause_is) (asks.Release (next_sequence setup.plan live.access.calls live.asked)) (over cause_is live) (over_live cause_is live is) (sequence_few setup.plan live.access.calls live.asked is.asked)

writing_right : (setup : Setup) (next : Request) (live : Live) → IsFew next → IsLive live → IsRight setup (writing setup next live)
writing_right setup next live few is = asking_right setup (phase_for next) next live is few

stands_live : (setup : Setup) (live : Live) (chosen : Chosen) → IsLive live → (chosen.frame_id < 65536) × (chosen.reference < 65536) → IsLive (standing setup live chosen)
stands_live setup live chosen is small = record {
  device = is.device;
  asked = is.asked;
  way = record { partner = is.device; sent_id = small.0; sent_tag = omega arith; alarm_tag = omega arith; reference = small.1 };
  few = is.few;
  high = is.high;
  low = is.low;
  access = is.access;
}

unasked : (live : Live) (phase : State) (left : ℕ) → IsLive live → IsLive (record live { phase = phase; asked = None; left = left })
unasked live phase left is = record { device = is.device; asked = tt; way = is.way; few = is.few; high = is.high; low = is.low; access = is.access }

-- ---- ApplicationReady

begun_live : (live : Live) → IsLive live → IsLive (record live { phase = Exchanging; asked = None; left = 0; cyclic = record live.cyclic { begun = true; hearing = record live.cyclic.hearing { held = 0 } } })
begun_live live is = record { device = is.device; asked = tt; way = is.way; few = is.few; high = is.high; low = is.low; access = is.access }

-- ---- alarms

sent_short : (last : Option ℕ) → IsShort last → send_number last < 65536
sent_short None is = omega arith
sent_short (Some number) is = is

seen_short : (last : Option ℕ) → IsShort last → ack_number last < 65536
seen_short None is = omega arith
seen_short (Some number) is = is

-- the alarms of a priority have their sizes
end_is : (live : Live) (priority : Priority) → IsLive live → IsSizedEnd (end_of live priority)
end_is live High is = is.high
end_is live Low is = is.low

with_end_live : (live : Live) (priority : Priority) (end : ControllerEnd) → IsLive live → IsSizedEnd end → IsLive (with_end live priority end)
with_end_live live High end is sized = record { device = is.device; asked = is.asked; way = is.way; few = is.few; high = sized; low = is.low; access = is.access }
with_end_live live Low end is sized = record { device = is.device; asked = is.asked; way = is.way; few = is.few; high = is.high; low = sized; access = is.access }

header_is : (live : Live) (priority : Priority) (kind : PduType) → IsLive live → IsHeader (header_of (end_of live priority) live.cyclic.route kind)
header_is live priority kind is =
    let sized = end_is live priority is in
    record { destination = is.way.reference; source = omega arith; send_number = sent_short (end_of live priority).sending.last sized.last; ack_number = seen_short (end_of live priority).seen sized.seen }

short_if : (test : Bool) (one other : Option ℕ) → IsShort one → IsShort other → IsShort (if test then one else other)
short_if true one other first second = first
short_if false one other first second = second

data_live : (live : Live) (priority : Priority) (number : ℕ) → IsLive live → number < 65536 → IsLive (behind_data live priority number)
data_live live priority number is small =
    let sized = end_is live priority is in
    let seen = (end_of live priority).seen in
    with_end_live live priority _ is (record { last = sized.last; seen = short_if (number == next_number seen) (Some number) seen small sized.seen; confirming = sized.confirming })

ack_is : (alarm : AlarmNotification) → IsNoted alarm → IsAck (ack_of alarm)
ack_is alarm is = record {
  alarm_type = is.alarm_type;
  api = is.api;
  slot_number = is.slot_number;
  subslot_number = is.subslot_number;
  alarm_specifier = is.alarm_specifier;
  pnio_status = omega arith;
}

acking_live : (live : Live) (priority : Priority) (ack : AlarmAck) → IsLive live → IsAck ack → IsLive (acking live priority ack)
acking_live live priority ack is good =
    let sized = end_is live priority is in
    with_end_live live priority _ is (record { last = next_short (end_of live priority).sending.last sized.last; seen = sized.seen; confirming = good })

keeping_live : (live : Live) (priority : Priority) (alarm : AlarmNotification) (structure : Option ℕ) → IsLive live → IsLive (keeping live priority alarm structure)
keeping_live live High alarm structure is = record { device = is.device; asked = is.asked; way = is.way; few = is.few; high = is.high; low = is.low; access = is.access }
keeping_live live Low alarm structure is = record { device = is.device; asked = is.asked; way = is.way; few = is.few; high = is.high; low = is.low; access = is.access }

diagnosing_live : (live : Live) (report : Report) → IsLive live → IsLive (diagnosing report live)
diagnosing_live live report is = record { device = is.device; asked = is.asked; way = is.way; few = is.few; high = is.high; low = is.low; access = is.access }

confirming_live : (live : Live) (report : Report) → IsLive live → IsNoted report.notification → IsLive (confirming live report)
confirming_live live report is known =
    diagnosing_live _ report (keeping_live (acking live report.priority (ack_of report.notification)) report.priority _ report.user_structure
    (acking_live live report.priority (ack_of report.notification) is (ack_is report.notification known)))

taken_right : (setup : Setup) (live : Live) (report : Report) (as_is : Taken) → IsLive live → IsNoted report.notification → IsRight setup (taken live report as_is)
taken_right setup live report New is noted =
    let confirms = confirming_live live report is noted in
    record {
      live = confirms;
      sent = (
        (is.way, inl refl, header_is live report.priority pdu.Ack is),
        ((confirms.way, refl, header_is (confirming live report) report.priority pdu.Data confirms, ack_is report.notification noted), tt),
      );
    }
taken_right setup live report Again is noted = record { live = is; sent = ((is.way, inl refl, header_is live report.priority pdu.Ack is), tt) }
taken_right setup live report Refused is noted = record { live = is; sent = ((is.way, inr refl, header_is live report.priority pdu.Nack is), tt) }

last_if : (test : Bool) (one other : Sending) → IsShort one.last → IsShort other.last → IsShort (if test then one else other).last
last_if true one other first second = first
last_if false one other first second = second

acked_live : (live : Live) (priority : Priority) (number : ℕ) → IsLive live → IsLive (behind_ack live priority number)
acked_live live priority number is =
    let sized = end_is live priority is in
    let sending = (end_of live priority).sending in
    with_end_live live priority _ is (record { last = last_if (is_last sending.last number) _ sending sized.last sized.last; seen = sized.seen; confirming = sized.confirming })

-- ---- cyclic frames

kept_live : (live : Live) (cyclic : Cyclic) → IsLive live → Stays live.cyclic cyclic → IsLive (record live { cyclic = cyclic })
kept_live live cyclic is stays = record {
  device = is.device;
  asked = is.asked;
  way = subst IsWay (sym stays.route) is.way;
  few = subst (λ (n : ℕ). n ≤ 1440) (sym stays.long) is.few;
  high = is.high;
  low = is.low;
  access = is.access;
}

-- Outputs that are set.
same_live : (live : Live) (cells : List Cell) (outputs : List OutputMark) → IsLive live
    → IsLive (record live { cyclic = record live.cyclic { shown = record live.cyclic.shown { cells = cells } }; outputs = outputs })
same_live live cells outputs is =
    record { device = is.device; asked = is.asked; way = is.way; few = is.few; high = is.high; low = is.low; access = is.access }

-- ---- units

later_live : (live : Live) → IsLive live → IsLive (later live)
later_live live is = record { device = is.device; asked = is.asked; way = is.way; few = is.few; high = is.high; low = is.low; access = is.access }

flow_live : (live : Live) → IsLive live → IsLive (flow_later live)
flow_live live is = record {
  device = is.device;
  asked = is.asked;
  way = is.way;
  few = is.few;
  high = record { last = is.high.last; seen = is.high.seen; confirming = is.high.confirming };
  low = record { last = is.low.last; seen = is.low.seen; confirming = is.low.confirming };
  access = is.access;
}

request_all : (setup : Setup) (device : Mac) (asked : Option Request) → length device.octets ≡ 6 → AreFew asked → AllByRecursion (CanBeSent setup) (requests_of device asked)
request_all setup device (Some request) mac few = ((mac, numbered request few), tt)
request_all setup device None mac few = tt

access_all : (setup : Setup) (device : Mac) (octets : List ℕ) (waiting : Option RecordRequest) → length device.octets ≡ 6 → IsWaiting waiting octets
    → AllByRecursion (CanBeSent setup) (accesses_by device octets waiting)
access_all setup device octets (Some request) mac can = ((mac, can), tt)
access_all setup device octets None mac can = tt

plug_all : (setup : Setup) (device : Mac) (plug : Option PlugRequest) → length device.octets ≡ 6 → IsPlugging plug → AllByRecursion (CanBeSent setup) (plugs_by device plug)
plug_all setup device (Some request) mac can = ((mac, can), tt)
plug_all setup device None mac can = tt

beside_all : (setup : Setup) (live : Live) (is_plug : Bool) → IsLive live → AllByRecursion (CanBeSent setup) (if is_plug then plugs_of live else accesses_of live)
beside_all setup live true is = plug_all setup live.device live.access.plug is.device is.access.1
beside_all setup live false is = access_all setup live.device live.access.octets live.access.waiting is.device is.access.0

pending_all : (setup : Setup) (live : Live) (asked : Option Request) → IsLive live → AreFew asked → AllByRecursion (CanBeSent setup) (pending_by live asked)
pending_all setup live (Some request) is few = ((is.device, numbered request few), tt)
pending_all setup live None is few = beside_all setup live (is_some live.access.plug) is

acks_all : (setup : Setup) (live : Live) (priority : Priority) (ack : Option AlarmAck) → IsLive live → IsAckOrNone ack → AllByRecursion (CanBeSent setup) (acks_in live priority ack)
acks_all setup live priority (Some ack) is good = ((is.way, refl, header_is live priority pdu.Data is, good), tt)
acks_all setup live priority None is good = tt

due_right : (setup : Setup) (live : Live) (is_high is_low is_request is_cyclic : Bool) → IsLive live → AllByRecursion (CanBeSent setup) (due_frames live is_high is_low is_request is_cyclic)
due_right setup live is_high is_low is_request is_cyclic is =
    all_append (CanBeSent setup) (where_due is_high (acks_of live High)) _ (due_all (CanBeSent setup) is_high _ (acks_all setup live High live.alarms.confirming is is.high.confirming))
    (all_append (CanBeSent setup) (where_due is_low (acks_of live Low)) _ (due_all (CanBeSent setup) is_low _ (acks_all setup live Low live.low_alarms.confirming is is.low.confirming))
    (all_append (CanBeSent setup) (where_due is_request (pending_of live)) _ (due_all (CanBeSent setup) is_request _ (pending_all setup live live.asked is is.asked))
    (due_all (CanBeSent setup) is_cyclic _ ((is.way, body_few live.cyclic.shown live.units is.few), tt))))

-- ---- requests of the application

pub none_waits : (access : Accessing) → access.waiting ≡ None → access.plug ≡ None → IsAccess access
none_waits access e f = (subst (λ (w : Option RecordRequest). IsWaiting w access.octets) (sym e) tt, subst (λ (p : Option PlugRequest). IsPlugging p) (sym f) tt)

-- ---- requests after a plug

-- the request that is made next has its sizes
stepped_few : (setup : Setup) (live : Live) (access : Accessing) → IsStepped setup live access → IsPlugging access.plug
stepped_few setup live access (inl e) = subst (λ (a : Accessing). IsPlugging a.plug) (sym e) tt
stepped_few setup live access (inr next) =
    subst (λ (a : Accessing). IsPlugging a.plug) (sym next.2) (subst (λ (n : ℕ). n < 4294967296) (sym next.1) (number_few setup.plan live.access.calls))

-- and so have those that wait after the answer
pub stepped_access : (setup : Setup) (live : Live) (access : Accessing) → access.waiting ≡ live.access.waiting → access.octets ≡ live.access.octets
    → IsStepped setup live access → IsAccess live.access → IsAccess access
stepped_access setup live access waiting octets stepped is = (
  subst (λ (w : Option RecordRequest). IsWaiting w access.octets) (sym waiting) (subst (λ (xs : List ℕ). IsWaiting live.access.waiting xs) (sym octets) is.0),
  stepped_few setup live access stepped,
)

-- its answer is no longer awaited
pub answered_access : (access : Accessing) (b : Bool) → IsAccess access → IsAccess (if b then unplugged access else access)
answered_access access true is = (is.0, tt)
answered_access access false is = is

turn_live : (setup : Setup) (before after : Live) → IsBegun setup before after → IsLive before → IsLive after
turn_live setup before after begun is =
    let access : IsAccess after.access =
    subst (λ (a : Accessing). IsAccess a) (sym begun.access)
    (is.access.0, subst (λ (n : ℕ). n < 4294967296) (sym begun.numbered) (number_few setup.plan before.access.calls)) in
    subst (λ (l : Live). IsLive l) (sym begun.beside)
    (record { device = is.device; asked = is.asked; way = is.way; few = is.few; high = is.high; low = is.low; access = access })

begins_live : (setup : Setup) (before after : Live) → MayBegin setup before after → IsLive before → IsLive after
begins_live setup before after (inl e) is = subst (λ (l : Live). IsLive l) (sym e) is
begins_live setup before after (inr begun) is = turn_live setup before after begun is

follows_right : (setup : Setup) (turn after : Turn) → MayFollow setup turn after → IsRight setup turn → IsRight setup after
follows_right setup turn after (inl e) is = subst (λ (t : Turn). IsRight setup t) (sym e) is
follows_right setup turn after (inr followed) is =
    let begun = followed.begun in
    record {
      live = turn_live setup turn.live after.live begun is.live;
      sent = subst (λ (sent : List Sent). AllByRecursion (CanBeSent setup) sent) (sym followed.sent)
          (all_append (CanBeSent setup) turn.sent (Parametrizes turn.live.device begun.request ∷ []) is.sent
          ((is.live.device, subst (λ (n : ℕ). n < 4294967296) (sym begun.numbered) (number_few setup.plan turn.live.access.calls)), tt));
    }

after_right : (setup : Setup) (live : Live) (turn : Turn) → IsRight setup turn → IsRight setup (after_turn setup (can_begin live) turn)
after_right setup live turn is = follows_right setup turn (after_turn setup (can_begin live) turn) (follows setup (can_begin live) turn) is

-- ---- each kind

module _ (long : BlocksAreLong) (setup : Setup) (live : Live) (came : Came) (good : IsSetup setup) (is : IsLive live) (sized : CameSo IsSized came) where
  reported : (other : Came) → came ≡ other → CameSo IsSized other
  reported other e = subst (λ (c : Came). CameSo IsSized c) e sized

  with_station : (source : Mac) → IsMac source → IsLive (record live { device = source })
  with_station source six = record { device = six; asked = is.asked; way = is.way; few = is.few; high = is.high; low = is.low; access = is.access }

  at_station : (source : Mac) → (source ≡ live.device) ⊎ ((answer : Answered) × (came ≡ Hears (Answers source answer))) → IsLive (record live { device = source })
  at_station source (inl same) = with_station source (subst IsMac (sym same) is.device)
  at_station source (inr heard) = with_station source (reported (Hears (Answers source heard.0)) heard.1)

  agrees : (caller : Caller) (call : Call) (block : ControlBlock) → IsReadied setup came caller call block → CanBeSent setup (Agrees caller (ready_answer call block))
  agrees caller call block ready =
      let heard : IsSized (Calls caller call) = reported (Hears (Calls caller call)) ready.comes in
      (heard.0, answer_can long call block heard.1 heard.2 (named_so block.ar_uuid setup.ar (block.session_key == 1) ready.right good.ar))

  plug_agrees : (caller : Caller) (call : Call) (block : PlugControlBlock) → came ≡ Hears (Calls caller call) → is_plug_ready setup block ≡ true
      → CanBeSent setup (Agrees caller (plug_answer call block))
  plug_agrees caller call block comes ready =
      let heard : IsSized (Calls caller call) = reported (Hears (Calls caller call)) comes in
      (heard.0, plug_answer_can call block heard.1 heard.2 (named_so block.ar_uuid setup.ar (block.session_key == session_number && block.control_command == 2) ready good.ar))

  kind_right : (kind : Kind) → IsKind setup live came kind → IsRight setup (turn_by setup live kind)
  kind_right Rests holds = record { live = is; sent = tt }
  kind_right (Connects source) holds = asking_right setup Connecting asks.Connect _ (at_station source holds.known) tt
  kind_right (Addresses source) holds = asking_right setup Addressing asks.Address _ (at_station source holds.0.known) tt
  kind_right (Ends why refusal refused units) holds =
      record { live = record { device = is.device; asked = tt; way = is.way; few = is.few; high = is.high; low = is.low; access = (tt, tt) }; sent = tt }
  kind_right (Releases why refusal refused units) holds =
      released_right setup why (record live { refusal = refusal; refused_record = refused; units = units }) good
      (record { device = is.device; asked = is.asked; way = is.way; few = is.few; high = is.high; low = is.low; access = is.access })
  kind_right (Relates places chosen) holds =
      let sized_so : IsSized (Responds holds.0.response) = reported (Hears (Responds holds.0.response)) holds.0.comes in
      let placed : Live = record live { places = places } in
      let same : IsLive placed = record { device = is.device; asked = is.asked; way = is.way; few = is.few; high = is.high; low = is.low; access = is.access } in
      writing_right setup (writing_from setup.plan 0) (standing setup placed chosen) (writing_few setup.plan 0 good.plan) (stands_live setup placed chosen same (sized_so chosen holds.1))
  kind_right (Writes number tries) holds =
      writing_right setup (behind_write setup.plan number tries) live
      (behind_few setup.plan number tries good.plan (few_so live.asked (write_after number tries) holds.0.stood is.asked)) is
  kind_right (Skips number tries refused status) holds =
      writing_right setup (behind_write setup.plan number tries) (noted status refused live)
      (behind_few setup.plan number tries good.plan (few_so live.asked (write_after number tries) holds.stood is.asked))
      (record { device = is.device; asked = is.asked; way = is.way; few = is.few; high = is.high; low = is.low; access = is.access })
  kind_right (Tries next status) holds = record {
    live = record {
      device = is.device;
      asked = tried_few setup.plan status holds.request next holds.tries holds.again (few_so live.asked holds.request holds.stood is.asked);
      way = is.way;
      few = is.few;
      high = is.high;
      low = is.low;
      access = is.access;
    };
    sent = tt;
  }
  kind_right (Waits tries) holds = record { live = unasked live Waiting setup.options.waiting_patience is; sent = tt }
  kind_right Forgets holds = record { live = unasked live live.phase live.left is; sent = tt }
  kind_right (Begins caller call block) holds = record { live = begun_live live is; sent = (agrees caller call block holds.1, tt) }
  kind_right (Repeats caller call block) holds = record { live = is; sent = (agrees caller call block holds.1, tt) }
  kind_right (Follows source frame_id body) holds =
      record { live = kept_live live (behind_frame live.cyclic source frame_id body) is (frame_stays live.cyclic source frame_id body); sent = tt }
  kind_right (Takes number report) holds =
      let noted : IsSized (Alarms holds.1 holds.2 holds.3 (notice.Data number report)) = reported (Hears (Alarms holds.1 holds.2 holds.3 (notice.Data number report))) holds.4 in
      let behind = behind_data live report.priority number in
      let as_what = taken_as (end_of live report.priority).seen number in
      after_right setup live (taken behind report as_what) (taken_right setup behind report as_what (data_live live report.priority number is noted.0) noted.1)
  kind_right (IsAcked priority number) holds = record { live = acked_live live priority number is; sent = tt }
  kind_right (Asks request octets) holds =
      let can : IsRecordCall request octets = (subst (λ (n : ℕ). n < 4294967296) (sym holds.2) (number_few setup.plan live.access.calls), holds.3) in
      record {
        live = record { device = is.device; asked = is.asked; way = is.way; few = is.few; high = is.high; low = is.low; access = (can, is.access.1) };
        sent = ((is.device, can), tt);
      }
  kind_right (IsReplied refusal access) holds =
      after_right setup live (stays (record live { refusal = refusal; access = access })) (record {
        live = record { device = is.device; asked = is.asked; way = is.way; few = is.few; high = is.high; low = is.low; access = none_waits access holds.1 holds.6 };
        sent = tt;
      })
  kind_right (IsPlugAnswered refusal refused waited places access) holds =
      let next : Live = record live { refusal = refusal; refused_record = refused; waited = waited; places = places; access = access } in
      let sized_access = stepped_access setup live access holds.1 holds.2 holds.3 is.access in
      after_right setup live (asks_next next) (record {
        live = record { device = is.device; asked = is.asked; way = is.way; few = is.few; high = is.high; low = is.low; access = sized_access };
        sent = plug_all setup live.device access.plug is.device sized_access.1;
      })
  kind_right (IsPlugReadied caller call block) holds =
      let number = block.alarm_sequence_number in
      after_right setup live (record { live = plug_readied live number; sent = Agrees caller (plug_answer call block) ∷ [] }) (record {
        live = record {
          device = is.device;
          asked = is.asked;
          way = is.way;
          few = is.few;
          high = is.high;
          low = is.low;
          access = answered_access live.access (is_end_of number live.access.plug) is.access;
        };
        sent = (plug_agrees caller call block holds.1 holds.4, tt);
      })
  kind_right (Gives slot subslot value) holds = record { live = same_live live (given live slot subslot value).cyclic.shown.cells (given live slot subslot value).outputs is; sent = tt }
  kind_right (GivesStatus slot subslot is_good) holds =
      record { live = same_live live (rated live slot subslot is_good).cyclic.shown.cells (rated live slot subslot is_good).outputs is; sent = tt }
  kind_right Flows holds =
      let next = flow_begun setup live in
      let flows = begins_live setup (flow_later live) next (flows_so setup live) (flow_live live is) in
      record { live = flows; sent = due_right setup next _ _ (is_again live) (brought live).is_cyclic flows }
  kind_right (Breaks reason) holds =
      let next = flow_begun setup live in
      let flows = begins_live setup (flow_later live) next (flows_so setup live) (flow_live live is) in
      record { live = over_live _ next flows; sent = ((flows.way, header_is next High pdu.Error flows), tt) }
  kind_right Idles holds =
      record { live = later_live live is; sent = due_all (CanBeSent setup) (is_again live) _ (request_all setup live.device live.asked is.device is.asked) }

pub turn_right : BlocksAreLong → (setup : Setup) (live : Live) (event : Event) → IsTurn setup live (came_by setup event) (turn_of setup live event)
    → IsSetup setup → IsLive live → IsSizedEvent setup event → IsRight setup (turn_of setup live event)
turn_right long setup live event turn good is sized =
    subst (λ (t : Turn). IsRight setup t) (sym turn.is) (kind_right long setup live (came_by setup event) good is (came_sized setup event sized) turn.kind turn.holds)

pub first_live : (setup : Setup) → IsSetup setup → IsLive (first setup.plan)
first_live setup good = record {
  device = refl;
  asked = tt;
  way = record { partner = refl; sent_id = omega arith; sent_tag = omega arith; alarm_tag = omega arith; reference = omega arith };
  few = max-le {a = 40} (omega arith) good.plan.output;
  high = record { last = tt; seen = tt; confirming = tt };
  low = record { last = tt; seen = tt; confirming = tt };
  access = (tt, tt);
}
