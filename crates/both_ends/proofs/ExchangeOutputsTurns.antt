-- Each turn of a controller, as far as outputs are concerned: it stays a controller of the plan, and its messages go to
-- stations.
use Rattle.std.proofs.Common.{◌≡◌, ◌⊎◌, inl, inr, ◌+◌, ◌||◌, ℕ, Bool, true, false, not, cond, List, [], ◌∷◌, ◌++◌, Option, Some, None, Result, Ok, Err, refl, subst, ap, ◌∙◌, sym, arith}
use Rattle.std.specs.Prelude.{is_some}
use Rattle.std.specs.List.{AllByRecursion}
use Rattle.pn_values.specs.declared.mac.Mac.{Mac}
use Rattle.dcp_core.specs.Response.{Answered}
use Rattle.rpc_core.specs.Call.{Asked as Call}
use Rattle.frame_codec.specs.declared.udp.Caller.{Caller}
use Rattle.connect_blocks.specs.declared.control.ControlBlock.{ControlBlock}
use Rattle.record_blocks.specs.declared.alarm_ack.AlarmAck.{AlarmAck}
use Rattle.record_blocks.specs.declared.alarm_notification.AlarmNotification.{AlarmNotification}
use Rattle.cyclic_data.specs.Image.{Cell, Shown as Image}
use Rattle.cyclic_data.specs.exchange.Cyclic.{Cyclic}
use Rattle.frame_codec.specs.Sendable.{IsMac}
use Rattle.pn_alarms.specs.declared.abort.Abort.{Abort}
use Rattle.pn_alarms.specs.declared.receiver.Taken.{Taken}
use Rattle.pn_alarms.specs.declared.receiver.Taken.TheVariants.{New, Again, Refused}
use Rattle.pn_alarms.specs.Receiver.{taken_as}
use Rattle.pn_alarms.specs.Ends.{ControllerEnd}
use Rattle.diagnosis.specs.declared.reports.priority.Priority.{Priority}
use Rattle.diagnosis.specs.declared.reports.priority.Priority.TheVariants.{High, Low}
use Rattle.pn_alarms.specs.declared.repeats.Due.{Due}
use Rattle.diagnosis.specs.declared.reports.report.Report.{Report}
use Rattle.pn_alarms.specs.Sending.{due}
use Rattle.pn_alarms.specs.Sending.{is_again as is_repeated}
use Rattle.cyclic_data.specs.declared.tail.CyclicTail.{CyclicTail}
use Rattle.cyclic_data.specs.declared.tail.ShortFrame.{ShortFrame}
use Rattle.cyclic_data.specs.Tail.{cyclic_of}
use Rattle.cyclic_data.specs.declared.exchange.route.Route.{Route}
use Rattle.cyclic_data.specs.exchange.Units.{Brought}
use Rattle.cyclic_data.specs.exchange.Received.{behind_frame, behind_read, is_new, is_of_partner, taken_from}
use Rattle.controller_messages.specs.declared.plug_request.PlugRequest.{PlugRequest}
use Rattle.controller_messages.specs.declared.record_request.RecordRequest.{RecordRequest}
use Rattle.controller_messages.specs.declared.request.Request.{Request}
use Rattle.controller_messages.specs.declared.request.Request.TheVariants as asks
use Rattle.controller_messages.specs.declared.setup.Setup.{Setup}
use Rattle.controller_messages.specs.Heard.{Answers, Calls, Heard, heard_of}
use Rattle.controller_messages.specs.PlugRequests.{plug_answer}
use Rattle.controller_messages.specs.Sent.{Agrees, Sent}
use Rattle.controller_core.specs.declared.stored.event.Event.{Event}
use Rattle.controller_core.specs.declared.stored.event.Event.TheVariants.{Frame, Give, Read, Status, Stop, Tick as Ticks, Write}
use Rattle.controller_core.specs.declared.stored.outputs.OutputMark.{OutputMark}
use Rattle.controller_core.specs.declared.stored.state.Cause.{Cause}
use Rattle.controller_core.specs.declared.stored.state.State.{State}
use Rattle.controller_core.specs.declared.stored.state.State.TheVariants.{Addressing, Connecting, Ended}
use Rattle.controller_core.specs.stored.Alarms.{ack_of, kept_alarm}
use Rattle.connects.specs.answers.Connect.{Chosen}
use Rattle.controller_messages.specs.Requests.{writing_from}
use Rattle.controller_core.specs.Machine.{Turn, accesses_by, acking, acks_in, acks_of, after_turn, asking, asks_next, begun_turn, can_begin, exchange_later, later, plug_readied, plugs_by, plugs_of, behind_ack, behind_data, brought, confirming, diagnosing, end_of, keeping, pending_by, pending_of, with_end, flowed, given, is_again, noted, over, rated, readied, standing, writing, released, requests_of, stays, taken, turn_of, where_due}
use Rattle.controller_core.specs.start_up.Requests.{next_sequence, behind_write}
use Rattle.controller_core.specs.stored.State.{phase_for}
use Rattle.controller_core.specs.stored.State.{Live}
use Rattle.end_laws.specs.turns.Beside.{flow_begun}
use Rattle.end_laws.specs.turns.Turns.{Came, Hears, Passes, Gets, GetsStatus, AsksRead, AsksWrite, Halts, IsKind, IsReadied, IsSought, IsTurn, Kind, Rests, Connects, Addresses, Releases, Relates, Writes, Skips, Tries, Waits, Forgets, Begins, Repeats, Follows, Takes, IsAcked, Asks, IsReplied, IsPlugAnswered, IsPlugReadied, Gives, GivesStatus, Flows, Breaks, Idles, came_by, turn_by}
use Rattle.end_laws.specs.turns.Turns as sort
use Rattle.both_ends.proofs.ExchangeOutputsBrings.{IsAddressed, IsNow, IsWay}
use Rattle.both_ends.proofs.ExchangeOutputsMoves.{Sets, sets_of}
use Rattle.both_ends.proofs.ExchangePlugs.{IsAside, due_aside, turn_aside}

-- a controller that sends to stations, with an image of this many octets
pub record IsKeptAs (many : ℕ) (station : Mac) (route : Route) (shown : Image) : Type 0 where
  pub device : IsMac station
  pub way : IsWay route
  pub size : shown.data_length ≡ many

abbrev pub IsKept : ℕ → Live → Type 0
IsKept size live = IsKeptAs size live.device live.cyclic.route live.cyclic.shown

-- a message of this controller
abbrev pub IsSaid : Image → Sent → Type 0
IsSaid shown message = IsNow shown message × IsAddressed message

-- the station that is heard has a MAC address of six octets
abbrev pub IsSix : Heard → Type 0
IsSix (Answers source answer) = IsMac source
IsSix (Calls caller call) = IsMac caller.mac
IsSix other = Unit {0}

abbrev pub IsSixAt : Setup → Event → Type 0
IsSixAt setup (Frame bytes) = IsSix (heard_of setup.plan.controller bytes.items)
IsSixAt setup other = Unit {0}

-- the outputs after an event; a value that is set is among them, and so is a status
abbrev pub shown_behind : Live → Event → Sets
shown_behind live (Give slot subslot value) = sets_of (given live slot subslot value.items)
shown_behind live (Status slot subslot is_good) = sets_of (rated live slot subslot is_good)
shown_behind live other = sets_of live

-- the station that is heard then has a MAC address of six octets, and neither an output is set nor its status
abbrev IsSixIn : Came → Type 0
IsSixIn (Hears heard) = IsSix heard
IsSixIn Passes = Unit {0}
IsSixIn (AsksRead slot subslot index) = Unit {0}
IsSixIn (AsksWrite slot subslot index octets) = Unit {0}
IsSixIn Halts = Unit {0}
IsSixIn (Gets slot subslot value) = ⊥
IsSixIn (GetsStatus slot subslot is_good) = ⊥

-- each turn of a controller is of a kind
abbrev pub KindsSo : Type 0
KindsSo = (setup : Setup) (live : Live) (event : Event) → IsTurn setup live (came_by setup event) (turn_of setup live event)

module _ (size : ℕ) where
  -- a turn of the controller, after which it goes on like this, and its outputs are these
  pub record Tells (sets : Sets) (turn : Turn) : Type 0 where
    pub reported : AllByRecursion (IsSaid turn.live.cyclic.shown) turn.sent
    pub kept : IsKept size turn.live
    pub same : sets_of turn.live ≡ sets

  stays_tells : (live : Live) → IsKept size live → Tells (sets_of live) (stays live)
  stays_tells live k = record { reported = tt; kept = k; same = refl }

  asking_tells : (setup : Setup) (phase : State) (request : Request) (live : Live) → IsKept size live → Tells (sets_of live) (asking setup phase request live)
  asking_tells setup phase request live k = record { reported = ((tt, k.device), tt); kept = k; same = refl }

  over_tells : (why : Cause) (live : Live) → IsKept size live → Tells (sets_of live) (stays (over why live))
  over_tells why live k = record { reported = tt; kept = k; same = refl }

  released_tells : (setup : Setup) (why : Cause) (live : Live) → IsKept size live → Tells (sets_of live) (released setup why live)
  released_tells setup why live k = asking_tells setup (Ended why) (asks.Release (next_sequence setup.plan live.access.calls live.asked)) (over why live) k

  related_tells : (setup : Setup) (live : Live) (chosen : Chosen) → IsKept size live → Tells (sets_of live) (writing setup (writing_from setup.plan 0) (standing setup live chosen))
  related_tells setup live chosen k = record {
    reported = ((tt, k.device), tt);
    same = refl;
    kept = record { device = k.device; way = record { partner = k.device; sent_tag = omega arith; alarm_tag = omega arith }; size = k.size };
  }

  -- neither the alarms of a priority nor the alarm that is stored changes the outputs
  record Alike (before after : Live) : Type 0 where
    device : after.device ≡ before.device
    cyclic : after.cyclic ≡ before.cyclic
    outputs : after.outputs ≡ before.outputs

  with_end_alike : (live : Live) (priority : Priority) (end : ControllerEnd) → Alike live (with_end live priority end)
  with_end_alike live High end = record { device = refl; cyclic = refl; outputs = refl }
  with_end_alike live Low end = record { device = refl; cyclic = refl; outputs = refl }

  keeping_alike : (live : Live) (priority : Priority) (alarm : AlarmNotification) (structure : Option ℕ) → Alike live (keeping live priority alarm structure)
  keeping_alike live High alarm structure = record { device = refl; cyclic = refl; outputs = refl }
  keeping_alike live Low alarm structure = record { device = refl; cyclic = refl; outputs = refl }

  alike_on : (a b c : Live) → Alike a b → Alike b c → Alike a c
  alike_on a b c one other = record { device = other.device ∙ one.device; cyclic = other.cyclic ∙ one.cyclic; outputs = other.outputs ∙ one.outputs }

  diagnosing_alike : (live after : Live) (report : Report) → Alike live after → Alike live (diagnosing report after)
  diagnosing_alike live after report is = record { device = is.device; cyclic = is.cyclic; outputs = is.outputs }

  confirming_alike : (live : Live) (report : Report) → Alike live (confirming live report)
  confirming_alike live report =
      let acked = acking live report.priority (ack_of report.notification) in
      let kept = keeping acked report.priority (kept_alarm report.notification) report.user_structure in
      diagnosing_alike live kept report (alike_on live acked kept (with_end_alike live report.priority _)
      (keeping_alike acked report.priority (kept_alarm report.notification) report.user_structure))

  sets_alike : (before after : Live) → Alike before after → sets_of after ≡ sets_of before
  sets_alike before after alike =
      ap (λ (c : Cyclic). let s : Sets = record { shown = c.shown; marks = after.outputs } in s) alike.cyclic
      ∙ ap (λ (marks : List OutputMark). let s : Sets = record { shown = before.cyclic.shown; marks = marks } in s) alike.outputs

  kept_alike : (before after : Live) → Alike before after → IsKept size before → IsKept size after
  kept_alike before after alike k = record {
    device = subst (λ (m : Mac). IsMac m) (sym alike.device) k.device;
    way = subst (λ (c : Cyclic). IsWay c.route) (sym alike.cyclic) k.way;
    size = ap (λ (c : Cyclic). c.shown.data_length) alike.cyclic ∙ k.size;
  }

  taken_tells : (live : Live) (report : Report) (as_is : Taken) → IsKept size live → Tells (sets_of live) (taken live report as_is)
  taken_tells live report New k =
      let alike = confirming_alike live report in
      let kept = kept_alike live (confirming live report) alike k in
      record { reported = ((tt, k.way), ((tt, kept.way), tt)); same = sets_alike live (confirming live report) alike; kept = kept }
  taken_tells live report Again k = record { reported = ((tt, k.way), tt); same = refl; kept = k }
  taken_tells live report Refused k = record { reported = ((tt, k.way), tt); same = refl; kept = k }

  -- the same for a turn after data of a priority
  alike_tells : (before after : Live) (turn : Turn) → Alike before after → Tells (sets_of after) turn → Tells (sets_of before) turn
  alike_tells before after turn alike tells = record { reported = tells.reported; kept = tells.kept; same = tells.same ∙ sets_alike before after alike }

  -- a cyclic frame changes neither the route nor the outputs
  read_keeps : (cyclic : Cyclic) (read : Result (List ℕ × CyclicTail) ShortFrame)
      → ((behind_read cyclic read).route ≡ cyclic.route) × ((behind_read cyclic read).shown ≡ cyclic.shown)
  read_keeps cyclic (Ok x) = by_news (is_new cyclic x.1)
    where
      by_news : (b : Bool) → ((cond b (taken_from cyclic x.0 x.1) cyclic).route ≡ cyclic.route) × ((cond b (taken_from cyclic x.0 x.1) cyclic).shown ≡ cyclic.shown)
      by_news true = (refl, refl)
      by_news false = (refl, refl)
  read_keeps cyclic (Err fault) = (refl, refl)

  frame_keeps : (cyclic : Cyclic) (source : Mac) (frame_id : ℕ) (bytes : List ℕ)
      → ((behind_frame cyclic source frame_id bytes).route ≡ cyclic.route) × ((behind_frame cyclic source frame_id bytes).shown ≡ cyclic.shown)
  frame_keeps cyclic source frame_id bytes = by_partner (is_of_partner cyclic.route source frame_id)
    where
      by_partner : (b : Bool) → ((cond b (behind_read cyclic (cyclic_of cyclic.taken.data_length bytes)) cyclic).route ≡ cyclic.route)
          × ((cond b (behind_read cyclic (cyclic_of cyclic.taken.data_length bytes)) cyclic).shown ≡ cyclic.shown)
      by_partner true = read_keeps cyclic (cyclic_of cyclic.taken.data_length bytes)
      by_partner false = (refl, refl)

  with_cyclic : (live : Live) (cyclic : Cyclic) → cyclic.route ≡ live.cyclic.route → cyclic.shown.data_length ≡ live.cyclic.shown.data_length → IsKept size live
      → IsKept size (record live { cyclic = cyclic })
  with_cyclic live cyclic route shown k = record {
    device = k.device;
    way = subst (λ (r : Route). IsWay r) (sym route) k.way;
    size = shown ∙ k.size;
  }

  -- ---- units

  all_append : {A : Type 0} (P : A → Type 0) (xs ys : List A) → AllByRecursion P xs → AllByRecursion P ys → AllByRecursion P (xs ++ ys)
  all_append P [] ys one other = other
  all_append P (x ∷ xs) ys one other = (one.0, all_append P xs ys one.1 other)

  due_tells : (shown : Image) (test : Bool) (sent : List Sent) → AllByRecursion (IsSaid shown) sent → AllByRecursion (IsSaid shown) (where_due test sent)
  due_tells shown true sent all = all
  due_tells shown false sent all = tt

  request_tells : (shown : Image) (device : Mac) (asked : Option Request) → IsMac device → AllByRecursion (IsSaid shown) (requests_of device asked)
  request_tells shown device (Some request) one = ((tt, one), tt)
  request_tells shown device None one = tt

  access_tells : (shown : Image) (device : Mac) (octets : List ℕ) (waiting : Option RecordRequest) → IsMac device → AllByRecursion (IsSaid shown) (accesses_by device octets waiting)
  access_tells shown device octets (Some request) one = ((tt, one), tt)
  access_tells shown device octets None one = tt

  plugs_tell : (shown : Image) (device : Mac) (plug : Option PlugRequest) → IsMac device → AllByRecursion (IsSaid shown) (plugs_by device plug)
  plugs_tell shown device (Some request) one = ((tt, one), tt)
  plugs_tell shown device None one = tt

  beside_tells : (shown : Image) (device : Mac) (octets : List ℕ) (waiting : Option RecordRequest) (plug : Option PlugRequest) → IsMac device
      → AllByRecursion (IsSaid shown) (cond (is_some plug) (plugs_by device plug) (accesses_by device octets waiting))
  beside_tells shown device octets waiting (Some request) one = ((tt, one), tt)
  beside_tells shown device octets waiting None one = access_tells shown device octets waiting one

  pending_tells : (shown : Image) (live : Live) (asked : Option Request) → IsMac live.device → AllByRecursion (IsSaid shown) (pending_by live asked)
  pending_tells shown live (Some request) one = ((tt, one), tt)
  pending_tells shown live None one = beside_tells shown live.device live.access.octets live.access.waiting live.access.plug one

  acks_tell : (shown : Image) (live : Live) (priority : Priority) (ack : Option AlarmAck) → IsWay live.cyclic.route → AllByRecursion (IsSaid shown) (acks_in live priority ack)
  acks_tell shown live priority (Some ack) way = ((tt, way), tt)
  acks_tell shown live priority None way = tt

  flowed_tells : (live : Live) (high low : Due) (is_request : Bool) (tick : Brought) (ending : Option Abort) → IsKept size live → Tells (sets_of live) (flowed live high low is_request tick ending)
  flowed_tells live high low is_request tick (Some reason) k = record { reported = ((tt, k.way), tt); same = refl; kept = k }
  flowed_tells live high low is_request tick None k =
      let shown = live.cyclic.shown in
      record {
        reported = all_append (IsSaid shown) (where_due (is_repeated high) (acks_of live High)) _
            (due_tells shown (is_repeated high) _ (acks_tell shown live High live.alarms.confirming k.way))
            (all_append (IsSaid shown) (where_due (is_repeated low) (acks_of live Low)) _
            (due_tells shown (is_repeated low) _ (acks_tell shown live Low live.low_alarms.confirming k.way))
            (all_append (IsSaid shown) (where_due is_request (pending_of live)) _
            (due_tells shown is_request _ (pending_tells shown live live.asked k.device))
            (due_tells shown tick.is_cyclic _ ((refl, k.way), tt))));
        same = refl;
        kept = k;
      }

  -- ---- turns of places

  -- its request is sent
  asks_tells : (live : Live) → IsKept size live → Tells (sets_of live) (asks_next live)
  asks_tells live k = record { reported = plugs_tell live.cyclic.shown live.device live.access.plug k.device; kept = k; same = refl }

  -- after a turn, that of a place begins, if one can
  after_tells : (setup : Setup) (could : Bool) (sets : Sets) (turn : Turn) → Tells sets turn → Tells sets (after_turn setup could turn)
  after_tells setup could sets turn tells = by_test (could || not (can_begin turn.live))
    where
      aside : IsAside turn.live (begun_turn setup turn.live)
      aside = turn_aside setup turn.live

      begun : Tells sets (record { live = begun_turn setup turn.live; sent = turn.sent ++ plugs_of (begun_turn setup turn.live) })
      begun = subst (λ (l : Live). Tells sets (record { live = l; sent = turn.sent ++ plugs_of l })) (sym aside.is) (record {
        reported = all_append (IsSaid turn.live.cyclic.shown) turn.sent _ tells.reported (plugs_tell turn.live.cyclic.shown turn.live.device aside.access.plug tells.kept.device);
        kept = record { device = tells.kept.device; way = tells.kept.way; size = tells.kept.size };
        same = tells.same;
      })

      by_test : (b : Bool) → Tells sets (cond b turn (record { live = begun_turn setup turn.live; sent = turn.sent ++ plugs_of (begun_turn setup turn.live) }))
      by_test true = tells
      by_test false = begun

  -- a unit, with which the turn of a place may begin
  unit_tells : (setup : Setup) (live : Live) (ending : Option Abort) → IsKept size live
      → Tells (sets_of live) (flowed (flow_begun setup live) (due live.alarms.sending) (due live.low_alarms.sending) (is_again live) (brought live) ending)
  unit_tells setup live ending k =
      let aside = due_aside setup (is_again live) (later live) in
      let next : Live = record (later live) { waited = aside.waited; refusal = aside.refusal; refused_record = aside.refused; places = aside.told; access = aside.access } in
      subst (λ (l : Live). Tells (sets_of live) (flowed (exchange_later l) (due live.alarms.sending) (due live.low_alarms.sending) (is_again live) (brought live) ending)) (sym aside.is)
      (flowed_tells (exchange_later next) (due live.alarms.sending) (due live.low_alarms.sending) (is_again live) (brought live) ending (record { device = k.device; way = k.way; size = k.size }))

  set_keeps : (live : Live) (cells : List Cell) (outputs : List OutputMark) → IsKept size live
      → IsKept size (record live { cyclic = record live.cyclic { shown = record live.cyclic.shown { cells = cells } }; outputs = outputs })
  set_keeps live cells outputs k = record { device = k.device; way = k.way; size = k.size }

  -- ---- a turn of each kind

  module _ (setup : Setup) (live : Live) (came : Came) (six : IsSixIn came) (k : IsKept size live) where
    source_six : (source : Mac) → (source ≡ live.device) ⊎ ((answer : Answered) × (came ≡ Hears (Answers source answer))) → IsMac source
    source_six source (inl same) = subst (λ (m : Mac). IsMac m) (sym same) k.device
    source_six source (inr heard) = subst (λ (c : Came). IsSixIn c) heard.1 six

    met_tells : (phase : State) (request : Request) (source : Mac) → IsSought live came source → Tells (sets_of live) (asking setup phase request (record live { device = source }))
    met_tells phase request source sought =
        let one = source_six source sought.known in
        record { reported = ((tt, one), tt); kept = record { device = one; way = k.way; size = k.size }; same = refl }

    readied_tells : (caller : Caller) (call : Call) (block : ControlBlock) → IsReadied setup came caller call block → IsMac caller.mac
    readied_tells caller call block readied = subst (λ (c : Came). IsSixIn c) readied.comes six

    called_six : (caller : Caller) (call : Call) → came ≡ Hears (Calls caller call) → IsMac caller.mac
    called_six caller call comes = subst (λ (c : Came). IsSixIn c) comes six

    kind_tells : (kind : Kind) → IsKind setup live came kind → Tells (sets_of live) (turn_by setup live kind)
    kind_tells Rests holds = stays_tells live k
    kind_tells (Connects source) holds = met_tells Connecting asks.Connect source holds
    kind_tells (Addresses source) holds = met_tells Addressing asks.Address source holds.0
    kind_tells (sort.Ends why refusal refused units) holds =
        over_tells why (record live { refusal = refusal; refused_record = refused; units = units }) (record { device = k.device; way = k.way; size = k.size })
    kind_tells (Releases why refusal refused units) holds =
        released_tells setup why (record live { refusal = refusal; refused_record = refused; units = units }) (record { device = k.device; way = k.way; size = k.size })
    kind_tells (Relates places chosen) holds = related_tells setup (record live { places = places }) chosen (record { device = k.device; way = k.way; size = k.size })
    kind_tells (Writes number tries) holds = let next = behind_write setup.plan number tries in asking_tells setup (phase_for next) next live k
    kind_tells (Tries next status) holds = record { reported = tt; kept = record { device = k.device; way = k.way; size = k.size }; same = refl }
    kind_tells (Skips number tries refused status) holds =
        let next = behind_write setup.plan number tries in
        asking_tells setup (phase_for next) next (noted status refused live) (record { device = k.device; way = k.way; size = k.size })
    kind_tells (Begins caller call block) holds = record { reported = ((tt, readied_tells caller call block holds.1), tt); kept = k; same = refl }
    kind_tells (Repeats caller call block) holds = record { reported = ((tt, readied_tells caller call block holds.1), tt); kept = k; same = refl }
    kind_tells (Follows source frame_id body) holds =
        let keeps = frame_keeps live.cyclic source frame_id body in
        record { reported = tt; kept = with_cyclic live (behind_frame live.cyclic source frame_id body) keeps.0 (ap (λ (image : Image). image.data_length) keeps.1) k; same = ap (λ (image : Image). let s : Sets = record { shown = image; marks = live.outputs } in s) keeps.1 }
    kind_tells (Takes number report) holds =
        let behind_it = behind_data live report.priority number in
        let alike = with_end_alike live report.priority _ in
        let turn = taken behind_it report (taken_as (end_of live report.priority).seen number) in
        after_tells setup (can_begin live) (sets_of live) turn (alike_tells live behind_it turn alike
        (taken_tells behind_it report (taken_as (end_of live report.priority).seen number) (kept_alike live behind_it alike k)))
    kind_tells (IsAcked priority number) holds =
        let alike = with_end_alike live priority _ in
        record { reported = tt; kept = kept_alike live (behind_ack live priority number) alike k; same = sets_alike live (behind_ack live priority number) alike }
    kind_tells (Asks request octets) holds = record { reported = ((tt, k.device), tt); kept = record { device = k.device; way = k.way; size = k.size }; same = refl }
    kind_tells (Gives slot subslot value) holds = absurd (subst (λ (c : Came). IsSixIn c) holds six)
    kind_tells (GivesStatus slot subslot is_good) holds = absurd (subst (λ (c : Came). IsSixIn c) holds six)
    kind_tells (IsReplied refusal access) holds =
        after_tells setup (can_begin live) (sets_of live) (stays (record live { refusal = refusal; access = access }))
        (record { reported = tt; kept = record { device = k.device; way = k.way; size = k.size }; same = refl })
    kind_tells (IsPlugAnswered refusal refused waited places access) holds =
        let next : Live = record live { refusal = refusal; refused_record = refused; waited = waited; places = places; access = access } in
        after_tells setup (can_begin live) (sets_of live) (asks_next next) (asks_tells next (record { device = k.device; way = k.way; size = k.size }))
    kind_tells (IsPlugReadied caller call block) holds =
        after_tells setup (can_begin live) (sets_of live) (record { live = plug_readied live block.alarm_sequence_number; sent = Agrees caller (plug_answer call block) ∷ [] })
        (record { reported = ((tt, called_six caller call holds.1), tt); kept = record { device = k.device; way = k.way; size = k.size }; same = refl })
    kind_tells Flows holds = unit_tells setup live None k
    kind_tells (Breaks reason) holds = unit_tells setup live (Some reason) k
    kind_tells Idles holds =
        record { reported = due_tells live.cyclic.shown (is_again live) (requests_of live.device live.asked) (request_tells live.cyclic.shown live.device live.asked k.device); same = refl; kept = k }
    kind_tells other holds = record { reported = tt; kept = k; same = refl }

    came_tells : (turn : Turn) → IsTurn setup live came turn → Tells (sets_of live) turn
    came_tells turn of = subst (λ (t : Turn). Tells (sets_of live) t) (sym of.is) (kind_tells of.kind of.holds)

  pub turn_tells : KindsSo → (setup : Setup) (live : Live) (event : Event) → IsSixAt setup event → IsKept size live → Tells (shown_behind live event) (turn_of setup live event)
  turn_tells kinds setup live (Frame bytes) six k = came_tells setup live (Hears (heard_of setup.plan.controller bytes.items)) six k _ (kinds setup live (Frame bytes))
  turn_tells kinds setup live Ticks six k = came_tells setup live Passes tt k _ (kinds setup live Ticks)
  turn_tells kinds setup live (Give slot subslot value) six k = record { reported = tt; same = refl; kept = set_keeps live (given live slot subslot value.items).cyclic.shown.cells (given live slot subslot value.items).outputs k }
  turn_tells kinds setup live (Status slot subslot is_good) six k =
      record { reported = tt; same = refl; kept = set_keeps live (rated live slot subslot is_good).cyclic.shown.cells (rated live slot subslot is_good).outputs k }
  turn_tells kinds setup live (Read slot subslot index) six k = came_tells setup live (AsksRead slot subslot index) tt k _ (kinds setup live (Read slot subslot index))
  turn_tells kinds setup live (Write slot subslot index octets) six k =
      came_tells setup live (AsksWrite slot subslot index octets.items) tt k _ (kinds setup live (Write slot subslot index octets))
  turn_tells kinds setup live Stop six k = came_tells setup live Halts tt k _ (kinds setup live Stop)
