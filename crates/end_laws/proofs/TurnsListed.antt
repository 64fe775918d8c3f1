-- The list of diagnoses of a controller is what the changes that it accepted report.
use Rattle.std.proofs.Common.{◌≡◌, ◌⊎◌, inl, inr, ◌++◌, ◌+◌, ℕ, Bool, true, false, cond, List, [], ◌∷◌, Option, Some, None, refl, sym, ap, subst, ◌∙◌}
use Rattle.std.specs.Prelude.{if◌then◌else◌, nat_lt, slice_get}
use Rattle.std.specs.List.{AllByRecursion}
use Rattle.std.proofs.lemmas.Bool.{and_parts, false≢true}
use Rattle.pn_values.specs.declared.mac.Mac.{Mac}
use Rattle.record_blocks.specs.declared.alarm_notification.AlarmNotification.{AlarmNotification}
use Rattle.pn_alarms.specs.declared.message.Notice.TheVariants as notice
use Rattle.pn_alarms.specs.declared.pdu.Header.{Header}
use Rattle.pn_alarms.specs.declared.receiver.Taken.{Taken}
use Rattle.pn_alarms.specs.declared.receiver.Taken.TheVariants.{New, Again, Refused}
use Rattle.pn_alarms.specs.Numbers.{send_number}
use Rattle.pn_alarms.specs.Receiver.{taken_as}
use Rattle.pn_alarms.specs.Sending.{due}
use Rattle.diagnosis.specs.declared.reports.priority.Priority.{Priority}
use Rattle.diagnosis.specs.declared.reports.priority.Priority.TheVariants.{High, Low}
use Rattle.diagnosis.specs.declared.reports.report.Report.{Report}
use Rattle.diagnosis.specs.Line.{more_taken, with_come}
use Rattle.diagnosis.specs.declared.reported.channel.ChannelReport.{ChannelReport}
use Rattle.diagnosis.specs.reported.Pulled.{pulled_by}
use Rattle.diagnosis.specs.reported.Reported.{Reported, after_found, after_pull, after_report, nothing_reported}
use Rattle.module_diff.specs.declared.changes.Affected.{Affected}
use Rattle.controller_messages.specs.declared.request.Request.{Request}
use Rattle.controller_messages.specs.declared.request.Request.TheVariants as asks
use Rattle.controller_messages.specs.declared.setup.Setup.{Setup}
use Rattle.controller_messages.specs.Requests.{write_count, writing_from}
use Rattle.controller_messages.specs.Heard.{Heard, Alarms}
use Rattle.controller_messages.specs.PlugRequests.{plug_answer}
use Rattle.controller_messages.specs.Sent.{Sent, Agrees, Confirms}
use Rattle.controller_core.specs.stored.Alarms.{is_alarm}
use Rattle.controller_core.specs.declared.stored.state.State.{State}
use Rattle.controller_core.specs.declared.stored.state.State.TheVariants.{Looking, Addressing, Connecting}
use Rattle.controller_core.specs.Machine.{Turn, after_turn, alarmed, asks_next, behind_data, can_begin, end_of, flow_later, noticed, plug_readied, stays, taken, turned}
use Rattle.controller_core.specs.stored.State.{phase_for}
use Rattle.controller_core.specs.stored.State.{Live}
use Rattle.controller_core.specs.start_up.Requests.{behind_write, tried_as}
use Rattle.end_laws.specs.turns.Alarms.{IsQuiet, ListsWhatIsReported, Move, Relation, ReportsNone, Raises, PassesAtDevice, ComesToDevice, AckComesToDevice, AlarmComes, Hears, PassesAtController, Gives, GivesStatus, Reads, Writes, Stops, after_reports, alarm_comes, behind, behind_one, comes_to_device, hears, is_looked_at, is_priority, raised_by, report_as, start, turns}
use Rattle.end_laws.specs.turns.Beside.{MayBegin, MayFollow, flow_begun}
use Rattle.end_laws.specs.turns.Turns as came
use Rattle.end_laws.specs.turns.Turns.{Came, IsKind, Kind, turn_by, turn_for}
use Rattle.end_laws.proofs.TurnsAlarms.{lines_taken}
use Rattle.end_laws.proofs.TurnsBeside.{flows, follows}
use Rattle.plans.specs.declared.parts.Parts.{Parts}
use Rattle.end_laws.proofs.TurnsOneTurn.{turn_is}

-- ---- the invariant

-- No relation was established yet.
abbrev IsBefore : State → Type 0
IsBefore Looking = Unit {0}
IsBefore Addressing = Unit {0}
IsBefore Connecting = Unit {0}
IsBefore _ = ⊥

record IsUnbegun (live : Live) (taken : List AlarmNotification) : Type 0 where
  none : taken ≡ []
  down : live.stands ≡ false
  empty : live.diagnosis ≡ nothing_reported

record IsListed (live : Live) (taken : List AlarmNotification) : Type 0 where
  asks : live.asked ≡ Some asks.Connect → IsBefore live.phase
  before : IsBefore live.phase → IsUnbegun live taken
  lists : live.stands ≡ true → live.diagnosis ≡ after_reports taken nothing_reported

same_listed : (live next : Live) (taken : List AlarmNotification) → next.phase ≡ live.phase → next.asked ≡ live.asked → next.stands ≡ live.stands → next.diagnosis ≡ live.diagnosis
    → IsListed live taken → IsListed next taken
same_listed live next taken phase asked stands diagnosis is = record {
  asks = λ e. subst (λ (s : State). IsBefore s) (sym phase) (is.asks (sym asked ∙ e));
  before = λ b. let u = is.before (subst (λ (s : State). IsBefore s) phase b) in record { none = u.none; down = stands ∙ u.down; empty = diagnosis ∙ u.empty };
  lists = λ up. diagnosis ∙ is.lists (sym stands ∙ up);
}

-- The turn of a place that begins changes none of this.
begins_listed : (setup : Setup) (before after : Live) (taken : List AlarmNotification) → MayBegin setup before after → IsListed before taken → IsListed after taken
begins_listed setup before after taken (inl e) is = subst (λ (l : Live). IsListed l taken) (sym e) is
begins_listed setup before after taken (inr begun) is =
    same_listed before after taken
    (ap (λ (l : Live). l.phase) begun.beside) (ap (λ (l : Live). l.asked) begun.beside)
    (ap (λ (l : Live). l.stands) begun.beside) (ap (λ (l : Live). l.diagnosis) begun.beside) is

follows_listed : (setup : Setup) (turn after : Turn) (taken : List AlarmNotification) → MayFollow setup turn after → IsListed turn.live taken → IsListed after.live taken
follows_listed setup turn after taken (inl e) is = subst (λ (t : Turn). IsListed t.live taken) (sym e) is
follows_listed setup turn after taken (inr followed) is = begins_listed setup turn.live after.live taken (inr followed.begun) is

after_listed : (setup : Setup) (live : Live) (turn : Turn) (taken : List AlarmNotification) → IsListed turn.live taken
    → IsListed (after_turn setup (can_begin live) turn).live taken
after_listed setup live turn taken is = follows_listed setup turn (after_turn setup (can_begin live) turn) taken (follows setup (can_begin live) turn) is

-- ---- data

after_more : (alarms : List AlarmNotification) (alarm : AlarmNotification) (reported : Reported)
    → after_reports (alarms ++ alarm ∷ []) reported ≡ after_report (report_as Low alarm) (after_reports alarms reported)
after_more [] alarm reported = refl
after_more (one ∷ alarms) alarm reported = after_more alarms alarm (after_report (report_as Low one) reported)

own_listed : (live : Live) (number : ℕ) (alarm : AlarmNotification) (alarms : List AlarmNotification) (as_what : Taken) → live.stands ≡ true → IsListed live alarms
    → IsListed (taken (behind_data live Low number) (report_as Low alarm) as_what).live (more_taken alarms alarm as_what)
own_listed live number alarm alarms New up is = record {
  asks = is.asks;
  before = λ b. absurd (false≢true (sym (is.before b).down ∙ up));
  lists = λ now. ap (after_report (report_as Low alarm)) (is.lists up) ∙ sym (after_more alarms alarm nothing_reported);
}
own_listed live number alarm alarms Again up is = same_listed live _ alarms refl refl refl refl is
own_listed live number alarm alarms Refused up is = same_listed live _ alarms refl refl refl refl is

quiet_is : (report : Report) (reported : Reported) → ReportsNone report → after_report report reported ≡ reported
quiet_is report reported e =
    ap (λ (found : Option ChannelReport). after_pull (pulled_by report) (after_found found reported)) e.0
    ∙ ap (λ (gone : Option Affected). after_pull gone reported) e.1

quiet_listed : (priority : Priority) (live : Live) (number : ℕ) (alarm : AlarmNotification) (structure : Option ℕ) (alarms : List AlarmNotification) (as_what : Taken)
    → ReportsNone (record { priority = priority; notification = alarm; user_structure = structure }) → IsListed live alarms
    → IsListed (taken (behind_data live priority number) (record { priority = priority; notification = alarm; user_structure = structure }) as_what).live alarms
quiet_listed High live number alarm structure alarms New e is =
    same_listed live _ alarms refl refl refl (quiet_is (record { priority = High; notification = alarm; user_structure = structure }) live.diagnosis e) is
quiet_listed Low live number alarm structure alarms New e is =
    same_listed live _ alarms refl refl refl (quiet_is (record { priority = Low; notification = alarm; user_structure = structure }) live.diagnosis e) is
quiet_listed High live number alarm structure alarms Again e is = same_listed live _ alarms refl refl refl refl is
quiet_listed Low live number alarm structure alarms Again e is = same_listed live _ alarms refl refl refl refl is
quiet_listed High live number alarm structure alarms Refused e is = same_listed live _ alarms refl refl refl refl is
quiet_listed Low live number alarm structure alarms Refused e is = same_listed live _ alarms refl refl refl refl is

-- ---- any other turn

address_asks : Some asks.Address ≡ Some asks.Connect → ⊥
address_asks e = absurd cc

release_asks : (sequence : ℕ) → Some (asks.Release sequence) ≡ Some asks.Connect → ⊥
release_asks sequence e = absurd cc

none_asks : ◌≡◌ {A = Option Request} None (Some asks.Connect) → ⊥
none_asks e = absurd cc

next_asks : (b : Bool) (number : ℕ) → Some (cond b (asks.Write number) asks.PrmEnd) ≡ Some asks.Connect → ⊥
next_asks true number e = absurd cc
next_asks false number e = absurd cc

next_phase : (b : Bool) (number : ℕ) → IsBefore (phase_for (cond b (asks.Write number) asks.PrmEnd)) → ⊥
next_phase true number b = b
next_phase false number b = b

after_asks : (b : Bool) (number tries : ℕ) → Some (cond b (asks.WriteAfter number tries) (asks.PrmEndAfter tries)) ≡ Some asks.Connect → ⊥
after_asks true number tries e = absurd cc
after_asks false number tries e = absurd cc

after_phase : (b : Bool) (number tries : ℕ) → IsBefore (phase_for (cond b (asks.WriteAfter number tries) (asks.PrmEndAfter tries))) → ⊥
after_phase true number tries b = b
after_phase false number tries b = b

behind_asks : (plan : Parts) (number : ℕ) (tries : Option ℕ) → Some (behind_write plan number tries) ≡ Some asks.Connect → ⊥
behind_asks plan number None e = next_asks (nat_lt (number + 1) (write_count plan)) (number + 1) e
behind_asks plan number (Some tries) e = after_asks (nat_lt (number + 1) (write_count plan)) (number + 1) tries e

behind_phase : (plan : Parts) (number : ℕ) (tries : Option ℕ) → IsBefore (phase_for (behind_write plan number tries)) → ⊥
behind_phase plan number None b = next_phase (nat_lt (number + 1) (write_count plan)) (number + 1) b
behind_phase plan number (Some tries) b = after_phase (nat_lt (number + 1) (write_count plan)) (number + 1) tries b

tried_asks : (request next : Request) → tried_as request ≡ Some next → Some next ≡ Some asks.Connect → ⊥
tried_asks (asks.Write number) next e f = absurd cc
tried_asks asks.PrmEnd next e f = absurd cc
tried_asks (asks.WriteAfter number tries) next e f = absurd cc
tried_asks (asks.PrmEndAfter tries) next e f = absurd cc
tried_asks asks.Identify next e f = absurd cc
tried_asks asks.Address next e f = absurd cc
tried_asks asks.Connect next e f = absurd cc
tried_asks (asks.Release sequence) next e f = absurd cc

sought_before : (phase : State) → (phase ≡ Looking) ⊎ (phase ≡ Addressing) → IsBefore phase
sought_before phase (inl is) = subst (λ (s : State). IsBefore s) (sym is) tt
sought_before phase (inr is) = subst (λ (s : State). IsBefore s) (sym is) tt

-- It is no data.
abbrev IsNoData : Came → Type 0
IsNoData (came.Hears (Alarms source under header (notice.Data number report))) = ⊥
IsNoData _ = Unit {0}

module _ (setup : Setup) (live : Live) (alarms : List AlarmNotification) (is : IsListed live alarms) where
  -- it goes on with the next record, or PrmEnd
  writes_listed : (next : Live) (request : Request) → (Some request ≡ Some asks.Connect → ⊥) → (IsBefore (phase_for request) → ⊥)
      → next.phase ≡ phase_for request → next.asked ≡ Some request
      → (next.stands ≡ true → next.diagnosis ≡ after_reports alarms nothing_reported) → IsListed next alarms
  writes_listed next request no_connect not_before phase asked lists = record {
    asks = λ e. absurd (no_connect (sym asked ∙ e));
    before = λ early. absurd (not_before (subst (λ (s : State). IsBefore s) phase early));
    lists = lists;
  }

  acked_listed : (priority : Priority) (number : ℕ) → IsListed (turn_by setup live (came.IsAcked priority number)).live alarms
  acked_listed High number = same_listed live _ alarms refl refl refl refl is
  acked_listed Low number = same_listed live _ alarms refl refl refl refl is

  module _ (comes : Came) (plain : IsNoData comes) where
    not_so : (other : Came) → (IsNoData other → ⊥) → comes ≡ other → ⊥
    not_so other never e = never (subst (λ (c : Came). IsNoData c) e plain)

    listed_by : (kind : Kind) → IsKind setup live comes kind → IsListed (turn_by setup live kind).live alarms
    listed_by came.Rests holds = is
    listed_by (came.Connects source) holds =
        let u = is.before (sought_before live.phase holds.seeking) in
        record { asks = λ e. tt; before = λ b. record { none = u.none; down = u.down; empty = u.empty }; lists = is.lists }
    listed_by (came.Addresses source) holds =
        let u = is.before (sought_before live.phase holds.0.seeking) in
        record { asks = λ e. tt; before = λ b. record { none = u.none; down = u.down; empty = u.empty }; lists = is.lists }
    listed_by (came.Ends cause refusal refused units) holds = record { asks = λ e. absurd (none_asks e); before = λ b. absurd b; lists = λ up. absurd (false≢true up) }
    listed_by (came.Releases cause refusal refused units) holds = record { asks = λ e. absurd (release_asks _ e); before = λ b. absurd b; lists = λ up. absurd (false≢true up) }
    listed_by (came.Relates places chosen) holds =
        let u = is.before (is.asks holds.0.stood) in
        writes_listed _ (writing_from setup.plan 0) (next_asks (nat_lt 0 (write_count setup.plan)) 0) (next_phase (nat_lt 0 (write_count setup.plan)) 0) refl refl (λ up. u.empty ∙ ap (λ (xs : List AlarmNotification). after_reports xs nothing_reported) (sym u.none))
    listed_by (came.Writes number tries) holds =
        writes_listed _ (behind_write setup.plan number tries) (behind_asks setup.plan number tries) (behind_phase setup.plan number tries) refl refl is.lists
    listed_by (came.Skips number tries refused status) holds =
        writes_listed _ (behind_write setup.plan number tries) (behind_asks setup.plan number tries) (behind_phase setup.plan number tries) refl refl is.lists
    listed_by (came.Tries next status) holds = record {
      asks = λ e. absurd (tried_asks holds.request next holds.tries e);
      before = λ b. let u = is.before b in record { none = u.none; down = u.down; empty = u.empty };
      lists = is.lists;
    }
    listed_by (came.Waits tries) holds = record { asks = λ e. absurd (none_asks e); before = λ b. absurd b; lists = is.lists }
    listed_by came.Forgets holds =
        record { asks = λ e. absurd (none_asks e); before = λ b. let u = is.before b in record { none = u.none; down = u.down; empty = u.empty }; lists = is.lists }
    listed_by (came.Begins caller call block) holds = record { asks = λ e. absurd (none_asks e); before = λ b. absurd b; lists = is.lists }
    listed_by (came.Repeats caller call block) holds = is
    listed_by (came.Follows source frame_id body) holds = same_listed live _ alarms refl refl refl refl is
    listed_by (came.Takes number report) holds = absurd (not_so (came.Hears (Alarms holds.1 holds.2 holds.3 (notice.Data number report))) (λ none. none) holds.4)
    listed_by (came.IsAcked priority number) holds = acked_listed priority number
    listed_by (came.Gives slot subslot value) holds = same_listed live _ alarms refl refl refl refl is
    listed_by (came.GivesStatus slot subslot is_good) holds = same_listed live _ alarms refl refl refl refl is
    listed_by (came.Asks request octets) holds = same_listed live _ alarms refl refl refl refl is
    listed_by (came.IsReplied refusal access) holds =
        let next : Live = record live { refusal = refusal; access = access } in
        after_listed setup live (stays next) alarms (same_listed live next alarms refl refl refl refl is)
    listed_by (came.IsPlugAnswered refusal refused waited places access) holds =
        let next : Live = record live { refusal = refusal; refused_record = refused; waited = waited; places = places; access = access } in
        after_listed setup live (asks_next next) alarms (same_listed live next alarms refl refl refl refl is)
    listed_by (came.IsPlugReadied caller call block) holds =
        let next = plug_readied live block.alarm_sequence_number in
        let turn : Turn = record { live = next; sent = Agrees caller (plug_answer call block) ∷ [] } in
        after_listed setup live turn alarms (same_listed live next alarms refl refl refl refl is)
    listed_by came.Flows holds =
        begins_listed setup (flow_later live) (flow_begun setup live) alarms (flows setup live) (same_listed live (flow_later live) alarms refl refl refl refl is)
    listed_by (came.Breaks reason) holds = record { asks = λ e. absurd (none_asks e); before = λ b. absurd b; lists = λ up. absurd (false≢true up) }
    listed_by came.Idles holds = same_listed live _ alarms refl refl refl refl is

    plain_listed : IsListed (turn_for setup live comes).live alarms
    plain_listed =
        let turn = turn_is setup live comes in
        subst (λ (t : Turn). IsListed t.live alarms) (sym turn.is) (listed_by turn.kind turn.holds)

-- ---- each move

abbrev Listed : Relation → Type 0
Listed r = IsListed r.live r.alarms.taken

raised_listed : (r : Relation) (alarm : AlarmNotification) (standing : Option AlarmNotification) → Listed r → Listed (raised_by r alarm standing)
raised_listed r alarm None is = is
raised_listed r alarm (Some standing) is = is

confirmed_listed : (r next : Relation) (b : Bool) → Listed r → Listed next → Listed (if b then next else r)
confirmed_listed r next true is after = after
confirmed_listed r next false is after = is

come_listed : (r : Relation) (message : Option Sent) → Listed r → Listed (comes_to_device Low r message)
come_listed r None is = is
come_listed r (Some (Confirms route other header ack)) is = confirmed_listed r _ (is_priority Low other) is is
come_listed r (Some message) is = is

looked_listed : (r : Relation) (under : Priority) (came_is : ℕ × AlarmNotification) (b : Bool) → (b ≡ true → r.live.stands ≡ true) → Listed r
    → Listed (record (turns r (if b then noticed r.live under (notice.Data came_is.0 (report_as Low came_is.1)) else stays r.live)) {
      alarms = if b then with_come r.alarms (end_of r.live Low).seen came_is else r.alarms;
    })
looked_listed r under came_is true up is = own_listed r.live came_is.0 came_is.1 r.alarms.taken (taken_as r.live.low_alarms.seen came_is.0) (up refl) is
looked_listed r under came_is false up is = is

alarm_listed : (setup : Setup) (r : Relation) (source : Mac) (under : Priority) (header : Header) (came_is : Option (ℕ × AlarmNotification)) → Listed r
    → Listed (alarm_comes Low setup r source under header came_is)
alarm_listed setup r source under header None is = is
alarm_listed setup r source under header (Some came_is) is =
    after_listed setup r.live (alarmed r.live source under header (notice.Data came_is.0 (report_as Low came_is.1)))
    (if is_looked_at r source header then with_come r.alarms (end_of r.live Low).seen came_is else r.alarms).taken
    (looked_listed r under came_is (is_looked_at r source header) (λ e. (and_parts r.live.stands (is_alarm r.live.cyclic.route source header) e).0) is)

other_listed : (r : Relation) (under : Priority) (number : ℕ) (report : Report) (b : Bool) → ReportsNone report → Listed r
    → Listed (turns r (if b then noticed r.live under (notice.Data number report) else stays r.live))
other_listed r under number report true e is =
    quiet_listed report.priority r.live number report.notification report.user_structure r.alarms.taken (taken_as (end_of r.live report.priority).seen number) e is
other_listed r under number report false e is = is

heard_listed : (setup : Setup) (r : Relation) (heard : Heard) → IsQuiet Low (Hears heard) → Listed r → Listed (hears Low setup r heard)
heard_listed setup r (Alarms source under header (notice.Data number report)) quiet is =
    unheard (is_priority Low report.priority)
    (after_listed setup r.live (alarmed r.live source under header (notice.Data number report)) r.alarms.taken
    (other_listed r under number report (is_looked_at r source header) quiet is))
  where
    unheard : (b : Bool) → Listed (turns r (turned setup r.live (Alarms source under header (notice.Data number report))))
        → Listed (if b then r else turns r (turned setup r.live (Alarms source under header (notice.Data number report))))
    unheard true after = is
    unheard false after = after
heard_listed setup r heard quiet is = plain_listed setup r.live r.alarms.taken is (came.Hears heard) tt

one_listed : (setup : Setup) (r : Relation) (move : Move) → IsQuiet Low move → Listed r → Listed (behind_one Low setup r move)
one_listed setup r (Raises alarm) quiet is = raised_listed r alarm r.device.sender.standing is
one_listed setup r PassesAtDevice quiet is =
    subst (λ (xs : List AlarmNotification). IsListed r.live xs) (sym (lines_taken r.alarms (send_number r.device.sender.sending.last) r.device.sender.standing (due r.device.sender.sending))) is
one_listed setup r (ComesToDevice place) quiet is = come_listed r (slice_get r.reported place) is
one_listed setup r (AckComesToDevice number) quiet is = is
one_listed setup r (AlarmComes source under header place) quiet is = alarm_listed setup r source under header (slice_get r.alarms.pdus place) is
one_listed setup r (Hears heard) quiet is = heard_listed setup r heard quiet is
one_listed setup r PassesAtController quiet is = plain_listed setup r.live r.alarms.taken is came.Passes tt
one_listed setup r (Gives slot subslot value) quiet is = plain_listed setup r.live r.alarms.taken is (came.Gets slot subslot value) tt
one_listed setup r (GivesStatus slot subslot is_good) quiet is = plain_listed setup r.live r.alarms.taken is (came.GetsStatus slot subslot is_good) tt
one_listed setup r (Reads slot subslot index) quiet is = plain_listed setup r.live r.alarms.taken is (came.AsksRead slot subslot index) tt
one_listed setup r (Writes slot subslot index octets) quiet is = plain_listed setup r.live r.alarms.taken is (came.AsksWrite slot subslot index octets) tt
one_listed setup r Stops quiet is = plain_listed setup r.live r.alarms.taken is came.Halts tt

all_listed : (setup : Setup) (moves : List Move) (r : Relation) → AllByRecursion (IsQuiet Low) moves → Listed r → Listed (behind Low setup moves r)
all_listed setup [] r quiet is = is
all_listed setup (move ∷ moves) r quiet is = all_listed setup moves (behind_one Low setup r move) quiet.1 (one_listed setup r move quiet.0 is)

starts : (setup : Setup) → Listed (start setup)
starts setup = record { asks = λ e. tt; before = λ b. record { none = refl; down = refl; empty = refl }; lists = λ up. absurd (false≢true up) }

pub lists_what_is_reported : ListsWhatIsReported
lists_what_is_reported setup moves quiet up = (all_listed setup moves (start setup) quiet (starts setup)).lists up
