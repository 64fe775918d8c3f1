-- A request is sent again with each 32,000th unit since it was sent, as long as it is active.
use Rattle.std.proofs.Common.{◌≡◌, ◌⊎◌, inl, inr, ◌+◌, ◌++◌, ◌%◌, ◌==◌, ℕ, suc, Bool, true, false, List, [], ◌∷◌, Option, Some, None, refl, sym, ap, subst, ◌∙◌, arith, nat_lt}
use Rattle.std.specs.Prelude.{◌||◌, if◌then◌else◌}
use Rattle.std.proofs.lemmas.Bool.{and_parts, eqb-true, eqb-false, false≢true}
use Rattle.record_blocks.specs.declared.alarm_ack.AlarmAck.{AlarmAck}
use Rattle.record_blocks.specs.declared.alarm_notification.AlarmNotification.{AlarmNotification}
use Rattle.pn_alarms.specs.declared.abort.Abort.{Abort}
use Rattle.pn_alarms.specs.declared.receiver.Taken.{Taken}
use Rattle.pn_alarms.specs.declared.receiver.Taken.TheVariants.{New, Again, Refused}
use Rattle.pn_alarms.specs.Controller.{confirmed, with_ack, with_data}
use Rattle.pn_alarms.specs.Ends.{ControllerEnd}
use Rattle.pn_alarms.specs.Receiver.{taken_as}
use Rattle.pn_alarms.specs.Sending.{due}
use Rattle.pn_alarms.specs.Sending.{is_again as is_repeated}
use Rattle.diagnosis.specs.declared.reports.priority.Priority.{Priority}
use Rattle.diagnosis.specs.declared.reports.priority.Priority.TheVariants.{High, Low}
use Rattle.diagnosis.specs.declared.reports.report.Report.{Report}
use Rattle.controller_messages.specs.declared.setup.Setup.{Setup}
use Rattle.controller_messages.specs.declared.request.Request.{Request}
use Rattle.controller_messages.specs.declared.request.Request.TheVariants as asks
use Rattle.controller_messages.specs.Sent.{Sent}
use Rattle.controller_messages.specs.Requests.{write_count}
use Rattle.controller_core.specs.declared.stored.event.Event.{Event}
use Rattle.controller_core.specs.declared.stored.event.Event.TheVariants.{Frame, Tick, Give, Status, Read, Write, Stop}
use Rattle.controller_core.specs.declared.stored.state.Cause.{Cause}
use Rattle.controller_core.specs.declared.stored.state.Cause.TheVariants.{NoProgress}
use Rattle.controller_core.specs.declared.stored.state.State.{State}
use Rattle.controller_core.specs.declared.stored.state.State.TheVariants.{Looking, Addressing, Connecting, Writing, Ending, Waiting, Exchanging, Ended}
use Rattle.controller_core.specs.stored.Alarms.{ack_of, kept_alarm}
use Rattle.controller_core.specs.stored.State.{Controlling, Live, is_limited}
use Rattle.controller_core.specs.Machine.{Turn, acking, acks_in, acks_of, after_turn, behind_data, brought, can_begin, due_frames, end_of, exchange_later, flowed, gone_on, is_again, is_spent, keeping, later, outputs_of, pending_by, pending_of, quit, requests_of, step_of, taken, ticked, turn_of, where_due, with_end}
use Rattle.controller_core.specs.start_up.Requests.{behind_write, end_after, write_after}
use Rattle.end_laws.specs.controller.Small.{IsInStep, IsSteady}
use Rattle.end_laws.specs.turns.Beside.{MayFollow}
use Rattle.end_laws.specs.turns.Again.{AsksEachSecond, StaysAsked, is_request, sends_request}
use Rattle.end_laws.specs.turns.Ended.{is_unit}
use Rattle.end_laws.specs.turns.Patience.{units_in}
use Rattle.end_laws.specs.turns.Runs.{IsReached, behind_all}
use Rattle.end_laws.specs.turns.Turns.{Came, IsEnd, IsKind, Kind, Passes, Rests, Connects, Addresses, Ends, Releases, Relates, Writes, Skips, Tries, Waits, Forgets, Begins, Repeats, Follows, Takes, IsAcked, Gives, GivesStatus, Asks, IsReplied, IsPlugAnswered, IsPlugReadied, Flows, Breaks, Idles, came_by, turn_by}
use Rattle.end_laws.proofs.TurnsBelongs.{reached_steady}
use Rattle.end_laws.proofs.TurnsBeside.{follows, still_is, unit_begun}
use Rattle.end_laws.proofs.TurnsOneTurn.{event_is}
use Rattle.plans.specs.declared.parts.Parts.{Parts}
use Rattle.end_laws.proofs.TurnsWhole.{reached_on, whole_end}

-- ---- a request that stays active was not sent again

some_is : (one other : Request) → Some one ≡ Some other → one ≡ other
some_is one other e = cc

none_some : {P : Type 0} (request : Request) → None ≡ Some request → P
none_some request e = absurd (no_some e)
  where
    no_some : None ≡ Some request → ⊥
    no_some e = cc

not_next : (request : Request) (is : Bool) (number : ℕ) → asks.Write number ≡ (if is then asks.Write (number + 1) else asks.PrmEnd) → ⊥
not_next request true number e = absurd (omega (arith, same number (number + 1) e))
  where
    same : (n m : ℕ) → asks.Write n ≡ asks.Write m → n ≡ m
    same n m e = cc
not_next request false number e = absurd cc

not_after : (is : Bool) (number tries : ℕ) → asks.WriteAfter number tries ≡ (if is then asks.WriteAfter (number + 1) tries else asks.PrmEndAfter tries) → ⊥
not_after true number tries e = absurd (omega (arith, same number (number + 1) e))
  where
    same : (n m : ℕ) → asks.WriteAfter n tries ≡ asks.WriteAfter m tries → n ≡ m
    same n m e = cc
not_after false number tries e = absurd cc

-- The request that follows a Write is another one.
not_behind : (plan : Parts) (number : ℕ) (tries : Option ℕ) → write_after number tries ≡ behind_write plan number tries → ⊥
not_behind plan number None e = not_next asks.Identify (nat_lt (number + 1) (write_count plan)) number e
not_behind plan number (Some tries) e = not_after (nat_lt (number + 1) (write_count plan)) number tries e

not_first : (is : Bool) → asks.Connect ≡ (if is then asks.Write 0 else asks.PrmEnd) → ⊥
not_first true e = absurd cc
not_first false e = absurd cc

module _ (setup : Setup) (live : Live) (request : Request) (steady : IsSteady setup.plan live) (whole : (cause : Cause) → live.phase ≡ Ended cause → IsEnd setup.plan cause live)
    (stood : live.asked ≡ Some request) where
  -- The request of the phase is another one.
  in_phase : (phase : State) → live.phase ≡ phase → IsInStep setup.plan phase live.asked
  in_phase phase is = subst (λ (p : State). IsInStep setup.plan p live.asked) is steady.asked

  asked_is : (other : Request) → live.asked ≡ Some other → request ≡ other
  asked_is other is = some_is request other (sym stood ∙ is)

  sought : (next : Request) → (asks.Identify ≡ next → ⊥) → (asks.Address ≡ next → ⊥) → (live.phase ≡ Looking) ⊎ (live.phase ≡ Addressing) → Some next ≡ Some request → ⊥
  sought next not not_set (inl looks) e = not (sym (some_is next request e ∙ asked_is asks.Identify (in_phase Looking looks)))
  sought next not not_set (inr sets) e = not_set (sym (some_is next request e ∙ asked_is asks.Address (in_phase Addressing sets)))

  -- A Release is active only after an end.
  unreleased : (phase : State) → live.phase ≡ phase → ((cause : Cause) → IsEnd setup.plan cause live → ⊥) → (sequence : ℕ) → asks.Release sequence ≡ request → ⊥
  unreleased Looking is going sequence e = not (e ∙ asked_is asks.Identify (in_phase Looking is))
    where
      not : asks.Release sequence ≡ asks.Identify → ⊥
      not e = absurd cc
  unreleased Addressing is going sequence e = not (e ∙ asked_is asks.Address (in_phase Addressing is))
    where
      not : asks.Release sequence ≡ asks.Address → ⊥
      not e = absurd cc
  unreleased Connecting is going sequence e = not (e ∙ asked_is asks.Connect (in_phase Connecting is))
    where
      not : asks.Release sequence ≡ asks.Connect → ⊥
      not e = absurd cc
  unreleased Writing is going sequence e = let now = in_phase Writing is in not now.0 now.1 (e ∙ asked_is (write_after now.0 now.1) now.3)
    where
      not : (number : ℕ) (tries : Option ℕ) → asks.Release sequence ≡ write_after number tries → ⊥
      not number None e = absurd cc
      not number (Some tries) e = absurd cc
  unreleased Ending is going sequence e = let now = in_phase Ending is in not now.0 (e ∙ asked_is (end_after now.0) now.1)
    where
      not : (tries : Option ℕ) → asks.Release sequence ≡ end_after tries → ⊥
      not None e = absurd cc
      not (Some tries) e = absurd cc
  unreleased Waiting is going sequence e = none_some request (sym (in_phase Waiting is) ∙ stood)
  unreleased Exchanging is going sequence e = none_some request (sym (in_phase Exchanging is) ∙ stood)
  unreleased (Ended cause) is going sequence e = going cause (whole cause is)

  -- ---- alarms leave the timer of the request

  end_waited : (next : Live) (priority : Priority) (end : ControllerEnd) → (with_end next priority end).waited ≡ next.waited
  end_waited next High end = refl
  end_waited next Low end = refl

  kept_waited : (next : Live) (priority : Priority) (alarm : AlarmNotification) (structure : Option ℕ) → (keeping next priority alarm structure).waited ≡ next.waited
  kept_waited next High alarm structure = refl
  kept_waited next Low alarm structure = refl

  taken_waited : (next : Live) (report : Report) (as_what : Taken) → (taken next report as_what).live.waited ≡ next.waited
  taken_waited next report New =
      kept_waited (acking next report.priority (ack_of report.notification)) report.priority (kept_alarm report.notification) report.user_structure
      ∙ end_waited next report.priority (confirmed (end_of next report.priority) (ack_of report.notification))
  taken_waited next report Again = refl
  taken_waited next report Refused = refl

  -- ---- and the phase

  end_phase : (next : Live) (priority : Priority) (end : ControllerEnd) → (with_end next priority end).phase ≡ next.phase
  end_phase next High end = refl
  end_phase next Low end = refl

  kept_phase : (next : Live) (priority : Priority) (alarm : AlarmNotification) (structure : Option ℕ) → (keeping next priority alarm structure).phase ≡ next.phase
  kept_phase next High alarm structure = refl
  kept_phase next Low alarm structure = refl

  taken_phase : (next : Live) (report : Report) (as_what : Taken) → (taken next report as_what).live.phase ≡ next.phase
  taken_phase next report New =
      kept_phase (acking next report.priority (ack_of report.notification)) report.priority (kept_alarm report.notification) report.user_structure
      ∙ end_phase next report.priority (confirmed (end_of next report.priority) (ack_of report.notification))
  taken_phase next report Again = refl
  taken_phase next report Refused = refl

  -- No data is exchanged, so no turn of a place begins.
  not_exchanging : live.phase ≡ Exchanging → ⊥
  not_exchanging is = none_some request (sym (in_phase Exchanging is) ∙ stood)

  followed_waited : (turn after : Turn) → MayFollow setup turn after → turn.live.phase ≡ live.phase → after.live.waited ≡ turn.live.waited
  followed_waited turn after (inl e) phase = ap (λ (t : Turn). t.live.waited) e
  followed_waited turn after (inr followed) phase = absurd (not_exchanging (sym phase ∙ followed.begun.phase))

  -- ---- an event that is no unit

  kind_waits : (came : Came) (kind : Kind) → (came ≡ Passes → ⊥) → IsKind setup live came kind → (turn_by setup live kind).live.asked ≡ Some request
      → (turn_by setup live kind).live.waited ≡ live.waited
  kind_waits came Rests other holds e = refl
  kind_waits came (Connects source) other holds e = absurd (sought asks.Connect (λ f. not_identify f) (λ f. not_address f) holds.seeking e)
    where
      not_identify : asks.Identify ≡ asks.Connect → ⊥
      not_identify f = absurd cc

      not_address : asks.Address ≡ asks.Connect → ⊥
      not_address f = absurd cc
  kind_waits came (Addresses source) other holds e = absurd (not (sym (some_is asks.Address request e ∙ asked_is asks.Identify (in_phase Looking holds.1))))
    where
      not : asks.Identify ≡ asks.Address → ⊥
      not f = absurd cc
  kind_waits came (Ends cause refusal denied units) other holds e = none_some request e
  kind_waits came (Releases cause refusal denied units) other holds e = absurd (unreleased live.phase refl holds.0 _ (some_is _ request e))
  kind_waits came (Relates places chosen) other holds e = absurd (not_first _ (sym (some_is _ request e ∙ asked_is asks.Connect holds.0.stood)))
  kind_waits came (Writes number tries) other holds e =
      absurd (not_behind setup.plan number tries (sym (some_is _ request e ∙ asked_is (write_after number tries) holds.0.stood)))
  kind_waits came (Skips number tries denied status) other holds e =
      absurd (not_behind setup.plan number tries (sym (some_is _ request e ∙ asked_is (write_after number tries) holds.stood)))
  kind_waits came (Tries next status) other holds e = refl
  kind_waits came (Waits tries) other holds e = none_some request e
  kind_waits came Forgets other holds e = none_some request e
  kind_waits came (Begins caller call block) other holds e = none_some request e
  kind_waits came (Repeats caller call block) other holds e = refl
  kind_waits came (Follows source frame_id body) other holds e = refl
  kind_waits came (Takes number report) other holds e =
      let behind = behind_data live report.priority number in
      let as_what = taken_as (end_of live report.priority).seen number in
      let turn = taken behind report as_what in
      followed_waited turn (after_turn setup (can_begin live) turn) (follows setup (can_begin live) turn)
      (taken_phase behind report as_what ∙ end_phase live report.priority (with_data (end_of live report.priority) number))
      ∙ (taken_waited behind report as_what ∙ end_waited live report.priority (with_data (end_of live report.priority) number))
  kind_waits came (IsAcked priority number) other holds e = end_waited live priority (with_ack (end_of live priority) number)
  kind_waits came (Gives slot subslot value) other holds e = refl
  kind_waits came (GivesStatus slot subslot is_good) other holds e = refl
  kind_waits came (Asks record_request octets) other holds e = none_some request (sym (in_phase Exchanging holds.0) ∙ stood)
  kind_waits came (IsReplied refusal access) other holds e = none_some request (sym holds.0 ∙ stood)
  kind_waits came (IsPlugAnswered refusal refused waited places access) other holds e = none_some request (sym holds.0 ∙ stood)
  kind_waits came (IsPlugReadied caller call block) other holds e = absurd (not_exchanging holds.0)
  kind_waits came Flows other holds e = absurd (other holds.0)
  kind_waits came (Breaks because) other holds e = absurd (other holds.0)
  kind_waits came Idles other holds e = absurd (other holds.0)

  event_waits : (event : Event) → (came_by setup event ≡ Passes → ⊥) → (turn_of setup live event).live.asked ≡ Some request → (turn_of setup live event).live.waited ≡ live.waited
  event_waits event other e =
      let turn = event_is setup live event in
      ap (λ (t : Turn). t.live.waited) turn.is
      ∙ kind_waits (came_by setup event) turn.kind other turn.holds (ap (λ (t : Turn). t.live.asked) (sym turn.is) ∙ e)

  -- ---- a unit

  neither : (sent more : List Sent) → sends_request sent ≡ false → sends_request (sent ++ more) ≡ sends_request more
  neither [] more none = refl
  neither (message ∷ sent) more none = by_first (is_request message) (sends_request sent) refl none (λ rest. neither sent more rest)
    where
      by_first : (b c : Bool) → is_request message ≡ b → (is_request message || sends_request sent) ≡ false → (sends_request sent ≡ false → sends_request (sent ++ more) ≡ sends_request more)
          → (is_request message || sends_request (sent ++ more)) ≡ sends_request more
      by_first true c f none rest = absurd (no_bool (sym (ap (λ (b : Bool). b || sends_request sent) f) ∙ none))
        where
          no_bool : true ≡ false → ⊥
          no_bool f = cc
      by_first false c f none rest =
          ap (λ (b : Bool). b || sends_request (sent ++ more)) f ∙ rest (sym (ap (λ (b : Bool). b || sends_request sent) f) ∙ none)

  due_none : (is : Bool) (sent : List Sent) → sends_request sent ≡ false → sends_request (where_due is sent) ≡ false
  due_none true sent none = none
  due_none false sent none = refl

  acks_none : (next : Live) (priority : Priority) (confirming : Option AlarmAck) → sends_request (acks_in next priority confirming) ≡ false
  acks_none next priority None = refl
  acks_none next priority (Some ack) = refl

  last_none : (sent more : List Sent) → sends_request more ≡ false → sends_request (sent ++ more) ≡ sends_request sent
  last_none [] more none = none
  last_none (message ∷ sent) more none = ap (λ (b : Bool). is_request message || b) (last_none sent more none)

  requested : (is : Bool) (next : Live) (asked : Option Request) → asked ≡ Some request → sends_request (where_due is (pending_by next asked)) ≡ is
  requested is next None e = none_some request e
  requested true next (Some one) e = refl
  requested false next (Some one) e = refl

  asked_alone : (is : Bool) (device : _) (asked : Option Request) → asked ≡ Some request → sends_request (where_due is (requests_of device asked)) ≡ is
  asked_alone is device None e = none_some request e
  asked_alone true device (Some one) e = refl
  asked_alone false device (Some one) e = refl

  due_asks : (next : Live) (is_high is_low is is_cyclic : Bool) → next.asked ≡ Some request → sends_request (due_frames next is_high is_low is is_cyclic) ≡ is
  due_asks next is_high is_low is is_cyclic e =
      neither (where_due is_high (acks_of next High)) _ (due_none is_high (acks_of next High) (acks_none next High next.alarms.confirming))
      ∙ (neither (where_due is_low (acks_of next Low)) _ (due_none is_low (acks_of next Low) (acks_none next Low next.low_alarms.confirming))
      ∙ (last_none (where_due is (pending_of next)) (where_due is_cyclic (outputs_of next)) (due_none is_cyclic (outputs_of next) refl)
      ∙ requested is next next.asked e))

  -- what a unit leaves of a request that stays active, and whether it is sent
  pub record Ticks (turn : Turn) : Type 0 where
    pub waited : turn.live.waited ≡ (if is_again live then 0 else live.waited + 1)
    pub sends : sends_request turn.sent ≡ is_again live

  quit_ticks : (phase : State) → live.phase ≡ phase → is_limited phase ≡ true → (quit setup NoProgress (later live) phase).live.asked ≡ Some request → Ticks (quit setup NoProgress (later live) phase)
  quit_ticks Looking is limited e = absurd (false≢true limited)
  quit_ticks Addressing is limited e = none_some request e
  quit_ticks Exchanging is limited e = absurd (false≢true limited)
  quit_ticks (Ended cause) is limited e = absurd (false≢true limited)
  quit_ticks Connecting is limited e = absurd (unreleased Connecting is (λ cause end. not_over (sym is ∙ end.phase)) _ (some_is _ request e))
    where
      not_over : {cause : Cause} → Connecting ≡ Ended cause → ⊥
      not_over f = absurd cc
  quit_ticks Writing is limited e = absurd (unreleased Writing is (λ cause end. not_over (sym is ∙ end.phase)) _ (some_is _ request e))
    where
      not_over : {cause : Cause} → Writing ≡ Ended cause → ⊥
      not_over f = absurd cc
  quit_ticks Ending is limited e = absurd (unreleased Ending is (λ cause end. not_over (sym is ∙ end.phase)) _ (some_is _ request e))
    where
      not_over : {cause : Cause} → Ending ≡ Ended cause → ⊥
      not_over f = absurd cc
  quit_ticks Waiting is limited e = none_some request (sym (in_phase Waiting is) ∙ stood)

  flow_ticks : (ending : Option Abort)
      → (flowed (exchange_later (later live)) (due live.alarms.sending) (due live.low_alarms.sending) (is_again live) (brought live) ending).live.asked ≡ Some request
      → Ticks (flowed (exchange_later (later live)) (due live.alarms.sending) (due live.low_alarms.sending) (is_again live) (brought live) ending)
  flow_ticks (Some because) e = none_some request e
  flow_ticks None e = record {
    waited = refl;
    sends = due_asks (exchange_later (later live)) (is_repeated (due live.alarms.sending)) (is_repeated (due live.low_alarms.sending)) (is_again live) (brought live).is_cyclic e;
  }

  goes_ticks : (stands : Bool)
      → (if stands then flowed (exchange_later (later live)) (due live.alarms.sending) (due live.low_alarms.sending) (is_again live) (brought live) (brought live).ending
      else record { live = later live; sent = where_due (is_again live) (requests_of live.device live.asked) }).live.asked ≡ Some request
      → Ticks (if stands then flowed (exchange_later (later live)) (due live.alarms.sending) (due live.low_alarms.sending) (is_again live) (brought live) (brought live).ending
      else record { live = later live; sent = where_due (is_again live) (requests_of live.device live.asked) })
  goes_ticks true e = flow_ticks (brought live).ending e
  goes_ticks false e = record { waited = refl; sends = asked_alone (is_again live) live.device live.asked stood }

  unit_by : (spent : Bool) → is_spent live ≡ spent
      → (if spent then quit setup NoProgress (later live) live.phase else gone_on (unit_begun setup live) (is_again live)).live.asked ≡ Some request
      → Ticks (if spent then quit setup NoProgress (later live) live.phase else gone_on (unit_begun setup live) (is_again live))
  unit_by true is e = quit_ticks live.phase refl (and_parts (is_limited live.phase) (live.left == 1) is).0 e
  unit_by false is e =
      subst (λ (next : Live). (gone_on next (is_again live)).live.asked ≡ Some request → Ticks (gone_on next (is_again live)))
      (sym (still_is setup live not_exchanging)) (goes_ticks live.stands) e

  pub unit_ticks : (ticked setup live).live.asked ≡ Some request → Ticks (ticked setup live)
  unit_ticks e = unit_by (is_spent live) refl e

-- ---- the count of the units

next_count : (units waited : ℕ) → waited ≡ units % 32000 → (if waited + 1 == 32000 then 0 else waited + 1) ≡ (units + 1) % 32000
next_count units waited is = by_test (waited + 1 == 32000) refl
  where
    by_test : (b : Bool) → (waited + 1 == 32000) ≡ b → (if b then 0 else waited + 1) ≡ (units + 1) % 32000
    by_test true e = omega (arith, is, eqb-true (waited + 1) 32000 e)
    by_test false e = omega (arith, is, eqb-false (waited + 1) 32000 e)

is_last : (units waited : ℕ) → waited ≡ units % 32000 → (waited + 1 == 32000) ≡ ((units + 1) % 32000 == 0)
is_last units waited is = by_test (waited + 1 == 32000) ((units + 1) % 32000 == 0) refl refl
  where
    by_test : (b c : Bool) → (waited + 1 == 32000) ≡ b → ((units + 1) % 32000 == 0) ≡ c → b ≡ c
    by_test true true e f = refl
    by_test false false e f = refl
    by_test true false e f = absurd (omega (arith, is, eqb-true (waited + 1) 32000 e, eqb-false ((units + 1) % 32000) 0 f))
    by_test false true e f = absurd (omega (arith, is, eqb-false (waited + 1) 32000 e, eqb-true ((units + 1) % 32000) 0 f))

-- one event
module _ (controller : Controlling) (request : Request) (reached : IsReached controller) (stood : controller.live.asked ≡ Some request) (units : ℕ)
    (counted : controller.live.waited ≡ units % 32000) where
  abbrev steady : IsSteady controller.setup.plan controller.live
  steady = reached_steady controller reached

  whole_now : (cause : Cause) → controller.live.phase ≡ Ended cause → IsEnd controller.setup.plan cause controller.live
  whole_now cause is = whole_end cause controller (record { reached = reached; phase = is })

  other_counts : (event : Event) → (came_by controller.setup event ≡ Passes → ⊥) → (step_of controller event).controller.live.asked ≡ Some request
      → (step_of controller event).controller.live.waited ≡ units % 32000
  unfolding step_of
  other_counts event other e = event_waits controller.setup controller.live request steady whole_now stood event other e ∙ counted

  tick_counts : (step_of controller Tick).controller.live.asked ≡ Some request → (step_of controller Tick).controller.live.waited ≡ suc units % 32000
  unfolding step_of
  tick_counts e =
      (unit_ticks controller.setup controller.live request steady whole_now stood e).waited
      ∙ (next_count units controller.live.waited counted ∙ ap (λ (n : ℕ). n % 32000) (sym (one_more units)))
    where
      one_more : (n : ℕ) → suc n ≡ n + 1
      one_more n = omega arith

  event_counts : (event : Event) → (step_of controller event).controller.live.asked ≡ Some request
      → (step_of controller event).controller.live.waited ≡ (if is_unit event then suc units else units) % 32000
  event_counts Tick e = tick_counts e
  event_counts (Frame bytes) e = other_counts (Frame bytes) (λ f. absurd cc) e
  event_counts (Give slot subslot value) e = other_counts (Give slot subslot value) (λ f. absurd cc) e
  event_counts (Status slot subslot is_good) e = other_counts (Status slot subslot is_good) (λ f. absurd cc) e
  event_counts (Read slot subslot index) e = other_counts (Read slot subslot index) (λ f. absurd cc) e
  event_counts (Write slot subslot index octets) e = other_counts (Write slot subslot index octets) (λ f. absurd cc) e
  event_counts Stop e = other_counts Stop (λ f. absurd cc) e

  last_asks : (step_of controller Tick).controller.live.asked ≡ Some request → sends_request (turn_of controller.setup controller.live Tick).sent ≡ ((units + 1) % 32000 == 0)
  unfolding step_of
  last_asks e = (unit_ticks controller.setup controller.live request steady whole_now stood e).sends ∙ is_last units controller.live.waited counted

setup_same : (controller : Controlling) (event : Event) → (step_of controller event).controller.setup ≡ controller.setup
unfolding step_of
setup_same controller event = refl

adds : (is : Bool) (before more : ℕ) → ((if is then suc before else before) + more + 1) ≡ (before + (if is then suc more else more) + 1)
adds true before more = omega arith
adds false before more = omega arith

asks_on : (events : List Event) (controller : Controlling) (request : Request) (setup : Setup) (units : ℕ) → controller.setup ≡ setup → IsReached controller → controller.live.asked ≡ Some request
    → controller.live.waited ≡ units % 32000 → StaysAsked request (events ++ Tick ∷ []) controller
    → sends_request (turn_of setup (behind_all events controller).live Tick).sent ≡ ((units + units_in events + 1) % 32000 == 0)
asks_on [] controller request setup units same reached stood counted stays =
    ap (λ (s : Setup). sends_request (turn_of s controller.live Tick).sent) (sym same)
    ∙ (last_asks controller request reached stood units counted stays.0 ∙ ap (λ (n : ℕ). (n + 1) % 32000 == 0) (none_more units))
  where
    none_more : (n : ℕ) → n ≡ n + 0
    none_more n = omega arith
asks_on (event ∷ events) controller request setup units same reached stood counted stays =
    asks_on events (step_of controller event).controller request setup (if is_unit event then suc units else units) (setup_same controller event ∙ same) (reached_on controller event reached) stays.0
    (event_counts controller request reached stood units counted event stays.0) stays.1
    ∙ ap (λ (n : ℕ). n % 32000 == 0) (adds (is_unit event) units (units_in events))

pub asks_each_second : AsksEachSecond
asks_each_second controller request events reached stood fresh stays =
    asks_on events controller request controller.setup 0 refl reached stood fresh stays ∙ ap (λ (n : ℕ). (n + 1) % 32000 == 0) (zero_more (units_in events))
  where
    zero_more : (n : ℕ) → 0 + n ≡ n
    zero_more n = omega arith
