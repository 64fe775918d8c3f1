-- The units that a state of a controller may still last, over any events.
use Rattle.std.proofs.Common.{◌≡◌, ◌≢◌, ◌⊎◌, inl, inr, ◌+◌, ◌-◌, ◌<◌, ◌≤◌, ◌==◌, ◌&&◌, ℕ, zero, suc, Bool, true, false, List, [], ◌∷◌, map, Option, Some, None, refl, sym, ap, subst, ◌∙◌, arith}
use Rattle.std.specs.Prelude.{if◌then◌else◌}
use Rattle.std.proofs.lemmas.Bool.{and_parts, eqb-false, false≢true}
use Rattle.record_blocks.specs.declared.alarm_notification.AlarmNotification.{AlarmNotification}
use Rattle.pn_alarms.specs.declared.abort.Abort.{Abort}
use Rattle.pn_alarms.specs.declared.repeats.Due.{Due}
use Rattle.pn_alarms.specs.declared.receiver.Taken.{Taken}
use Rattle.pn_alarms.specs.declared.receiver.Taken.TheVariants.{New, Again, Refused}
use Rattle.pn_alarms.specs.Controller.{confirmed, with_ack, with_data}
use Rattle.pn_alarms.specs.Ends.{ControllerEnd}
use Rattle.pn_alarms.specs.Receiver.{taken_as}
use Rattle.pn_alarms.specs.Sending.{due}
use Rattle.diagnosis.specs.declared.reports.priority.Priority.{Priority}
use Rattle.diagnosis.specs.declared.reports.priority.Priority.TheVariants.{High, Low}
use Rattle.diagnosis.specs.declared.reports.report.Report.{Report}
use Rattle.cyclic_data.specs.exchange.Units.{Brought}
use Rattle.plans.specs.declared.parts.Parts.{Parts}
use Rattle.controller_messages.specs.declared.setup.ControllerOptions.{ControllerOptions}
use Rattle.controller_messages.specs.declared.setup.Setup.{Setup}
use Rattle.controller_messages.specs.declared.request.Request.{Request}
use Rattle.controller_messages.specs.declared.request.Request.TheVariants as asks
use Rattle.controller_messages.specs.Requests.{writing_from}
use Rattle.controller_messages.specs.PlugRequests.{plug_answer}
use Rattle.controller_messages.specs.Sent.{Sent, Agrees, bytes_of}
use Rattle.controller_core.specs.declared.stored.event.Event.{Event}
use Rattle.controller_core.specs.declared.stored.event.Event.TheVariants.{Frame, Tick, Give, Status, Read, Write, Stop}
use Rattle.controller_core.specs.declared.stored.state.Cause.TheVariants.{NoProgress}
use Rattle.controller_core.specs.declared.stored.state.State.{State}
use Rattle.controller_core.specs.declared.stored.state.State.TheVariants.{Looking, Addressing, Connecting, Writing, Ending, Waiting, Exchanging, Ended}
use Rattle.controller_core.specs.stored.Alarms.{ack_of, kept_alarm}
use Rattle.controller_core.specs.stored.State.{Controlling, Live, is_limited, is_writing, left_in, patience_in, phase_for}
use Rattle.controller_core.specs.Machine.{Turn, acking, after_turn, asks_next, behind_ack, behind_data, brought, can_begin, confirming, end_of, flow_later, flowed, fresh_with, gone_on, is_again, is_spent, keeping, later, plug_readied, quit, requests_of, stays, step_of, taken, ticked, turn_of, where_due, with_end}
use Rattle.controller_core.specs.start_up.Requests.{behind_write, end_after, write_after}
use Rattle.end_laws.specs.controller.Small.{IsInStep, IsSteady}
use Rattle.end_laws.specs.turns.Beside.{IsBeside, MayFollow, flow_begun}
use Rattle.end_laws.specs.turns.Ended.{is_unit, release_in}
use Rattle.end_laws.specs.turns.Patience.{EndsInTime, HasTimeLeft, IsInformed, NoneLastsLonger, StaysIn, patience_of, units_in}
use Rattle.end_laws.specs.turns.Runs.{IsReached, behind_all}
use Rattle.end_laws.specs.turns.Turns.{Came, Passes, IsKind, Kind, Rests, Connects, Addresses, Ends, Releases, Relates, Writes, Skips, Tries, Waits, Forgets, Begins, Repeats, Follows, Takes, IsAcked, Gives, GivesStatus, Asks, IsReplied, IsPlugAnswered, IsPlugReadied, Flows, Breaks, Idles, came_by, turn_by}
use Rattle.end_laws.proofs.TurnsBeside.{begins, begun_beside, flows, follows, gone_is, unit_begun}
use Rattle.end_laws.proofs.TurnsOneTurn.{event_is}
use Rattle.end_laws.proofs.ControllerTurns.{event_goes}

-- ---- the time that is left

-- A state that may still last this many units: at most its patience, and at least one if it has a patience.
abbrev IsTimed : ControllerOptions → State → ℕ → Type 0
IsTimed options phase left = (left ≤ patience_in options phase) × (patience_in options phase ≢ 0 → 1 ≤ left)

positive : (n : ℕ) → n ≢ 0 → 1 ≤ n
positive zero some = absurd (some refl)
positive (suc n) some = omega arith

begun : (patience : ℕ) → (patience ≤ patience) × (patience ≢ 0 → 1 ≤ patience)
begun patience = (omega arith, λ some. positive patience some)

-- Without a patience nothing is left.
unlimited : (zero ≤ zero) × (zero ≢ zero → 1 ≤ zero)
unlimited = begun zero

writing_patience : (options : ControllerOptions) (phase : State) → is_writing phase ≡ true → patience_in options phase ≡ options.patience
writing_patience options Writing e = refl
writing_patience options phase e = absurd (false≢true e)

-- A state that is entered has its patience, and the next Write the time that is left.
entered : (options : ControllerOptions) (left : ℕ) (before next : State) → IsTimed options before left → IsTimed options next (left_in options left before next)
entered options left before next is = by (is_writing before) (is_writing next) refl refl
  where
    by : (b c : Bool) → is_writing before ≡ b → is_writing next ≡ c → IsTimed options next (if b && c then left else patience_in options next)
    by true true e f = subst (λ (p : ℕ). (left ≤ p) × (p ≢ 0 → 1 ≤ left)) (writing_patience options before e ∙ sym (writing_patience options next f)) is
    by true false e f = begun (patience_in options next)
    by false c e f = begun (patience_in options next)

ended_none : (options : ControllerOptions) (phase : State) → is_limited phase ≡ false → patience_in options phase ≡ 0
ended_none options Looking none = refl
ended_none options Exchanging none = refl
ended_none options (Ended cause) none = refl
ended_none options phase none = absurd (false≢true (sym none))

-- A state with a patience is one of those that have a limit.
limited_of : (options : ControllerOptions) (phase : State) → patience_in options phase ≢ 0 → is_limited phase ≡ true
limited_of options phase some = by (is_limited phase) refl
  where
    by : (b : Bool) → is_limited phase ≡ b → is_limited phase ≡ true
    by true e = e
    by false e = absurd (some (ended_none options phase e))

-- ---- what is active in each state

connecting_is : (plan : Parts) (phase : State) (asked : Option Request) → IsInStep plan phase asked → asked ≡ Some asks.Connect → phase ≡ Connecting
connecting_is plan Looking asked is e = absurd cc
connecting_is plan Addressing asked is e = absurd cc
connecting_is plan Connecting asked is e = refl
connecting_is plan Writing asked is e = absurd (not_write is.1 (sym e ∙ is.3))
  where
    not_write : (tries : Option ℕ) → Some asks.Connect ≡ Some (write_after is.0 tries) → ⊥
    not_write None f = absurd cc
    not_write (Some tries) f = absurd cc
connecting_is plan Ending asked is e = absurd (not_end is.0 (sym e ∙ is.1))
  where
    not_end : (tries : Option ℕ) → Some asks.Connect ≡ Some (end_after tries) → ⊥
    not_end None f = absurd cc
    not_end (Some tries) f = absurd cc
connecting_is plan Waiting asked is e = absurd cc
connecting_is plan Exchanging asked is e = absurd cc
connecting_is plan (Ended cause) asked (inl is) e = absurd cc
connecting_is plan (Ended cause) asked (inr is) e = let there = is.1 in absurd cc

-- The phase to which an active request belongs: a Write, PrmEnd, or another one.
abbrev phase_of : Request → State
phase_of (asks.Write number) = Writing
phase_of (asks.WriteAfter number tries) = Writing
phase_of asks.PrmEnd = Ending
phase_of (asks.PrmEndAfter tries) = Ending
phase_of request = Connecting

write_phase : (number : ℕ) (tries : Option ℕ) → phase_of (write_after number tries) ≡ Writing
write_phase number None = refl
write_phase number (Some tries) = refl

end_phase : (tries : Option ℕ) → phase_of (end_after tries) ≡ Ending
end_phase None = refl
end_phase (Some tries) = refl

-- Requests of two phases are two requests.
same_phase : (asked : Option Request) (one other : Request) → asked ≡ Some one → asked ≡ Some other → phase_of one ≡ phase_of other
same_phase asked one other is e = ap phase_of (same (sym is ∙ e))
  where
    same : Some one ≡ Some other → one ≡ other
    same f = cc

no_connecting : {P : Type 0} (phase : State) → phase ≡ Connecting → (phase ≡ Writing) ⊎ (phase ≡ Ending) → P
no_connecting phase is (inl e) = absurd cc
no_connecting phase is (inr e) = absurd cc

writing_is : (plan : Parts) (phase : State) (asked : Option Request) (number : ℕ) (tries : Option ℕ) → IsInStep plan phase asked → asked ≡ Some (write_after number tries)
    → phase ≡ Writing
writing_is plan phase asked number tries is e = by_phase phase is
  where
    never : (one : Request) → asked ≡ Some one → phase_of one ≡ Connecting → ⊥
    never one stood other = no_connecting (phase_of one) other (inl (same_phase asked one (write_after number tries) stood e ∙ write_phase number tries))

    none : None ≡ Some (write_after number tries) → ⊥
    none f = cc

    not_ending : (p : State) → p ≡ Ending → p ≡ Writing → ⊥
    not_ending p one other = absurd cc

    by_phase : (now : State) → IsInStep plan now asked → now ≡ Writing
    by_phase Looking stood = absurd (never asks.Identify stood refl)
    by_phase Addressing stood = absurd (never asks.Address stood refl)
    by_phase Connecting stood = absurd (never asks.Connect stood refl)
    by_phase Writing stood = refl
    by_phase Ending stood =
        absurd (not_ending (phase_of (end_after stood.0)) (end_phase stood.0) (same_phase asked (end_after stood.0) (write_after number tries) stood.1 e ∙ write_phase number tries))
    by_phase Waiting stood = absurd (none (sym stood ∙ e))
    by_phase Exchanging stood = absurd (none (sym stood ∙ e))
    by_phase (Ended cause) (inl stood) = absurd (none (sym stood ∙ e))
    by_phase (Ended cause) (inr stood) = absurd (never (asks.Release stood.0) stood.1 refl)

ending_is : (plan : Parts) (phase : State) (asked : Option Request) (tries : Option ℕ) → IsInStep plan phase asked → asked ≡ Some (end_after tries) → phase ≡ Ending
ending_is plan phase asked tries is e = by_phase phase is
  where
    never : (one : Request) → asked ≡ Some one → phase_of one ≡ Connecting → ⊥
    never one stood other = no_connecting (phase_of one) other (inr (same_phase asked one (end_after tries) stood e ∙ end_phase tries))

    none : None ≡ Some (end_after tries) → ⊥
    none f = cc

    not_writing : (p : State) → p ≡ Writing → p ≡ Ending → ⊥
    not_writing p one other = absurd cc

    by_phase : (now : State) → IsInStep plan now asked → now ≡ Ending
    by_phase Looking stood = absurd (never asks.Identify stood refl)
    by_phase Addressing stood = absurd (never asks.Address stood refl)
    by_phase Connecting stood = absurd (never asks.Connect stood refl)
    by_phase Writing stood =
        absurd (not_writing (phase_of (write_after stood.0 stood.1)) (write_phase stood.0 stood.1)
        (same_phase asked (write_after stood.0 stood.1) (end_after tries) stood.3 e ∙ end_phase tries))
    by_phase Ending stood = refl
    by_phase Waiting stood = absurd (none (sym stood ∙ e))
    by_phase Exchanging stood = absurd (none (sym stood ∙ e))
    by_phase (Ended cause) (inl stood) = absurd (none (sym stood ∙ e))
    by_phase (Ended cause) (inr stood) = absurd (never (asks.Release stood.0) stood.1 refl)

not_connecting : (request : Request) → phase_for request ≡ Connecting → ⊥
not_connecting (asks.Write number) e = cc
not_connecting asks.Identify e = cc
not_connecting asks.Address e = cc
not_connecting asks.Connect e = cc
not_connecting asks.PrmEnd e = cc
not_connecting (asks.Release sequence) e = cc
not_connecting (asks.WriteAfter number tries) e = cc
not_connecting (asks.PrmEndAfter tries) e = cc

not_sought : (phase : State) → Connecting ≡ phase → (phase ≡ Looking) ⊎ (phase ≡ Addressing) → ⊥
not_sought phase e (inl is) = absurd cc
not_sought phase e (inr is) = absurd cc

not_looking : (phase : State) → Addressing ≡ phase → phase ≡ Looking → ⊥
not_looking phase e is = absurd cc

not_ending : (phase : State) → Waiting ≡ phase → phase ≡ Ending → ⊥
not_ending phase e is = absurd cc

-- ---- alarms change neither the phase nor the time that is left

abbrev IsAlike : Live → Live → Type 0
IsAlike live after = (after.phase ≡ live.phase) × (after.left ≡ live.left)

end_alike : (live : Live) (priority : Priority) (end : ControllerEnd) → IsAlike live (with_end live priority end)
end_alike live High end = (refl, refl)
end_alike live Low end = (refl, refl)

keeping_alike : (live : Live) (priority : Priority) (alarm : AlarmNotification) (user_structure : Option ℕ) → IsAlike live (keeping live priority alarm user_structure)
keeping_alike live High alarm user_structure = (refl, refl)
keeping_alike live Low alarm user_structure = (refl, refl)

alike_on : (live next after : Live) → IsAlike live next → IsAlike next after → IsAlike live after
alike_on live next after one other = (other.0 ∙ one.0, other.1 ∙ one.1)

confirming_alike : (live : Live) (report : Report) → IsAlike live (confirming live report)
confirming_alike live report =
    let acked = acking live report.priority (ack_of report.notification) in
    let kept = keeping acked report.priority (kept_alarm report.notification) report.user_structure in
    alike_on live acked kept (end_alike live report.priority (confirmed (end_of live report.priority) (ack_of report.notification)))
    (keeping_alike acked report.priority (kept_alarm report.notification) report.user_structure)

taken_alike : (live : Live) (report : Report) (as_what : Taken) → IsAlike live (taken live report as_what).live
taken_alike live report New = confirming_alike live report
taken_alike live report Again = (refl, refl)
taken_alike live report Refused = (refl, refl)

-- Nor does the turn of a place that begins.
beside_alike : (live next after : Live) → IsBeside next after → IsAlike live next → IsAlike live after
beside_alike live next after is one = alike_on live next after one (ap (λ (l : Live). l.phase) is, ap (λ (l : Live). l.left) is)

follows_alike : (setup : Setup) (live : Live) (turn after : Turn) → MayFollow setup turn after → IsAlike live turn.live → IsAlike live after.live
follows_alike setup live turn after (inl e) one = subst (λ (t : Turn). IsAlike live t.live) (sym e) one
follows_alike setup live turn after (inr followed) one = beside_alike live turn.live after.live followed.begun.beside one

-- ---- a turn that is not that of a unit

module _ (setup : Setup) (live : Live) (timed : IsTimed setup.options live.phase live.left) where
  -- The time that is left stays in its bounds, and does not grow in the same state.
  record Lasts (turn : Turn) : Type 0 where
    timed_on : IsTimed setup.options turn.live.phase turn.live.left
    same : turn.live.phase ≡ live.phase → turn.live.left ≤ live.left

  alike_lasts : (after : Live) (sent : List Sent) → IsAlike live after → Lasts (record { live = after; sent = sent })
  alike_lasts after sent (phase, left) = record {
    timed_on = subst (λ (p : State). IsTimed setup.options p after.left) (sym phase) (subst (λ (l : ℕ). IsTimed setup.options live.phase l) (sym left) timed);
    same = λ e. omega (arith, left);
  }

  after_lasts : (turn : Turn) → IsAlike live turn.live → Lasts (after_turn setup (can_begin live) turn)
  after_lasts turn is =
      let after = after_turn setup (can_begin live) turn in
      alike_lasts after.live after.sent (follows_alike setup live turn after (follows setup (can_begin live) turn) is)

  module _ (came : Came) (other : came ≡ Passes → ⊥) (steady : IsSteady setup.plan live) where
    -- The next Write, or PrmEnd.
    writes_on : (number : ℕ) (tries : Option ℕ) (next : Request) → live.asked ≡ Some (write_after number tries) → phase_for next ≡ live.phase
        → left_in setup.options live.left live.phase (phase_for next) ≤ live.left
    writes_on number tries next stood e =
        let now : live.phase ≡ Writing = writing_is setup.plan live.phase live.asked number tries steady.asked stood in
        let is : left_in setup.options live.left live.phase (phase_for next) ≡ live.left =
        ap (λ (p : State). left_in setup.options live.left p (phase_for next)) now ∙ ap (λ (p : State). left_in setup.options live.left Writing p) (e ∙ now) in
        omega (arith, is)

    kind_lasts : (kind : Kind) → IsKind setup live came kind → Lasts (turn_by setup live kind)
    kind_lasts Rests holds = alike_lasts live [] (refl, refl)
    kind_lasts (Connects source) holds =
        record { timed_on = entered setup.options live.left live.phase Connecting timed; same = λ e. absurd (not_sought live.phase e holds.seeking) }
    kind_lasts (Addresses source) holds =
        record { timed_on = entered setup.options live.left live.phase Addressing timed; same = λ e. absurd (not_looking live.phase e holds.1) }
    kind_lasts (Ends cause refusal refused units) holds = record { timed_on = unlimited; same = λ e. omega arith }
    kind_lasts (Releases cause refusal refused units) holds = record { timed_on = unlimited; same = λ e. omega arith }
    kind_lasts (Relates places chosen) holds =
        let next = writing_from setup.plan 0 in
        let now : live.phase ≡ Connecting = connecting_is setup.plan live.phase live.asked steady.asked holds.0.stood in
        record { timed_on = entered setup.options live.left live.phase (phase_for next) timed; same = λ e. absurd (not_connecting next (e ∙ now)) }
    kind_lasts (Writes number tries) holds =
        let next = behind_write setup.plan number tries in
        record { timed_on = entered setup.options live.left live.phase (phase_for next) timed; same = λ e. writes_on number tries next holds.0.stood e }
    kind_lasts (Skips number tries refused status) holds =
        let next = behind_write setup.plan number tries in
        record { timed_on = entered setup.options live.left live.phase (phase_for next) timed; same = λ e. writes_on number tries next holds.stood e }
    kind_lasts (Tries next status) holds = alike_lasts _ [] (refl, refl)
    kind_lasts (Waits tries) holds =
        let now : live.phase ≡ Ending = ending_is setup.plan live.phase live.asked tries steady.asked holds.stood in
        record { timed_on = begun setup.options.waiting_patience; same = λ e. absurd (not_ending live.phase e now) }
    kind_lasts Forgets holds = alike_lasts _ [] (refl, refl)
    kind_lasts (Begins caller call block) holds = record { timed_on = unlimited; same = λ e. omega arith }
    kind_lasts (Repeats caller call block) holds = alike_lasts live _ (refl, refl)
    kind_lasts (Follows source frame_id body) holds = alike_lasts _ [] (refl, refl)
    kind_lasts (Takes number report) holds =
        let behind = behind_data live report.priority number in
        let as_what = taken_as (end_of live report.priority).seen number in
        after_lasts (taken behind report as_what)
        (alike_on live behind (taken behind report as_what).live (end_alike live report.priority (with_data (end_of live report.priority) number)) (taken_alike behind report as_what))
    kind_lasts (IsAcked priority number) holds = alike_lasts (behind_ack live priority number) [] (end_alike live priority (with_ack (end_of live priority) number))
    kind_lasts (Gives slot subslot value) holds = alike_lasts _ [] (refl, refl)
    kind_lasts (GivesStatus slot subslot is_good) holds = alike_lasts _ [] (refl, refl)
    kind_lasts (Asks request octets) holds = alike_lasts _ _ (refl, refl)
    kind_lasts (IsReplied refusal access) holds = after_lasts (stays (record live { refusal = refusal; access = access })) (refl, refl)
    kind_lasts (IsPlugAnswered refusal refused waited places access) holds =
        after_lasts (asks_next (record live { refusal = refusal; refused_record = refused; waited = waited; places = places; access = access })) (refl, refl)
    kind_lasts (IsPlugReadied caller call block) holds =
        after_lasts (record { live = plug_readied live block.alarm_sequence_number; sent = Agrees caller (plug_answer call block) ∷ [] }) (refl, refl)
    kind_lasts Flows holds = absurd (other holds.0)
    kind_lasts (Breaks reason) holds = absurd (other holds.0)
    kind_lasts Idles holds = absurd (other holds.0)

  -- ---- a unit

  -- The time that is left stays in its bounds, and a unit of it passes in the same state.
  record Passes_on (turn : Turn) : Type 0 where
    timed_on : IsTimed setup.options turn.live.phase turn.live.left
    same : patience_of (record { setup = setup; live = live }) ≢ 0 → turn.live.phase ≡ live.phase → turn.live.left + 1 ≤ live.left

  -- An end.
  over_on : (turn : Turn) → is_limited turn.live.phase ≡ false → turn.live.left ≡ 0 → Passes_on turn
  over_on turn over none = record {
    timed_on =
        let gone : patience_in setup.options turn.live.phase ≡ 0 = ended_none setup.options turn.live.phase over in
        (omega (arith, none), λ some. absurd (some gone));
    same = λ some e. absurd (some (ended_none setup.options live.phase (ap (λ (p : State). is_limited p) (sym e) ∙ over)));
  }

  not_last : (limited : Bool) → limited ≡ true → (limited && live.left == 1) ≡ false → (live.left == 1) ≡ false
  not_last true e none = none
  not_last false e none = absurd (false≢true e)

  -- A unit later in the same state, which does not end.
  later_on : (after : Live) (sent : List Sent) → is_spent live ≡ false → IsAlike (later live) after → Passes_on (record { live = after; sent = sent })
  later_on after sent unspent (phase, left) = record {
    timed_on =
        subst (λ (p : State). IsTimed setup.options p after.left) (sym phase)
        (subst (λ (l : ℕ). IsTimed setup.options live.phase l) (sym left) (omega (arith, timed.0), λ some. goes_down some));
    same = λ some e. let least : 1 ≤ live.left = timed.1 some in omega (arith, left, least);
  }
    where
      goes_down : patience_in setup.options live.phase ≢ 0 → 1 ≤ live.left - 1
      goes_down some =
          let least : 1 ≤ live.left = timed.1 some in
          let more : live.left ≢ 1 = eqb-false live.left 1 (not_last (is_limited live.phase) (limited_of setup.options live.phase some) unspent) in
          omega (arith, least, positive (live.left - 1) (λ e. more (omega (arith, e, least))))

  quits_on : (phase : State) → is_limited phase ≡ true → Passes_on (quit setup NoProgress (later live) phase)
  quits_on Looking limited = absurd (false≢true limited)
  quits_on Exchanging limited = absurd (false≢true limited)
  quits_on (Ended cause) limited = absurd (false≢true limited)
  quits_on Addressing limited = over_on _ refl refl
  quits_on phase limited = over_on _ refl refl

  flow_alike : IsAlike (later live) (flow_begun setup live)
  flow_alike = beside_alike (later live) (flow_later live) (flow_begun setup live) (begun_beside setup (flow_later live) (flow_begun setup live) (flows setup live)) (refl, refl)

  flows_on : (high low : Due) (is_request : Bool) (tick : Brought) (ending : Option Abort) → is_spent live ≡ false
      → Passes_on (flowed (flow_begun setup live) high low is_request tick ending)
  flows_on high low is_request tick (Some reason) unspent = over_on _ refl refl
  flows_on high low is_request tick None unspent = later_on (flow_begun setup live) _ unspent flow_alike

  goes_on_by : (stands : Bool) → is_spent live ≡ false
      → Passes_on (if stands then flowed (flow_begun setup live) (due live.alarms.sending) (due live.low_alarms.sending) (is_again live) (brought live) (brought live).ending
      else record { live = unit_begun setup live; sent = where_due (is_again live) (requests_of live.device live.asked) })
  goes_on_by true unspent = flows_on (due live.alarms.sending) (due live.low_alarms.sending) (is_again live) (brought live) (brought live).ending unspent
  goes_on_by false unspent =
      later_on (unit_begun setup live) _ unspent
      (beside_alike (later live) (later live) (unit_begun setup live) (begun_beside setup (later live) (unit_begun setup live) (begins setup (is_again live) (later live))) (refl, refl))

  ticks_by : (spent : Bool) → is_spent live ≡ spent → Passes_on (if spent then quit setup NoProgress (later live) live.phase else gone_on (unit_begun setup live) (is_again live))
  ticks_by true e = quits_on live.phase (and_parts (is_limited live.phase) (live.left == 1) e).0
  ticks_by false e = subst (λ (t : Turn). Passes_on t) (sym (gone_is setup live)) (goes_on_by live.stands e)

  ticks_on : Passes_on (ticked setup live)
  ticks_on = ticks_by (is_spent live) refl

-- ---- an event

abbrev one_if : Bool → ℕ
one_if true = 1
one_if false = 0

-- The state is steady, and the time that is left in its bounds.
record IsSound (controller : Controlling) : Type 0 where
  timed : IsTimed controller.setup.options controller.live.phase controller.live.left
  steady : IsSteady controller.setup.plan controller.live

record GoesOn (setup : Setup) (live : Live) (is_unit_now : Bool) (turn : Turn) : Type 0 where
  timed : IsTimed setup.options turn.live.phase turn.live.left
  same : patience_in setup.options live.phase ≢ 0 → turn.live.phase ≡ live.phase → turn.live.left + one_if is_unit_now ≤ live.left

other_goes : (setup : Setup) (live : Live) (event : Event) → (came_by setup event ≡ Passes → ⊥) → IsTimed setup.options live.phase live.left → IsSteady setup.plan live
    → GoesOn setup live false (turn_of setup live event)
other_goes setup live event other timed steady =
    let turn = event_is setup live event in
    let lasts = subst (λ (t : Turn). Lasts setup live timed t) (sym turn.is) (kind_lasts setup live timed (came_by setup event) other steady turn.kind turn.holds) in
    record { timed = lasts.timed_on; same = λ some e. let most = lasts.same e in omega (arith, most) }

event_on : (setup : Setup) (live : Live) (event : Event) → IsTimed setup.options live.phase live.left → IsSteady setup.plan live
    → GoesOn setup live (is_unit event) (turn_of setup live event)
event_on setup live Tick timed steady = let passes = ticks_on setup live timed in record { timed = passes.timed_on; same = passes.same }
event_on setup live (Frame bytes) timed steady = other_goes setup live (Frame bytes) (λ e. cc) timed steady
event_on setup live (Give slot subslot value) timed steady = other_goes setup live (Give slot subslot value) (λ e. cc) timed steady
event_on setup live (Status slot subslot is_good) timed steady = other_goes setup live (Status slot subslot is_good) (λ e. cc) timed steady
event_on setup live (Read slot subslot index) timed steady = other_goes setup live (Read slot subslot index) (λ e. cc) timed steady
event_on setup live (Write slot subslot index octets) timed steady = other_goes setup live (Write slot subslot index octets) (λ e. cc) timed steady
event_on setup live Stop timed steady = other_goes setup live Stop (λ e. cc) timed steady

-- ---- any events

sound_on : (controller : Controlling) (event : Event) → IsSound controller → IsSound (step_of controller event).controller
unfolding step_of
sound_on controller event is = record {
  timed = (event_on controller.setup controller.live event is.timed is.steady).timed;
  steady = (event_goes controller.setup controller.live event (event_is controller.setup controller.live event) is.steady).in_step;
}

sound_all : (events : List Event) (controller : Controlling) → IsSound controller → IsSound (behind_all events controller)
sound_all [] controller is = is
sound_all (event ∷ events) controller is = sound_all events (step_of controller event).controller (sound_on controller event is)

first_sound : (plan : Parts) (ar activity : List ℕ) (options : ControllerOptions) → IsSound (fresh_with plan ar activity options)
first_sound plan ar activity options = record { timed = unlimited; steady = record { asked = refl; waiting = refl; plug = refl; calls = (refl, omega arith) } }

reached_sound : (controller : Controlling) → IsReached controller → IsSound controller
reached_sound controller r =
    subst (λ (c : Controlling). IsSound c) (sym r.made) (sound_all r.events (fresh_with r.plan r.ar r.activity r.options) (first_sound r.plan r.ar r.activity r.options))

setup_is : (controller : Controlling) (event : Event) → (step_of controller event).controller.setup ≡ controller.setup
unfolding step_of
setup_is controller event = refl

passes_in : (controller : Controlling) (event : Event) → IsSound controller → patience_of controller ≢ 0 → (step_of controller event).controller.live.phase ≡ controller.live.phase
    → (step_of controller event).controller.live.left + one_if (is_unit event) ≤ controller.live.left
unfolding step_of
passes_in controller event is some e = (event_on controller.setup controller.live event is.timed is.steady).same some e

one_more : (is_one : Bool) (count next left : ℕ) → count < next → next + one_if is_one ≤ left → (if is_one then suc count else count) < left
one_more true count next left below drops = omega (arith, below, drops)
one_more false count next left below drops = omega (arith, below, drops)

lasts_in : (events : List Event) (controller : Controlling) (options : ControllerOptions) (state : State) → IsSound controller → controller.setup.options ≡ options → controller.live.phase ≡ state
    → patience_in options state ≢ 0 → StaysIn state events controller → units_in events < controller.live.left
lasts_in [] controller options state is same now some stays_in =
    let least : 1 ≤ controller.live.left =
    is.timed.1 (λ e. some (ap (λ (o : ControllerOptions). patience_in o state) (sym same) ∙ (ap (λ (p : State). patience_in controller.setup.options p) (sym now) ∙ e))) in
    omega (arith, least)
lasts_in (event ∷ events) controller options state is same now some stays_in =
    let next = (step_of controller event).controller in
    let below : units_in events < next.live.left =
    lasts_in events next options state (sound_on controller event is) (ap (λ (s : Setup). s.options) (setup_is controller event) ∙ same) stays_in.0 some stays_in.1 in
    one_more (is_unit event) (units_in events) next.live.left controller.live.left below
    (passes_in controller event is
    (λ e. some (ap (λ (o : ControllerOptions). patience_in o state) (sym same) ∙ (ap (λ (p : State). patience_in controller.setup.options p) (sym now) ∙ e)))
    (stays_in.0 ∙ sym now))

-- ---- the law

pub has_time_left : HasTimeLeft
has_time_left controller r some = let is = reached_sound controller r in (is.timed.1 some, is.timed.0)

pub none_lasts_longer : NoneLastsLonger
none_lasts_longer controller events r some stays_in =
    let is = reached_sound controller r in
    let below : units_in events < controller.live.left = lasts_in events controller controller.setup.options controller.live.phase is refl refl some stays_in in
    (below, omega (arith, below, is.timed.0))

abbrev IsEnding : Setup → State → Turn → Type 0
IsEnding setup phase turn =
    (turn.live.phase ≡ Ended NoProgress) × IsInformed phase (map (bytes_of setup) turn.sent) (release_in setup turn.live.device turn.live.asked)

quit_ends : (setup : Setup) (live : Live) (phase : State) → is_limited phase ≡ true → IsEnding setup phase (quit setup NoProgress live phase)
quit_ends setup live Looking limited = absurd (false≢true limited)
quit_ends setup live Exchanging limited = absurd (false≢true limited)
quit_ends setup live (Ended cause) limited = absurd (false≢true limited)
quit_ends setup live Addressing limited = (refl, (refl, refl))
quit_ends setup live phase limited = (refl, (_, refl, refl))

spent_is : (limited : Bool) (left : ℕ) → limited ≡ true → left ≡ 1 → (limited && left == 1) ≡ true
spent_is limited left one other = rw (one, other) refl

pub ends_in_time : EndsInTime
unfolding step_of
ends_in_time controller limited last =
    let live = controller.live in
    let spent : is_spent live ≡ true = spent_is (is_limited live.phase) live.left limited last in
    let turn : ticked controller.setup live ≡ quit controller.setup NoProgress (later live) live.phase =
    ap (λ (b : Bool). if b then quit controller.setup NoProgress (later live) live.phase else gone_on (unit_begun controller.setup live) (is_again live)) spent in
    subst (λ (t : Turn). IsEnding controller.setup live.phase t) (sym turn) (quit_ends controller.setup (later live) live.phase limited)
