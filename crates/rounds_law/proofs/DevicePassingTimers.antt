-- What a unit of time changes in a relation, and what it does not change.
use Rattle.std.proofs.Common.{◌≡◌, ◌+◌, ◌*◌, ◌%◌, ◌≤◌, ◌<◌, ◌==◌, ◌&&◌, inl, inr, ℕ, suc, Bool}
use Rattle.std.proofs.Common.{true, false, cond, nat_le, Option, Some, None, refl, sym, ap, ap₂, subst, ◌∙◌, arith}
use Rattle.std.specs.Prelude.{min, not}
use Rattle.std.proofs.lemmas.Bool.{cases_Bool, ne_eqb}
use Rattle.std.proofs.lemmas.Bool.Decides.{nat_tests}
use Rattle.pn_alarms.specs.declared.abort.Abort.{Abort}
use Rattle.pn_alarms.specs.declared.repeats.Due.{Due}
use Rattle.pn_alarms.specs.declared.repeats.Due.TheVariants.{Again, Nothing, Spent}
use Rattle.pn_alarms.specs.Sending.{Sending, due, due_behind, either_due, waiting_behind}
use Rattle.cyclic_data.specs.Timing.{Hearing, held_on}
use Rattle.cyclic_data.specs.exchange.Cyclic.{Cyclic}
use Rattle.cyclic_data.specs.exchange.Units.{ending_by, ending_of as cyclic_ending, tick_by, tick_of as cyclic_tick}
use Rattle.connects.specs.requests.Request.{Request}
use Rattle.expected_places.specs.Calls.{is_again as is_call_again}
use Rattle.relations.specs.declared.phase.Phase.{Phase}
use Rattle.relations.specs.declared.phase.Phase.TheVariants.{Awaiting, Exchanging as in_exchange, Preparing, Started}
use Rattle.relations.specs.exchange.Flow.{Flow}
use Rattle.relations.specs.exchange.Units.{alarm_due, tick_of}
use Rattle.relations.specs.RelationState.{RelationState, is_awaiting}
use Rattle.relations.specs.Timers.{ending_of, inactive_later, is_again, is_plug_again, is_timed, limit_of, waited_later}
use Rattle.controller_messages.specs.declared.setup.Setup.{Setup}
use Rattle.both_ends.specs.startup.request.Request.{request_for}
use Rattle.rounds_law.specs.Path.{IsCalm, WaitedFew, WaitsFew}

-- ---- before data is exchanged

-- Nothing is due of alarms of which none waits for its ACK.
resting : (sending : Sending) → sending.waiting ≡ None → due sending ≡ Nothing
resting sending none = ap (λ (w : Option ℕ). due_behind sending w) none

none_due : (flow : Flow) → IsCalm flow → alarm_due flow ≡ Nothing
none_due flow calm =
    ap₂ (λ (one other : Due). either_due one other) (resting flow.alarms.sender.sending calm.high) (resting flow.low.alarms.sender.sending calm.low)

no_alarm_by : (cyclic : Cyclic) (ending : Option Abort) → (tick_by cyclic Nothing ending).is_alarm ≡ false
no_alarm_by cyclic (Some reason) = refl
no_alarm_by cyclic None = refl

pub no_alarm : (flow : Flow) → IsCalm flow → (tick_of flow).is_alarm ≡ false
no_alarm flow calm =
    ap (λ (alarm : Due). (cyclic_tick flow.cyclic alarm).is_alarm) (none_due flow calm)
    ∙ no_alarm_by flow.cyclic (cyclic_ending flow.cyclic Nothing)

-- The activity timer of the plan's relation has 1,920,000 units.
not_over : (limit inactive : ℕ) → inactive + 1 < limit → nat_le limit (inactive + 1) ≡ false
not_over limit inactive h = grind (arith, nat_tests)

timed_stays : (link : RelationState) → is_timed link.phase ≡ true → link.inactive + 1 < limit_of link → ending_of link ≡ None
timed_stays link timed h = rw timed (rw (not_over (limit_of link) link.inactive h) refl)

pub stays_before : (setup : Setup) (link : RelationState) (phase : Phase) (age : ℕ) → link.request ≡ request_for setup.plan setup.ar → link.phase ≡ phase
    → is_timed phase ≡ true → link.inactive ≤ age → age < 31000 → ending_of link ≡ None
stays_before setup link phase age request same timed active few =
    let limit : limit_of link ≡ 600 * 3200 = ap (λ (r : Request). r.ar.timeout_factor * 3200) request in
    timed_stays link (ap is_timed same ∙ timed) (omega (arith, limit, active, few))

-- ApplicationReady is not sent again before a second is over.
not_again_in : (phase : Phase) (waited age : ℕ) → WaitedFew phase age waited → age < 31000 → (is_awaiting phase && (waited + 1 == 32000)) ≡ false
not_again_in Started waited age few below = refl
not_again_in Preparing waited age few below = refl
not_again_in Awaiting waited age few below = ne_eqb (waited + 1) 32000 (λ e. omega (arith, e, few, below))
not_again_in in_exchange waited age few below = refl

pub not_again : (link : RelationState) (phase : Phase) (age : ℕ) → link.phase ≡ phase → WaitedFew phase age link.waited → age < 31000 → is_again link ≡ false
not_again link phase age same few below =
    ap (λ (p : Phase). is_awaiting p && (link.waited + 1 == 32000)) same ∙ not_again_in phase link.waited age few below

-- Nor is that of a plug before data is exchanged.
pub no_plug : (link : RelationState) → is_timed link.phase ≡ true → is_plug_again link ≡ false
no_plug link timed = ap (λ (b : Bool). not b && is_call_again link.plugs.calls) timed

waited_in : (phase : Phase) (again : Bool) (waited age : ℕ) → WaitedFew phase age waited
    → WaitedFew phase (suc age) (cond again 0 (cond (is_awaiting phase) (waited + 1) waited))
waited_in Started again waited age few = tt
waited_in Preparing again waited age few = tt
waited_in Awaiting true waited age few = omega arith
waited_in Awaiting false waited age few = omega (arith, few)
waited_in in_exchange again waited age few = tt

pub waited_more : (link : RelationState) (phase : Phase) (age : ℕ) → link.phase ≡ phase → WaitedFew phase age link.waited
    → WaitedFew phase (suc age) (waited_later link)
waited_more link phase age same few =
    subst (λ (p : Phase). WaitedFew phase (suc age) (cond (is_awaiting p && (link.waited + 1 == 32000)) 0 (cond (is_awaiting p) (link.waited + 1) link.waited)))
    (sym same)
    (waited_in phase (is_awaiting phase && (link.waited + 1 == 32000)) link.waited age few)

one_more : (counts : Bool) (n age : ℕ) → n ≤ age → cond counts (n + 1) n ≤ suc age
one_more true n age few = omega (arith, few)
one_more false n age few = omega (arith, few)

pub active_more : (link : RelationState) (age : ℕ) → link.inactive ≤ age → inactive_later link ≤ suc age
active_more link age few = one_more (is_timed link.phase) link.inactive age few

pub calm_later : (sending : Sending) → sending.waiting ≡ None → waiting_behind sending sending.waiting ≡ None
calm_later sending none = ap (λ (w : Option ℕ). waiting_behind sending w) none

pub limit_later : (begun : Bool) (hearing : Hearing) → (cond begun (held_on hearing) hearing).limit ≡ hearing.limit
limit_later true hearing = refl
limit_later false hearing = refl

-- ---- while data is exchanged

pub tick_ending : (cyclic : Cyclic) (alarm : Due) (ending : Option Abort) → (tick_by cyclic alarm ending).ending ≡ ending
tick_ending cyclic alarm (Some reason) = refl
tick_ending cyclic alarm None = refl

not_reached : (limit held : ℕ) → held + 1 < limit → (min limit (held + 1) == limit) ≡ false
not_reached limit held h = grind (arith, nat_tests)

and_false : (one other : Bool) → other ≡ false → (one && other) ≡ false
and_false true other e = e
and_false false other e = refl

not_silent : (cyclic : Cyclic) (alarm : Due) → cyclic.hearing.held + 1 < cyclic.hearing.limit → cyclic_ending cyclic alarm ≡ ending_by alarm
not_silent cyclic alarm h =
    let reached = min cyclic.hearing.limit (cyclic.hearing.held + 1) == cyclic.hearing.limit in
    rw (and_false cyclic.begun reached (not_reached cyclic.hearing.limit cyclic.hearing.held h)) refl

-- No alarm of low priority is given up.
ends_not : (again : Bool) → ending_by (cond again Again Nothing) ≡ None
ends_not true = refl
ends_not false = refl

not_spent : (sending : Sending) (waiting : Option ℕ) (age : ℕ) → WaitsFew age waiting → 3200 ≤ sending.limit → age < 3000
    → ending_by (due_behind sending waiting) ≡ None
not_spent sending None age few long below = refl
not_spent sending (Some units) age few long below =
    rw (ne_eqb (units + 1) sending.limit (λ e. omega (arith, e, few, long, below))) (ends_not ((units + 1) % sending.interval == 0))

second_ends : (other : Due) → ending_by (either_due Nothing other) ≡ ending_by other
second_ends Nothing = refl
second_ends Again = refl
second_ends Spent = refl

pub stays_later : (link : RelationState) (age hold : ℕ) → link.phase ≡ in_exchange → link.flow.cyclic.hearing.limit ≡ hold → link.flow.cyclic.hearing.held ≤ age
    → link.flow.alarms.sender.sending.waiting ≡ None → WaitsFew age link.flow.low.alarms.sender.sending.waiting
    → 3200 ≤ link.flow.low.alarms.sender.sending.limit → age + 2 ≤ hold → age < 3000 → ending_of link ≡ None
stays_later link age hold same limit held high low long holds below =
    let cyclic = link.flow.cyclic in
    let sending = link.flow.low.alarms.sender.sending in
    let alarm = alarm_due link.flow in
    rw same (tick_ending cyclic alarm (cyclic_ending cyclic alarm)
    ∙ (not_silent cyclic alarm (omega (arith, limit, held, holds))
    ∙ (ap (λ (d : Due). ending_by (either_due d (due sending))) (resting link.flow.alarms.sender.sending high)
    ∙ (second_ends (due sending) ∙ not_spent sending sending.waiting age low long below))))

pub held_more : (begun : Bool) (hearing : Hearing) (age : ℕ) → hearing.held ≤ age → (cond begun (held_on hearing) hearing).held ≤ suc age
held_more true hearing age few = omega (arith, few)
held_more false hearing age few = omega (arith, few)

pub waits_more : (sending : Sending) (waiting : Option ℕ) (age : ℕ) → WaitsFew age waiting → WaitsFew (suc age) (waiting_behind sending waiting)
waits_more sending None age few = tt
waits_more sending (Some units) age few =
    elim (cases_Bool (units + 1 == sending.limit)) [
      | inl t ↦ rw t tt
      | inr t ↦ rw t (omega (arith, few))
    ]
