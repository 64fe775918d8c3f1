-- Units of time while data is exchanged, one by one.
use Rattle.std.proofs.Common.{◌≡◌, ◌⊎◌, inl, inr, ◌+◌, ◌%◌, ◌<◌, ◌==◌, ℕ, zero, suc, true, false, refl, sym, ap, ◌∙◌, arith, Option, Some, None}
use Rattle.std.specs.Prelude.{min, option_map}
use Rattle.std.proofs.lemmas.Bool.{cases_Bool, ne_eqb, eq-eqb}
use Rattle.std.proofs.lemmas.Bool.Decides.{nat_tests}
use Rattle.pn_alarms.specs.declared.abort.Abort.{Abort}
use Rattle.pn_alarms.specs.declared.abort.Abort.TheVariants.{DataHold, Other}
use Rattle.pn_alarms.specs.Sending.{Sending, due_behind, either_due, waiting_behind}
use Rattle.relations.specs.exchange.Flow.{Flow}
use Rattle.pn_alarms.specs.declared.repeats.Due.{Due}
use Rattle.pn_alarms.specs.declared.repeats.Due.TheVariants.{Nothing, Again, Spent}
use Rattle.cyclic_data.specs.exchange.Cyclic.{Cyclic}
use Rattle.cyclic_data.specs.exchange.Units.{ending_by, tick_by}
use Rattle.relations.specs.exchange.Units.{alarm_due}
use Rattle.relations.specs.exchange.Units.{ending_of as exchange_ending}
use Rattle.relations.specs.declared.phase.Phase.TheVariants.{Exchanging}
use Rattle.relations.specs.declared.farewell.Farewell.{Farewell}
use Rattle.relations.specs.declared.phase.Phase.{Phase}
use Rattle.relations.specs.RelationState.{RelationState, phase_of}
use Rattle.relations.specs.Timers.{ending_of, unit_later, due_of}
use Rattle.relations.specs.Runs.{unit_over, units_over, ArePatientFor, EndsBehind, GivesUpBehind, IsPatientFor, IsHeldFor, IsGivenUp}
use Rattle.relations.proofs.Kept.{updated_on, updated_off, due_off, same_farewell}

-- A relation that exchanges data and heard nothing for this many units: it is the same except for its timers.
record IsOn (link : RelationState) (units : ℕ) (later : RelationState) : Type 0 where
  phase : later.phase ≡ Exchanging
  request : later.request ≡ link.request
  begun : later.flow.cyclic.begun ≡ true
  held : later.flow.cyclic.hearing.held ≡ link.flow.cyclic.hearing.held + units
  limit : later.flow.cyclic.hearing.limit ≡ link.flow.cyclic.hearing.limit
  patience : later.flow.alarms.sender.sending.limit ≡ link.flow.alarms.sender.sending.limit
  waiting : later.flow.alarms.sender.sending.waiting ≡ option_map (λ waited. waited + units) link.flow.alarms.sender.sending.waiting
  low_patience : later.flow.low.alarms.sender.sending.limit ≡ link.flow.low.alarms.sender.sending.limit
  low_waiting : later.flow.low.alarms.sender.sending.waiting ≡ option_map (λ waited. waited + units) link.flow.low.alarms.sender.sending.waiting
  last : later.flow.alarms.sender.sending.last ≡ link.flow.alarms.sender.sending.last
  seen : later.flow.alarms.seen ≡ link.flow.alarms.seen
  endpoint : later.flow.endpoint ≡ link.flow.endpoint

record StandsOn (link : RelationState) (units : ℕ) : Type 0 where
  later : RelationState
  is : units_over units (Some link) ≡ Some later
  same : IsOn link units later

-- ---- one unit

tick_ending : (cyclic : Cyclic) (alarm : Due) (ending : Option Abort) → (tick_by cyclic alarm ending).ending ≡ ending
tick_ending cyclic alarm (Some reason) = refl
tick_ending cyclic alarm None = refl

-- Only the exchange ends it.
ending_there : (link : RelationState) → link.phase ≡ Exchanging → ending_of link ≡ exchange_ending link.flow
ending_there link at = rw at (tick_ending link.flow.cyclic (alarm_due link.flow) (exchange_ending link.flow))

min_below : (limit held : ℕ) → held + 1 < limit → (min limit (held + 1) == limit) ≡ false
min_below limit held h = grind (arith, nat_tests)

min_at : (limit held : ℕ) → held + 1 ≡ limit → (min limit (held + 1) == limit) ≡ true
min_at limit held h = grind (arith, nat_tests)

heard_still : (flow : Flow) → flow.cyclic.begun ≡ true → flow.cyclic.hearing.held + 1 < flow.cyclic.hearing.limit → exchange_ending flow ≡ ending_by (alarm_due flow)
heard_still flow begun h = rw begun (rw (min_below flow.cyclic.hearing.limit flow.cyclic.hearing.held h) refl)

heard_no_more : (flow : Flow) → flow.cyclic.begun ≡ true → flow.cyclic.hearing.held + 1 ≡ flow.cyclic.hearing.limit → exchange_ending flow ≡ Some DataHold
heard_no_more flow begun h = rw begun (rw (min_at flow.cyclic.hearing.limit flow.cyclic.hearing.held h) refl)

-- An alarm that waits is not given up with the next unit.
abbrev IsPatient : Sending → Option ℕ → Type 0
IsPatient sending waiting = (waited : ℕ) → waiting ≡ Some waited → waited + 1 < sending.limit

unspent : (sending : Sending) (waiting : Option ℕ) → IsPatient sending waiting → ending_by (due_behind sending waiting) ≡ None
unspent sending None patient = refl
unspent sending (Some waited) patient =
    rw (ne_eqb (waited + 1) sending.limit (λ e. omega (arith, e, patient waited refl)))
    (elim (cases_Bool ((waited + 1) % sending.interval == 0)) [
      | inl t ↦ rw t refl
      | inr t ↦ rw t refl
    ])

waits_on : (sending : Sending) (waiting : Option ℕ) → IsPatient sending waiting → waiting_behind sending waiting ≡ option_map (λ waited. waited + 1) waiting
waits_on sending None patient = refl
waits_on sending (Some waited) patient = rw (ne_eqb (waited + 1) sending.limit (λ e. omega (arith, e, patient waited refl))) refl

spent : (sending : Sending) (waiting : Option ℕ) (waited : ℕ) → waiting ≡ Some waited → waited + 1 ≡ sending.limit → ending_by (due_behind sending waiting) ≡ Some Other
spent sending waiting waited is at = rw is (rw (eq-eqb (waited + 1) sending.limit at) refl)

-- ---- many

none_more : (waiting : Option ℕ) → waiting ≡ option_map (λ waited. waited + 0) waiting
none_more None = refl
none_more (Some waited) = ap (λ (n : ℕ). let o : Option ℕ = Some n in o) (omega arith)

one_more : (waiting : Option ℕ) (units : ℕ) → option_map (λ waited. waited + 1) (option_map (λ waited. waited + units) waiting) ≡ option_map (λ waited. waited + suc units) waiting
one_more None units = refl
one_more (Some waited) units = ap (λ (n : ℕ). let o : Option ℕ = Some n in o) (omega arith)

since : (waiting : Option ℕ) (units later : ℕ) → option_map (λ waited. waited + units) waiting ≡ Some later → (waited : ℕ) × ((waiting ≡ Some waited) × (later ≡ waited + units))
since (Some waited) units later e = (waited, (refl, cc))
since None units later e = absurd cc

patient_there : (sending later : Sending) (units : ℕ) → IsPatientFor (suc units) sending → later.limit ≡ sending.limit
    → later.waiting ≡ option_map (λ waited. waited + units) sending.waiting → IsPatient later later.waiting
patient_there sending later units patient patience waiting waited is =
    let before = since sending.waiting units waited (sym waiting ∙ is) in
    omega (arith, patience, before.1.1, patient before.0 before.1.0)

waiting_next : (sending later : Sending) (units : ℕ) → IsPatientFor (suc units) sending → later.limit ≡ sending.limit
    → later.waiting ≡ option_map (λ waited. waited + units) sending.waiting → waiting_behind later later.waiting ≡ option_map (λ waited. waited + suc units) sending.waiting
waiting_next sending later units patient patience waiting =
    waits_on later later.waiting (patient_there sending later units patient patience waiting)
    ∙ (ap (λ (o : Option ℕ). option_map (λ (n : ℕ). n + 1) o) waiting ∙ one_more sending.waiting units)

on_next : (link later : RelationState) (units : ℕ) → link.flow.cyclic.hearing.held + suc units < link.flow.cyclic.hearing.limit → ArePatientFor (suc units) link.flow
    → IsOn link units later → IsOn link (suc units) (unit_later later)
on_next link later units below patient same = rw same.begun (record {
  phase = same.phase;
  request = same.request;
  begun = refl;
  held = omega (arith, same.held, same.limit, below);
  limit = same.limit;
  patience = same.patience;
  waiting = waiting_next link.flow.alarms.sender.sending later.flow.alarms.sender.sending units patient.0 same.patience same.waiting;
  low_patience = same.low_patience;
  low_waiting = waiting_next link.flow.low.alarms.sender.sending later.flow.low.alarms.sender.sending units patient.1 same.low_patience same.low_waiting;
  last = same.last;
  seen = same.seen;
  endpoint = same.endpoint;
})

-- What is due of either priority.
either_ends_not : (one other : Due) → ending_by one ≡ None → ending_by other ≡ None → ending_by (either_due one other) ≡ None
either_ends_not Nothing Nothing a b = refl
either_ends_not Again Nothing a b = refl
either_ends_not Spent Nothing a b = a
either_ends_not Nothing Again a b = refl
either_ends_not Again Again a b = refl
either_ends_not Spent Again a b = a
either_ends_not Nothing Spent a b = b
either_ends_not Again Spent a b = b
either_ends_not Spent Spent a b = a

first_ends : (one other : Due) → ending_by one ≡ Some Other → ending_by (either_due one other) ≡ Some Other
first_ends Nothing other a = absurd (cc a)
first_ends Again other a = absurd (cc a)
first_ends Spent Nothing a = a
first_ends Spent Again a = a
first_ends Spent Spent a = a

second_ends : (one other : Due) → ending_by other ≡ Some Other → ending_by (either_due one other) ≡ Some Other
second_ends one Nothing a = absurd (cc a)
second_ends one Again a = absurd (cc a)
second_ends Nothing Spent a = a
second_ends Again Spent a = a
second_ends Spent Spent a = a

-- What is due of the alarm of high priority, and of that of low priority.
abbrev high_of : Flow → Due
high_of flow = due_behind flow.alarms.sender.sending flow.alarms.sender.sending.waiting

abbrev low_of : Flow → Due
low_of flow = due_behind flow.low.alarms.sender.sending flow.low.alarms.sender.sending.waiting

no_ending : (link later : RelationState) (units : ℕ) → link.flow.cyclic.hearing.held + suc units < link.flow.cyclic.hearing.limit → ArePatientFor (suc units) link.flow
    → IsOn link units later → ending_of later ≡ None
no_ending link later units below patient same =
    let high = later.flow.alarms.sender.sending in
    let low = later.flow.low.alarms.sender.sending in
    ending_there later same.phase
    ∙ (heard_still later.flow same.begun (omega (arith, same.held, same.limit, below))
    ∙ either_ends_not (high_of later.flow) (low_of later.flow)
    (unspent high high.waiting (patient_there link.flow.alarms.sender.sending high units patient.0 same.patience same.waiting))
    (unspent low low.waiting (patient_there link.flow.low.alarms.sender.sending low units patient.1 same.low_patience same.low_waiting)))

fewer : (sending : Sending) (units : ℕ) → IsPatientFor (suc units) sending → IsPatientFor units sending
fewer sending units patient waited is = omega (arith, patient waited is)

stands_on : (link : RelationState) (units : ℕ) → link.phase ≡ Exchanging → link.flow.cyclic.begun ≡ true → link.flow.cyclic.hearing.held + units < link.flow.cyclic.hearing.limit
    → ArePatientFor units link.flow → StandsOn link units
stands_on link zero at begun below patient = record {
  later = link;
  is = refl;
  same = record {
    phase = at;
    request = refl;
    begun = begun;
    held = omega arith;
    limit = refl;
    patience = refl;
    waiting = none_more link.flow.alarms.sender.sending.waiting;
    low_patience = refl;
    low_waiting = none_more link.flow.low.alarms.sender.sending.waiting;
    last = refl;
    seen = refl;
    endpoint = refl;
  };
}
stands_on link (suc units) at begun below patient =
    let before = stands_on link units at begun (omega (arith, below))
    (fewer link.flow.alarms.sender.sending units patient.0, fewer link.flow.low.alarms.sender.sending units patient.1) in
    record {
      later = unit_later before.later;
      is = ap unit_over before.is ∙ updated_on (ending_of before.later) before.later (no_ending link before.later units below patient before.same);
      same = on_next link before.later units below patient before.same;
    }

-- If something ends it with the next unit, it ends with the ERR for that reason.
ends_behind : (link : RelationState) (units : ℕ) (reason : Abort) → link.phase ≡ Exchanging → (so : StandsOn link units) → ending_of so.later ≡ Some reason → EndsBehind units reason link
ends_behind link units reason at so over = (
  ap phase_of so.is ∙ ap (λ (p : Phase). let o : Option Phase = Some p in o) (so.same.phase ∙ sym at),
  (
    ap unit_over so.is ∙ updated_off (ending_of so.later) reason so.later over,
    ap (λ (l : Option RelationState). (due_of l).farewell) so.is
        ∙ (due_off (ending_of so.later) reason so.later over
        ∙ ap (λ (f : Farewell). let o : Option Farewell = Some f in o) (same_farewell reason link so.later so.same.request so.same.last so.same.seen so.same.endpoint)),
  ),
)

pub is_held_for : IsHeldFor
is_held_for link units at begun last patient =
    let so = stands_on link units at begun (omega (arith, last)) patient in
    ends_behind link units DataHold at so
    (ending_there so.later so.same.phase ∙ heard_no_more so.later.flow so.same.begun (omega (arith, so.same.held, so.same.limit, last)))

spent_there : (sending later : Sending) (units : ℕ) → GivesUpBehind units sending → later.limit ≡ sending.limit
    → later.waiting ≡ option_map (λ waited. waited + units) sending.waiting → ending_by (due_behind later later.waiting) ≡ Some Other
spent_there sending later units gives patience waiting =
    spent later later.waiting (gives.0 + units) (waiting ∙ ap (λ (o : Option ℕ). option_map (λ (n : ℕ). n + units) o) gives.1.0) (omega (arith, patience, gives.1.1))

given_up_there : (link later : RelationState) (units : ℕ) → IsOn link units later
    → GivesUpBehind units link.flow.alarms.sender.sending ⊎ GivesUpBehind units link.flow.low.alarms.sender.sending → ending_by (alarm_due later.flow) ≡ Some Other
given_up_there link later units same (inl high) =
    first_ends (high_of later.flow) (low_of later.flow) (spent_there link.flow.alarms.sender.sending later.flow.alarms.sender.sending units high same.patience same.waiting)
given_up_there link later units same (inr low) =
    second_ends (high_of later.flow) (low_of later.flow)
    (spent_there link.flow.low.alarms.sender.sending later.flow.low.alarms.sender.sending units low same.low_patience same.low_waiting)

pub is_given_up : IsGivenUp
is_given_up link units at begun below patient gives =
    let so = stands_on link units at begun (omega (arith, below)) patient in
    ends_behind link units Other at so
    (ending_there so.later so.same.phase
    ∙ (heard_still so.later.flow so.same.begun (omega (arith, so.same.held, so.same.limit, below))
    ∙ given_up_there link so.later units so.same gives))
