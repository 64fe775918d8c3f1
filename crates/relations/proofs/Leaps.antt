-- Several units of time at once, before the next one that brings something to a relation.
use Rattle.std.proofs.Common.{◌≡◌, ◌+◌, ◌-◌, ◌<◌, ◌==◌, ◌&&◌, ℕ, zero, suc, Bool, false, nat_le, refl, ap, ◌∙◌, arith, Option, Some, None, if◌then◌else◌}
use Rattle.std.specs.Prelude.{min, max}
use Rattle.std.proofs.lemmas.Bool.{ne_eqb}
use Rattle.std.proofs.lemmas.Bool.Decides.{nat_tests}
use Rattle.pn_alarms.specs.declared.abort.Abort.{Abort}
use Rattle.pn_alarms.specs.declared.abort.Abort.TheVariants.{Activity}
use Rattle.pn_alarms.specs.Leaps.{after}
use Rattle.cyclic_data.specs.exchange.Units.{Brought}
use Rattle.relations.specs.exchange.Flow.{Flow}
use Rattle.relations.specs.exchange.Leaps.{BringNothing, nothing_brought}
use Rattle.relations.specs.exchange.Units.{flow_later, repeated_of, tick_of}
use Rattle.relations.specs.declared.phase.Phase.{Phase}
use Rattle.relations.specs.declared.phase.Phase.TheVariants.{Started, Preparing, Awaiting, Exchanging}
use Rattle.relations.specs.RelationState.{HasBegunIn, RelationState, is_awaiting}
use Rattle.expected_places.specs.Calls.{PlugQueue, counted}
use Rattle.expected_places.specs.Machine.{PlugState}
use Rattle.relations.specs.Leaps.{NoPlugDueFor, NothingDueFor, inactive_by, inactive_in, is_plug_due, link_due_in, plugs_by, ready_in, waited_by}
use Rattle.relations.specs.Runs.{unit_over, units_over}
use Rattle.relations.specs.Timers.{Due, due_by, due_in, due_of, ending_of, is_again, is_plug_again, is_timed, limit_of, nothing, unit_later}
use Rattle.relations.proofs.Kept.{updated_on}

-- ---- the exchange

begun_still : (flow : Flow) (units : ℕ) → (after flow_later units flow).cyclic.begun ≡ flow.cyclic.begun
begun_still flow zero = refl
begun_still flow (suc units) = begun_still flow units

-- The exchange has still begun exactly if data is exchanged.
pub begun_kept : (phase : Option Phase) (flow new : Flow) (units : ℕ) → new ≡ after flow_later units flow → HasBegunIn phase flow → HasBegunIn phase new
begun_kept None flow new units is begun = tt
begun_kept (Some phase) flow new units is begun = ap (λ (f : Flow). f.cyclic.begun) is ∙ (begun_still flow units ∙ begun)

-- ---- the timers

pub below_left : (number one other : ℕ) → number < min one other → number < one
below_left number one other below = omega (arith, below)

pub below_right : (number one other : ℕ) → number < min one other → number < other
below_right number one other below = omega (arith, below)

le_false : (a b : ℕ) → b < a → nat_le a b ≡ false
le_false a b h = grind (arith, nat_tests)

timer_left : (limit counted units : ℕ) → suc units < max 1 (limit - counted) → counted + units + 1 < limit
timer_left limit counted units before = omega (arith, before)

-- Why the relation ends, from its phase, its activity timer and what the exchange brings.
abbrev ending_at : Phase → ℕ → ℕ → Brought → Option Abort
ending_at phase limit inactive brought = if is_timed phase then (if nat_le limit (inactive + 1) then Some Activity else None) else brought.ending

no_ending : (phase : Phase) (limit inactive units : ℕ) (brought : Brought) → suc units < inactive_in phase limit inactive → brought ≡ nothing_brought
    → ending_at phase limit (inactive_by phase units inactive) brought ≡ None
no_ending Started limit inactive units brought before none =
    ap (λ (b : Bool). let o : Option Abort = if b then Some Activity else None in o) (le_false limit (inactive + units + 1) (timer_left limit inactive units before))
no_ending Preparing limit inactive units brought before none =
    ap (λ (b : Bool). let o : Option Abort = if b then Some Activity else None in o) (le_false limit (inactive + units + 1) (timer_left limit inactive units before))
no_ending Awaiting limit inactive units brought before none =
    ap (λ (b : Bool). let o : Option Abort = if b then Some Activity else None in o) (le_false limit (inactive + units + 1) (timer_left limit inactive units before))
no_ending Exchanging limit inactive units brought before none = ap (λ (b : Brought). b.ending) none

not_again : (phase : Phase) (waited units : ℕ) → suc units < ready_in phase waited → (is_awaiting phase && (waited_by phase units waited + 1 == 32000)) ≡ false
not_again Started waited units before = refl
not_again Preparing waited units before = refl
not_again Awaiting waited units before = ne_eqb (waited + units + 1) 32000 (λ e. omega (arith, e, before))
not_again Exchanging waited units before = refl

inactive_next : (phase : Phase) (inactive units : ℕ) → (if is_timed phase then inactive_by phase units inactive + 1 else inactive_by phase units inactive) ≡ inactive_by phase (suc units) inactive
inactive_next Started inactive units = omega arith
inactive_next Preparing inactive units = omega arith
inactive_next Awaiting inactive units = omega arith
inactive_next Exchanging inactive units = refl

waited_next : (phase : Phase) (waited units : ℕ) → suc units < ready_in phase waited
    → (if (is_awaiting phase && (waited_by phase units waited + 1 == 32000)) then 0 else (if is_awaiting phase then waited_by phase units waited + 1 else waited_by phase units waited))
    ≡ waited_by phase (suc units) waited
waited_next Started waited units before = refl
waited_next Preparing waited units before = refl
waited_next Awaiting waited units before =
    let one : waited + units + 1 ≡ waited + suc units = omega arith in
    ap (λ (b : Bool). if b then 0 else waited + units + 1) (not_again Awaiting waited units before) ∙ one
waited_next Exchanging waited units before = refl

inactive_none : (phase : Phase) (inactive : ℕ) → inactive ≡ inactive_by phase 0 inactive
inactive_none Started inactive = omega arith
inactive_none Preparing inactive = omega arith
inactive_none Awaiting inactive = omega arith
inactive_none Exchanging inactive = refl

waited_none : (phase : Phase) (waited : ℕ) → waited ≡ waited_by phase 0 waited
waited_none Started waited = refl
waited_none Preparing waited = refl
waited_none Awaiting waited = omega arith
waited_none Exchanging waited = refl

-- ---- the ApplicationReady of a plug

abbrev with_calls : PlugState → PlugQueue → PlugState
with_calls plugs calls = record plugs { calls = calls }

plugs_next : (phase : Phase) (plugs : PlugState) (units : ℕ)
    → (if is_timed phase then plugs_by phase units plugs else with_calls (plugs_by phase units plugs) (counted (plugs_by phase units plugs).calls)) ≡ plugs_by phase (suc units) plugs
plugs_next Started plugs units = refl
plugs_next Preparing plugs units = refl
plugs_next Awaiting plugs units = refl
plugs_next Exchanging plugs units = refl

plugs_none : (phase : Phase) (plugs : PlugState) → plugs ≡ plugs_by phase 0 plugs
plugs_none Started plugs = refl
plugs_none Preparing plugs = refl
plugs_none Awaiting plugs = refl
plugs_none Exchanging plugs = refl

-- ---- the relation

abbrev with_timers : RelationState → ℕ → ℕ → PlugState → Flow → RelationState
with_timers link inactive waited plugs flow = record link { inactive = inactive; waited = waited; plugs = plugs; flow = flow }

-- A relation after several units that bring nothing: it is the same except for its timers.
abbrev pub later_by : ℕ → RelationState → RelationState
later_by units link = with_timers link (inactive_by link.phase units link.inactive) (waited_by link.phase units link.waited) (plugs_by link.phase units link.plugs) (after flow_later units link.flow)

-- The timers of the relation itself are not over.
record IsBefore (link : RelationState) (units : ℕ) : Type 0 where
  inactive : units < inactive_in link.phase (limit_of link) link.inactive
  ready : units < ready_in link.phase link.waited

is_before : (link : RelationState) (units : ℕ) → units < link_due_in link → IsBefore link units
is_before link units before =
    let own = below_right units _ _ before in
    let timers = below_right units _ _ own in
    record { inactive = below_left units _ _ timers; ready = below_right units _ _ timers }

ends_not : (link : RelationState) (units : ℕ) → suc units < link_due_in link → tick_of (after flow_later units link.flow) ≡ nothing_brought → ending_of (later_by units link) ≡ None
ends_not link units before none =
    no_ending link.phase (limit_of link) link.inactive units (tick_of (after flow_later units link.flow)) (is_before link (suc units) before).inactive none

later_next : (link : RelationState) (units : ℕ) → suc units < link_due_in link → unit_later (later_by units link) ≡ later_by (suc units) link
later_next link units before =
    let own = is_before link (suc units) before in
    let flow = after flow_later (suc units) link.flow in
    let old = plugs_by link.phase units link.plugs in
    let plugs = if is_timed link.phase then old else with_calls old (counted old.calls) in
    ap (λ (w : ℕ). with_timers link (if is_timed link.phase then inactive_by link.phase units link.inactive + 1 else inactive_by link.phase units link.inactive) w plugs flow)
    (waited_next link.phase link.waited units own.ready)
    ∙ (ap (λ (i : ℕ). with_timers link i (waited_by link.phase (suc units) link.waited) plugs flow) (inactive_next link.phase link.inactive units)
    ∙ ap (λ (p : PlugState). with_timers link (inactive_by link.phase (suc units) link.inactive) (waited_by link.phase (suc units) link.waited) p flow)
    (plugs_next link.phase link.plugs units))

-- What is due of a relation that does not end, if the exchange brings this.
abbrev with_brought : RelationState → Brought → Due
with_brought link b = record {
  farewell = None;
  is_alarm = b.is_alarm && (repeated_of link.flow).high;
  is_low = b.is_alarm && (repeated_of link.flow).low;
  is_ready = is_again link;
  is_plug_ready = is_plug_again link;
  is_cyclic = b.is_cyclic;
}

abbrev with_ready : Bool → Bool → Due
with_ready is_ready is_plug_ready = record { farewell = None; is_alarm = false; is_low = false; is_ready = is_ready; is_plug_ready = is_plug_ready; is_cyclic = false }

due_nothing : (link : RelationState) (units : ℕ) → suc units < link_due_in link → tick_of (after flow_later units link.flow) ≡ nothing_brought
    → is_plug_due link.phase (plugs_by link.phase units link.plugs) ≡ false → due_in (later_by units link) ≡ nothing
due_nothing link units before none quiet =
    let own = is_before link (suc units) before in
    let later = later_by units link in
    ap (due_by later) (ends_not link units before none)
    ∙ (ap (λ (b : Brought). with_brought later b) none
    ∙ (ap (λ (b : Bool). with_ready b (is_plug_again later)) (not_again link.phase link.waited units own.ready)
    ∙ ap (with_ready false) quiet))

none_later : (link : RelationState) → link ≡ later_by 0 link
none_later link =
    ap (λ (i : ℕ). with_timers link i link.waited link.plugs link.flow) (inactive_none link.phase link.inactive)
    ∙ (ap (λ (w : ℕ). with_timers link (inactive_by link.phase 0 link.inactive) w link.plugs link.flow) (waited_none link.phase link.waited)
    ∙ ap (λ (p : PlugState). with_timers link (inactive_by link.phase 0 link.inactive) (waited_by link.phase 0 link.waited) p link.flow) (plugs_none link.phase link.plugs))

pub later_after : (link : RelationState) (units : ℕ) → units < link_due_in link → BringNothing units link.flow → units_over units (Some link) ≡ Some (later_by units link)
later_after link zero below none = ap (λ (l : RelationState). let o : Option RelationState = Some l in o) (none_later link)
later_after link (suc units) below none =
    let fewer : units < link_due_in link = omega (arith, below) in
    let later = later_by units link in
    ap unit_over (later_after link units fewer (λ before earlier. none before (omega (arith, earlier))))
    ∙ (updated_on (ending_of later) later (ends_not link units below (none units (omega arith)))
    ∙ ap (λ (l : RelationState). let o : Option RelationState = Some l in o) (later_next link units below))

pub nothing_after : (link : RelationState) (units : ℕ) → units < link_due_in link → BringNothing units link.flow → NoPlugDueFor units link.phase link.plugs
    → NothingDueFor units (Some link)
nothing_after link units below none quiet before earlier =
    ap due_of (later_after link before (omega (arith, below, earlier)) (λ first sooner. none first (omega (arith, earlier, sooner))))
    ∙ due_nothing link before (omega (arith, below, earlier)) (none before earlier) (quiet before earlier)

-- Without a relation no unit brings anything.
pub none_after : (units : ℕ) → units_over units None ≡ None
none_after zero = refl
none_after (suc units) = ap unit_over (none_after units)

pub none_due : (units : ℕ) → NothingDueFor units None
none_due units before earlier = ap due_of (none_after before)
