-- A relation while only the timers of its exchange run.
use Rattle.std.proofs.Common.{◌≡◌, ◌+◌, ◌-◌, ◌<◌, ◌≤◌, ◌&&◌, ℕ, zero, suc, Bool, true, false, not, nat_lt, refl, sym, ap, subst, ◌∙◌, arith, Option, Some, None, is_some, if◌then◌else◌}
use Rattle.std.specs.Prelude.{min}
use Rattle.std.proofs.lemmas.Bool.{false≢true}
use Rattle.std.proofs.lemmas.Bool.Decides.{nat_tests}
use Rattle.pn_alarms.specs.Leaps.{after, never, waiting_due_in}
use Rattle.cyclic_data.specs.Leaps.{frame_due_in}
use Rattle.cyclic_data.specs.exchange.Leaps.{cyclic_due_in, frame_alone, silent_in}
use Rattle.cyclic_data.specs.exchange.Units.{Brought}
use Rattle.expected_places.specs.Calls.{PlugQueue, again_in, again_with, counted, counted_by, counted_with, is_again_with}
use Rattle.expected_places.specs.Calls.{is_again as is_call_again}
use Rattle.expected_places.specs.Machine.{PlugState}
use Rattle.relations.specs.declared.phase.Phase.{Phase}
use Rattle.relations.specs.declared.phase.Phase.TheVariants.{Started, Preparing, Awaiting, Exchanging}
use Rattle.relations.specs.declared.steady.Steady.{Steady}
use Rattle.relations.specs.exchange.Calm.{IsCalm, is_calm}
use Rattle.relations.specs.exchange.Flow.{Flow}
use Rattle.relations.specs.exchange.Leaps.{BringNothing, flow_due_in}
use Rattle.relations.specs.exchange.Units.{flow_later, repeated_of, tick_of}
use Rattle.relations.specs.Leaps.{NothingDueFor, due_within, link_due_in}
use Rattle.relations.specs.RelationState.{RelationState, link_in}
use Rattle.relations.specs.Phases.{with_flow}
use Rattle.relations.specs.Runs.{unit_over, units_over}
use Rattle.relations.specs.Steady.{IsSteady, Runs, inputs_alone, is_alone, known_if, never_due, steady_in, steady_of, unknown}
use Rattle.relations.specs.Timers.{Due, due_by, due_of, ending_of, is_timed}
use Rattle.relations.proofs.Kept.{updated_on}
use Rattle.relations.proofs.Leaps.{later_after, later_by, nothing_after}

-- ---- the calls of plugs, none of which waits for its answer

calls_rest : (queue : PlugQueue) (units : ℕ) → queue.standing ≡ None → counted_by units queue ≡ queue
calls_rest queue zero none = refl
calls_rest queue (suc units) none = ap counted (calls_rest queue units none) ∙ ap (counted_with queue) none

none_again : (queue : PlugQueue) (units : ℕ) → queue.standing ≡ None → is_call_again (counted_by units queue) ≡ false
none_again queue units none = ap is_call_again (calls_rest queue units none) ∙ ap (is_again_with queue) none

-- ---- what is due

-- A relation that exchanges data.
abbrev pub exchanging : RelationState → RelationState
exchanging link = record link { phase = Exchanging }

flow_due : (flow : Flow) → flow.alarms.sender.sending.waiting ≡ None → flow.low.alarms.sender.sending.waiting ≡ None → flow_due_in flow ≡ min (min (cyclic_due_in flow.cyclic) never) never
flow_due flow high low =
    ap (λ (w : Option ℕ). min (min (cyclic_due_in flow.cyclic) (waiting_due_in flow.alarms.sender.sending w)) (waiting_due_in flow.low.alarms.sender.sending flow.low.alarms.sender.sending.waiting)) high
    ∙ ap (λ (w : Option ℕ). min (min (cyclic_due_in flow.cyclic) never) (waiting_due_in flow.low.alarms.sender.sending w)) low

pub runs_due : (steady : Steady) (link : RelationState) → steady.inputs ≤ steady.held → Runs steady (exchanging link) → link_due_in (exchanging link) ≡ steady.inputs
runs_due steady link first runs =
    let flow = flow_due link.flow runs.calm.high runs.calm.low in
    let plug : again_in link.plugs.calls ≡ never = ap (again_with link.plugs.calls) runs.answered in
    omega (arith, flow, plug, first, runs.inputs, runs.few, runs.held)

-- ---- units that bring nothing

-- The relation with another exchange.
abbrev pub exchanging_with : RelationState → Flow → RelationState
exchanging_with link flow = record link { phase = Exchanging; flow = flow }

abbrev some_with : RelationState → Flow → PlugQueue → Option RelationState
some_with link flow calls = Some (record (exchanging_with link flow) { plugs = record link.plugs { calls = calls } })

pub passes : (link : RelationState) (units : ℕ) (new : Flow) → units < link_due_in (exchanging link) → BringNothing units link.flow → link.plugs.calls.standing ≡ None
    → new ≡ after flow_later units link.flow → units_over units (Some (exchanging link)) ≡ Some (exchanging_with link new)
passes link units new below none answered is =
    later_after (exchanging link) units below none
    ∙ (ap (some_with link (after flow_later units link.flow)) (calls_rest link.plugs.calls units answered)
    ∙ ap (λ (flow : Flow). some_with link flow link.plugs.calls) (sym is))

pub passes_nothing : (link : RelationState) (units : ℕ) → units < link_due_in (exchanging link) → BringNothing units link.flow → link.plugs.calls.standing ≡ None
    → NothingDueFor units (Some (exchanging link))
passes_nothing link units below none answered =
    nothing_after (exchanging link) units below none (λ before earlier. none_again link.plugs.calls before answered)

-- ---- the unit that brings inputs

ends_not : (link : RelationState) (units : ℕ) → tick_of (after flow_later units link.flow) ≡ frame_alone → ending_of (later_by units (exchanging link)) ≡ None
ends_not link units last = ap (λ (b : Brought). b.ending) last

-- What is due of a relation that exchanges data and does not end, if its exchange brings this, and whether the call of a plug is
-- sent again.
abbrev due_at : RelationState → Brought → Bool → Due
due_at link brought again = record {
  farewell = None;
  is_alarm = brought.is_alarm && (repeated_of link.flow).high;
  is_low = brought.is_alarm && (repeated_of link.flow).low;
  is_ready = false;
  is_plug_ready = again;
  is_cyclic = brought.is_cyclic;
}

sends_next : (link : RelationState) (units : ℕ) → units < link_due_in (exchanging link) → BringNothing units link.flow → link.plugs.calls.standing ≡ None
    → tick_of (after flow_later units link.flow) ≡ frame_alone → due_of (units_over units (Some (exchanging link))) ≡ inputs_alone
sends_next link units below none answered last =
    let later = later_by units (exchanging link) in
    ap due_of (later_after (exchanging link) units below none)
    ∙ (ap (due_by later) (ends_not link units last)
    ∙ (ap (λ (b : Brought). due_at later b (is_call_again (counted_by units link.plugs.calls))) last
    ∙ ap (due_at later frame_alone) (none_again link.plugs.calls units answered)))

sent_next : (link : RelationState) (units : ℕ) (new : Flow) → units < link_due_in (exchanging link) → BringNothing units link.flow → link.plugs.calls.standing ≡ None
    → tick_of (after flow_later units link.flow) ≡ frame_alone → new ≡ after flow_later (suc units) link.flow
    → units_over (suc units) (Some (exchanging link)) ≡ Some (exchanging_with link new)
sent_next link units new below none answered last is =
    let later = later_by units (exchanging link) in
    ap unit_over (later_after (exchanging link) units below none)
    ∙ (updated_on (ending_of later) later (ends_not link units last)
    ∙ (ap (some_with link (after flow_later (suc units) link.flow)) (calls_rest link.plugs.calls (suc units) answered)
    ∙ ap (λ (flow : Flow). some_with link flow link.plugs.calls) (sym is)))

pub sends : (link : RelationState) (units : ℕ) → 0 < units → units ≤ link_due_in (exchanging link) → BringNothing (units - 1) link.flow → link.plugs.calls.standing ≡ None
    → tick_of (after flow_later (units - 1) link.flow) ≡ frame_alone → due_of (units_over (units - 1) (Some (exchanging link))) ≡ inputs_alone
sends link units some due none answered last = sends_next link (units - 1) (omega (arith, some, due)) none answered last

pub sent : (link : RelationState) (units : ℕ) (new : Flow) → 0 < units → units ≤ link_due_in (exchanging link) → BringNothing (units - 1) link.flow → link.plugs.calls.standing ≡ None
    → tick_of (after flow_later (units - 1) link.flow) ≡ frame_alone → new ≡ after flow_later units link.flow
    → units_over units (Some (exchanging link)) ≡ Some (exchanging_with link new)
sent link zero new some due none answered last is = absurd (omega (arith, some))
sent link (suc units) new some due none answered last is =
    let one : suc units - 1 ≡ units = omega arith in
    sent_next link units new (omega (arith, due)) (rw one at none) answered (rw one at last) is

-- ---- what is known

-- After units that bring nothing.
pub runs_later : (steady later : Steady) (link : RelationState) (units : ℕ) (new : Flow) → units < steady.inputs → steady.inputs ≤ steady.held → Runs steady (exchanging link)
    → later.inputs ≡ steady.inputs - units → later.held ≡ steady.held - units → IsCalm new
    → frame_due_in link.flow.cyclic.sending ≡ frame_due_in new.cyclic.sending + units → silent_in link.flow.cyclic ≤ silent_in new.cyclic + units
    → IsSteady later (Some (exchanging_with link new))
runs_later steady later link units new below first runs inputs held calm frame silent =
    let frame_now = runs.inputs in
    let few = runs.few in
    let held_now = runs.held in
    record {
      first = omega (arith, inputs, held, first);
      runs = record {
        exchanging = refl;
        calm = calm;
        answered = runs.answered;
        inputs = omega (arith, inputs, frame_now, frame);
        few = omega (arith, inputs, few);
        held = omega (arith, held, held_now, silent);
      };
    }

not_before : (a b : ℕ) → nat_lt a b ≡ false → b ≤ a
not_before a b h = grind (arith, nat_tests)

abbrev made_by : ℕ → ℕ → Bool → Steady
made_by frame silent b = if b then record { inputs = 0; held = 0 } else record { inputs = frame; held = silent }

settles_by : (link : RelationState) (new : Flow) (steady : Steady) (b : Bool) → nat_lt (silent_in new.cyclic) (frame_due_in new.cyclic.sending) ≡ b
    → steady ≡ made_by (frame_due_in new.cyclic.sending) (silent_in new.cyclic) b → steady.inputs ≤ 8388608 → link.plugs.calls.standing ≡ None → IsCalm new → 0 < steady.inputs
    → IsSteady steady (Some (exchanging_with link new))
settles_by link new steady true late is few answered calm some =
    let none : steady.inputs ≡ 0 = ap (λ (s : Steady). s.inputs) is in
    absurd (omega (arith, none, some))
settles_by link new steady false early is few answered calm some =
    let inputs : steady.inputs ≡ frame_due_in new.cyclic.sending = ap (λ (s : Steady). s.inputs) is in
    let held : steady.held ≡ silent_in new.cyclic = ap (λ (s : Steady). s.held) is in
    let first = not_before (silent_in new.cyclic) (frame_due_in new.cyclic.sending) early in
    record {
      first = omega (arith, inputs, held, first);
      runs = record { exchanging = refl; calm = calm; answered = answered; inputs = inputs; few = omega (arith, few); held = omega (arith, held) };
    }

-- When the exchange of a relation is asked, whose other timers do not run.
pub settles : (link : RelationState) (new : Flow) (steady : Steady) → steady ≡ steady_of new → steady.inputs ≤ 8388608 → link.plugs.calls.standing ≡ None → IsCalm new → 0 < steady.inputs
    → IsSteady steady (Some (exchanging_with link new))
settles link new steady is few answered calm some =
    settles_by link new steady (nat_lt (silent_in new.cyclic) (frame_due_in new.cyclic.sending)) refl is few answered calm some

-- ---- of a relation that is steady

at_exchange : (link : RelationState) → link.phase ≡ Exchanging → exchanging link ≡ link
at_exchange link is = ap (λ (p : Phase). let l : RelationState = record link { phase = p } in l) (sym is)

pub steady_due : (steady : Steady) (link : RelationState) → IsSteady steady (Some link) → due_within (Some link) ≡ steady.inputs
steady_due steady link is =
    let same = at_exchange link is.runs.exchanging in
    subst (λ (l : RelationState). link_due_in l ≡ steady.inputs) same (runs_due steady link is.first (subst (Runs steady) (sym same) is.runs))

below_due : (steady : Steady) (link : RelationState) (units : ℕ) → IsSteady steady (Some link) → units < steady.inputs → units < link_due_in (exchanging link)
below_due steady link units is few =
    let same = at_exchange link is.runs.exchanging in
    let due = runs_due steady link is.first (subst (Runs steady) (sym same) is.runs) in
    omega (arith, few, due)

pub steady_passes : (steady : Steady) (link : RelationState) (units : ℕ) (new : Flow) → IsSteady steady (Some link) → units < steady.inputs → BringNothing units link.flow
    → new ≡ after flow_later units link.flow → units_over units (Some link) ≡ Some (with_flow new link)
steady_passes steady link units new is few none later =
    subst (λ (l : RelationState). units_over units (Some l) ≡ Some (with_flow new l)) (at_exchange link is.runs.exchanging)
    (passes link units new (below_due steady link units is few) none is.runs.answered later)

pub steady_nothing : (steady : Steady) (link : RelationState) (units : ℕ) → IsSteady steady (Some link) → units < steady.inputs → BringNothing units link.flow → NothingDueFor units (Some link)
steady_nothing steady link units is few none =
    subst (λ (l : RelationState). NothingDueFor units (Some l)) (at_exchange link is.runs.exchanging)
    (passes_nothing link units (below_due steady link units is few) none is.runs.answered)

pub steady_later : (steady later : Steady) (link : RelationState) (units : ℕ) (new : Flow) → IsSteady steady (Some link) → units < steady.inputs → later.inputs ≡ steady.inputs - units → later.held ≡ steady.held - units
    → IsCalm new → frame_due_in link.flow.cyclic.sending ≡ frame_due_in new.cyclic.sending + units → silent_in link.flow.cyclic ≤ silent_in new.cyclic + units → IsSteady later (Some (with_flow new link))
steady_later steady later link units new is few inputs held calm frame silent =
    let same = at_exchange link is.runs.exchanging in
    subst (λ (l : RelationState). IsSteady later (Some (with_flow new l))) same
    (runs_later steady later link units new few is.first (subst (Runs steady) (sym same) is.runs) inputs held calm frame silent)

at_most : (steady : Steady) (link : RelationState) → IsSteady steady (Some link) → steady.inputs ≤ link_due_in (exchanging link)
at_most steady link is =
    let same = at_exchange link is.runs.exchanging in
    let due = runs_due steady link is.first (subst (Runs steady) (sym same) is.runs) in
    omega (arith, due)

-- Nothing is due before the unit that brings inputs.
pub steady_before : (steady : Steady) (link : RelationState) → IsSteady steady (Some link) → 0 < steady.inputs → BringNothing (steady.inputs - 1) link.flow → NothingDueFor (steady.inputs - 1) (Some link)
steady_before steady link is some none = steady_nothing steady link (steady.inputs - 1) is (omega (arith, some)) none

pub steady_sends : (steady : Steady) (link : RelationState) → IsSteady steady (Some link) → 0 < steady.inputs → BringNothing (steady.inputs - 1) link.flow
    → tick_of (after flow_later (steady.inputs - 1) link.flow) ≡ frame_alone → due_of (units_over (steady.inputs - 1) (Some link)) ≡ inputs_alone
steady_sends steady link is some none last =
    subst (λ (l : RelationState). due_of (units_over (steady.inputs - 1) (Some l)) ≡ inputs_alone) (at_exchange link is.runs.exchanging)
    (sends link steady.inputs some (at_most steady link is) none is.runs.answered last)

pub steady_sent : (steady : Steady) (link : RelationState) (new : Flow) → IsSteady steady (Some link) → 0 < steady.inputs → BringNothing (steady.inputs - 1) link.flow
    → tick_of (after flow_later (steady.inputs - 1) link.flow) ≡ frame_alone → new ≡ after flow_later steady.inputs link.flow
    → units_over steady.inputs (Some link) ≡ Some (with_flow new link)
steady_sent steady link new is some none last later =
    subst (λ (l : RelationState). units_over steady.inputs (Some l) ≡ Some (with_flow new l)) (at_exchange link is.runs.exchanging)
    (sent link steady.inputs new some (at_most steady link is) none is.runs.answered last later)

pub steady_settles : (link : RelationState) (new : Flow) (steady : Steady) → link.phase ≡ Exchanging → steady ≡ steady_of new → steady.inputs ≤ 8388608 → link.plugs.calls.standing ≡ None
    → IsCalm new → 0 < steady.inputs → IsSteady steady (Some (with_flow new link))
steady_settles link new steady phase is few answered calm some =
    subst (λ (l : RelationState). IsSteady steady (Some (with_flow new l))) (at_exchange link phase) (settles link new steady is few answered calm some)

-- ---- what a relation is asked

both_hold : (one other : Bool) → (one && other) ≡ true → (one ≡ true) × (other ≡ true)
both_hold true other is = (refl, is)
both_hold false other is = absurd (false≢true is)

fails : (b : Bool) → not b ≡ true → b ≡ false
fails true is = absurd (false≢true is)
fails false is = refl

none_there : {A : Type 0} (o : Option A) → not (is_some o) ≡ true → o ≡ None
none_there None is = refl
none_there (Some one) is = absurd (false≢true is)

exchanges : (phase : Phase) → not (is_timed phase) ≡ true → phase ≡ Exchanging
exchanges Started is = absurd (false≢true is)
exchanges Preparing is = absurd (false≢true is)
exchanges Awaiting is = absurd (false≢true is)
exchanges Exchanging is = refl

calm_of : (flow : Flow) → is_calm flow ≡ true → IsCalm flow
calm_of flow is =
    let high = both_hold (not (is_some flow.alarms.sender.sending.waiting)) (not (is_some flow.low.alarms.sender.sending.waiting) && not (is_some flow.alarms.sender.standing)) is in
    let rest = both_hold (not (is_some flow.low.alarms.sender.sending.waiting)) (not (is_some flow.alarms.sender.standing)) high.1 in
    record {
      closed = none_there flow.alarms.sender.standing rest.1;
      high = none_there flow.alarms.sender.sending.waiting high.0;
      low = none_there flow.low.alarms.sender.sending.waiting rest.0;
    }

-- Only the timers of its exchange run: what is known is so.
pub alone_runs : (link : RelationState) (steady : Steady) → is_alone link.phase link.plugs link.flow ≡ true → steady ≡ steady_of link.flow → steady.inputs ≤ 8388608 → 0 < steady.inputs
    → IsSteady steady (Some link)
alone_runs link steady alone is few some =
    let phase = both_hold (not (is_timed link.phase)) (not (is_some link.plugs.calls.standing) && is_calm link.flow) alone in
    let rest = both_hold (not (is_some link.plugs.calls.standing)) (is_calm link.flow) phase.1 in
    steady_settles link link.flow steady (exchanges link.phase phase.0) is few (none_there link.plugs.calls.standing rest.0) (calm_of link.flow rest.1) some

pub known_by : (link : RelationState) (steady : Steady) → is_alone link.phase link.plugs link.flow ≡ true → steady ≡ steady_of link.flow → steady ≡ steady_in (Some link)
known_by link steady alone is = is ∙ sym (ap (λ (b : Bool). known_if b link.flow) alone)

-- Such a relation, with another exchange whose alarms have nothing to do.
runs_alone : (phase : Phase) (plugs : PlugState) (flow : Flow) → phase ≡ Exchanging → plugs.calls.standing ≡ None → IsCalm flow → is_alone phase plugs flow ≡ true
runs_alone phase plugs flow exchanging answered calm =
    let high = calm.high in
    let low = calm.low in
    let closed = calm.closed in
    rw (exchanging, answered, high, low, closed) refl

pub known_again : (link : RelationState) (new : Flow) (steady : Steady) → link.phase ≡ Exchanging → link.plugs.calls.standing ≡ None → IsCalm new → steady ≡ steady_of new
    → steady ≡ steady_in (Some (with_flow new link))
known_again link new steady exchanging answered calm is = known_by (with_flow new link) steady (runs_alone link.phase link.plugs new exchanging answered calm) is

pub unknown_by : (link : RelationState) (steady : Steady) → is_alone link.phase link.plugs link.flow ≡ false → steady ≡ unknown → steady ≡ steady_in (Some link)
unknown_by link steady alone is = is ∙ sym (ap (λ (b : Bool). known_if b link.flow) alone)

pub not_known : (steady : Steady) → steady ≡ unknown → 0 < steady.inputs → ⊥
not_known steady is some = let none : steady.inputs ≡ 0 = ap (λ (s : Steady). s.inputs) is in omega (arith, none, some)

pub inputs_never : (steady : Steady) → steady ≡ never_due → steady.inputs ≡ never
inputs_never steady is = ap (λ (s : Steady). s.inputs) is

held_never : (steady : Steady) → steady ≡ never_due → steady.held ≡ never
held_never steady is = ap (λ (s : Steady). s.held) is

-- Without a relation nothing is ever due.
pub never_steady : (steady : Steady) → steady ≡ never_due → IsSteady steady None
never_steady steady is =
    let inputs = inputs_never steady is in
    let held = held_never steady is in
    record { first = omega (arith, inputs, held); runs = is }

-- Inputs that are due before the data hold time is over are those of a relation.
pub stands : (steady : Steady) (phase : Option Phase) (link : Phase → RelationState) → IsSteady steady (link_in phase link) → steady.inputs < steady.held → (now : Phase) × (phase ≡ Some now)
stands steady None link is first =
    let inputs = inputs_never steady is.runs in
    let held = held_never steady is.runs in
    absurd (omega (arith, inputs, held, first))
stands steady (Some now) link is first = (now, refl)
