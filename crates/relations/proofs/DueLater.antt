-- What is due comes nearer by one unit with each unit that passes, and by no more.
use Rattle.std.specs.Prelude.{min}
use Rattle.std.proofs.Common.{◌≡◌, ◌+◌, ◌%◌, ◌<◌, ◌≤◌, ◌==◌, ℕ, zero, suc, Bool, true, false, Option, Some, None, if◌then◌else◌, sym, ◌∙◌, arith}
use Rattle.std.proofs.Math.Nat.{mod-add-mod, mod-eq_of_lt}
use Rattle.std.proofs.lemmas.Bool.{ne_eqb}
use Rattle.pn_alarms.specs.Leaps.{after, never, waiting_due_in}
use Rattle.pn_alarms.specs.Sending.{Sending as Repeating, waiting_behind}
use Rattle.cyclic_data.specs.Leaps.{frame_due_in, over_in}
use Rattle.cyclic_data.specs.Timing.{Hearing, Sending, held_on, unit_later}
use Rattle.relations.specs.declared.phase.Phase.{Phase}
use Rattle.relations.specs.declared.phase.Phase.TheVariants.{Started, Preparing, Awaiting, Exchanging}
use Rattle.relations.specs.exchange.Flow.{Flow}
use Rattle.relations.specs.exchange.Leaps.{flow_due_in}
use Rattle.relations.specs.exchange.Units.{flow_later}
use Rattle.relations.specs.Leaps.{inactive_by, inactive_in, ready_in, waited_by}

-- ---- one unit

repeated_later : (s : Repeating) (waiting : Option ℕ) → 1 < waiting_due_in s waiting → waiting_due_in s waiting ≤ waiting_due_in s (waiting_behind s waiting) + 1
repeated_later s None some = omega arith
repeated_later s (Some waited) some =
    let kept : (waited + 1 == s.limit) ≡ false = ne_eqb (waited + 1) s.limit (λ e. omega (arith, e, some)) in
    let inside : waited % s.interval + 1 < s.interval = omega (arith, some) in
    let next : (waited + 1) % s.interval ≡ waited % s.interval + 1 = sym (mod-add-mod waited s.interval 1) ∙ mod-eq_of_lt inside in
    rw kept (omega (arith, some, next))

frame_later : (s : Sending) → 1 < frame_due_in s → frame_due_in s ≤ frame_due_in (unit_later s) + 1
frame_later s some =
    let not_due : (s.elapsed + 1 == s.interval) ≡ false = ne_eqb (s.elapsed + 1) s.interval (λ e. omega (arith, e, some)) in
    rw not_due (omega (arith, some))

silent_later : (h : Hearing) (b : Bool) → (if b then over_in h else never) ≤ (if b then over_in (if b then held_on h else h) else never) + 1
silent_later h true = omega arith
silent_later h false = omega arith

unit_nearer : (flow : Flow) → 1 < flow_due_in flow → flow_due_in flow ≤ flow_due_in (flow_later flow) + 1
unit_nearer flow some =
    let frame = frame_later flow.cyclic.sending (omega (arith, some)) in
    let silent = silent_later flow.cyclic.hearing flow.cyclic.begun in
    let high = repeated_later flow.alarms.sender.sending flow.alarms.sender.sending.waiting (omega (arith, some)) in
    let low = repeated_later flow.low.alarms.sender.sending flow.low.alarms.sender.sending.waiting (omega (arith, some)) in
    omega (arith, some, frame, silent, high, low)

-- ---- several units

pub units_nearer : (flow : Flow) (units : ℕ) → units < flow_due_in flow → flow_due_in flow ≤ flow_due_in (after flow_later units flow) + units
units_nearer flow zero below = omega arith
units_nearer flow (suc units) below =
    let earlier = units_nearer flow units (omega (arith, below)) in
    let one = unit_nearer (after flow_later units flow) (omega (arith, earlier, below)) in
    omega (arith, earlier, one)

-- The timers of a relation beside its exchange, from what is due of that, and of the ApplicationReady of a plug.
pub timers_nearer : (phase : Phase) (limit inactive waited units old new own next : ℕ) → old ≤ new + units → own ≤ next + units
    → min old (min own (min (inactive_in phase limit inactive) (ready_in phase waited)))
    ≤ min new (min next (min (inactive_in phase limit (inactive_by phase units inactive)) (ready_in phase (waited_by phase units waited)))) + units
timers_nearer Started limit inactive waited units old new own next nearer plug = omega (arith, nearer, plug)
timers_nearer Preparing limit inactive waited units old new own next nearer plug = omega (arith, nearer, plug)
timers_nearer Awaiting limit inactive waited units old new own next nearer plug = omega (arith, nearer, plug)
timers_nearer Exchanging limit inactive waited units old new own next nearer plug = omega (arith, nearer, plug)
