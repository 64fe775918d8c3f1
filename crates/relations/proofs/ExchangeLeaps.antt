-- Several units of time at once, before the next one that brings something to an exchange.
use Rattle.std.proofs.Common.{◌≡◌, ◌<◌, ℕ, zero, suc, arith, Bool, false, refl, ap, ◌∙◌, Some, None, if◌then◌else◌}
use Rattle.pn_alarms.specs.declared.abort.Abort.TheVariants.{DataHold}
use Rattle.pn_alarms.specs.declared.repeats.Due.{Due as AlarmDue}
use Rattle.pn_alarms.specs.declared.repeats.Due.TheVariants.{Nothing}
use Rattle.pn_alarms.specs.Device.{end_later}
use Rattle.pn_alarms.specs.Ends.{DeviceEnd}
use Rattle.pn_alarms.specs.Leaps.{NothingDue, after, device_due}
use Rattle.pn_alarms.specs.Sending.{either_due}
use Rattle.cyclic_data.specs.Timing.{is_due}
use Rattle.cyclic_data.specs.exchange.Cyclic.{Cyclic}
use Rattle.cyclic_data.specs.exchange.Leaps.{IsQuietFor}
use Rattle.cyclic_data.specs.exchange.Units.{Brought, cyclic_later, ending_by, is_silent, tick_by}
use Rattle.cyclic_data.specs.exchange.Units.{tick_of as cyclic_tick}
use Rattle.relations.specs.exchange.Flow.{Flow, state_of}
use Rattle.relations.specs.exchange.Leaps.{BringNothing, nothing_brought}
use Rattle.relations.specs.exchange.Units.{flow_later, tick_of}

-- The exchange with these ends.
abbrev pub with_ends : Flow → Cyclic → DeviceEnd → DeviceEnd → Flow
with_ends flow cyclic alarms low = record flow { cyclic = cyclic; alarms = alarms; low = record flow.low { alarms = low } }

abbrev only_cyclic : Bool → Brought
only_cyclic is_cyclic = record { ending = None; is_alarm = false; is_cyclic = is_cyclic }

tick_nothing : (cyclic : Cyclic) (alarm : AlarmDue) → is_silent cyclic ≡ false → is_due cyclic.sending ≡ false → alarm ≡ Nothing → cyclic_tick cyclic alarm ≡ nothing_brought
tick_nothing cyclic alarm heard frame none =
    ap (cyclic_tick cyclic) none
    ∙ (ap (λ (b : Bool). tick_by cyclic Nothing (if b then Some DataHold else ending_by Nothing)) heard ∙ ap only_cyclic frame)

both_nothing : (one other : AlarmDue) → one ≡ Nothing → other ≡ Nothing → either_due one other ≡ Nothing
both_nothing one other a b = rw (a, b) refl

-- Of several units none of which brings anything.
abbrev AreQuiet : ℕ → Flow → Type 0
AreQuiet units flow = IsQuietFor units flow.cyclic × NothingDue device_due end_later units flow.alarms × NothingDue device_due end_later units flow.low.alarms

abbrev later_ends : Flow → ℕ → Flow
later_ends flow units = with_ends flow (after cyclic_later units flow.cyclic) (after end_later units flow.alarms) (after end_later units flow.low.alarms)

fewer : (flow : Flow) (units : ℕ) → AreQuiet (suc units) flow → AreQuiet units flow
fewer flow units are = (
  λ before earlier. are.0 before (omega (arith, earlier)),
  λ before earlier. are.1 before (omega (arith, earlier)),
  λ before earlier. are.2 before (omega (arith, earlier)),
)

ends_nothing : (flow : Flow) (units before : ℕ) → before < units → AreQuiet units flow → tick_of (later_ends flow before) ≡ nothing_brought
ends_nothing flow units before earlier are =
    let heard = are.0 before earlier in
    let high_due = device_due (after end_later before flow.alarms) in
    let low_due = device_due (after end_later before flow.low.alarms) in
    tick_nothing (after cyclic_later before flow.cyclic) (either_due high_due low_due) heard.0 heard.1
    (both_nothing high_due low_due (are.1 before earlier) (are.2 before earlier))

unsent : (flow : Flow) (units : ℕ) → tick_of (later_ends flow units) ≡ nothing_brought → flow_later (later_ends flow units) ≡ later_ends flow (suc units)
unsent flow units none =
    ap (λ (b : Brought). let next : Flow = record (later_ends flow (suc units)) { state_sent = if b.is_cyclic then state_of flow else flow.state_sent } in next) none

-- Then only the ends and their timers move.
flow_within : (flow : Flow) (units : ℕ) → AreQuiet units flow → after flow_later units flow ≡ later_ends flow units
flow_within flow zero are = refl
flow_within flow (suc units) are =
    ap flow_later (flow_within flow units (fewer flow units are)) ∙ unsent flow units (ends_nothing flow (suc units) units (omega arith) are)

pub flow_after : (flow : Flow) (units : ℕ) → IsQuietFor units flow.cyclic → NothingDue device_due end_later units flow.alarms
    → NothingDue device_due end_later units flow.low.alarms
    → after flow_later units flow ≡ with_ends flow (after cyclic_later units flow.cyclic) (after end_later units flow.alarms) (after end_later units flow.low.alarms)
flow_after flow units quiet none low = flow_within flow units (quiet, none, low)

until : (flow : Flow) (units before : ℕ) → before < units → AreQuiet units flow → AreQuiet before flow
until flow units before earlier are = (
  λ first sooner. are.0 first (omega (arith, earlier, sooner)),
  λ first sooner. are.1 first (omega (arith, earlier, sooner)),
  λ first sooner. are.2 first (omega (arith, earlier, sooner)),
)

pub brings_nothing : (flow : Flow) (units : ℕ) → IsQuietFor units flow.cyclic → NothingDue device_due end_later units flow.alarms
    → NothingDue device_due end_later units flow.low.alarms → BringNothing units flow
brings_nothing flow units quiet none low before earlier =
    let are : AreQuiet units flow = (quiet, none, low) in
    ap tick_of (flow_within flow before (until flow units before earlier are)) ∙ ends_nothing flow units before earlier are
