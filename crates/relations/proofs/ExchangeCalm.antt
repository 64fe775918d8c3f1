-- Several units of time at once of an exchange whose alarms have nothing to do.
use Rattle.std.proofs.Common.{◌≡◌, ◌-◌, ◌<◌, ℕ, zero, suc, refl, sym, ap, ◌∙◌, arith, Option, None, if◌then◌else◌}
use Rattle.pn_alarms.specs.declared.repeats.Due.{Due as AlarmDue}
use Rattle.pn_alarms.specs.declared.repeats.Due.TheVariants.{Nothing}
use Rattle.pn_alarms.specs.Device.{end_later}
use Rattle.pn_alarms.specs.Ends.{DeviceEnd}
use Rattle.pn_alarms.specs.Leaps.{NothingDue, after, device_due}
use Rattle.pn_alarms.specs.Sending.{due_behind, either_due, waiting_behind}
use Rattle.cyclic_data.specs.declared.status.StationState.{StationState}
use Rattle.cyclic_data.specs.exchange.Cyclic.{Cyclic}
use Rattle.cyclic_data.specs.exchange.Leaps.{IsQuietFor, frame_alone}
use Rattle.cyclic_data.specs.exchange.Units.{Brought, cyclic_later}
use Rattle.cyclic_data.specs.exchange.Units.{tick_of as cyclic_tick}
use Rattle.relations.specs.exchange.Calm.{IsCalm}
use Rattle.relations.specs.exchange.Flow.{Flow, state_of}
use Rattle.relations.specs.exchange.Leaps.{BringNothing}
use Rattle.relations.specs.exchange.Units.{flow_later, tick_of}
use Rattle.relations.proofs.ExchangeLeaps.{brings_nothing, flow_after, with_ends}

-- ---- an end of the alarms of which nothing waits

abbrev with_waiting : DeviceEnd → Option ℕ → DeviceEnd
with_waiting e waiting = record e { sender = record e.sender { sending = record e.sender.sending { waiting = waiting } } }

end_rests : (e : DeviceEnd) → e.sender.sending.waiting ≡ None → end_later e ≡ e
end_rests e rests = ap (with_waiting e) (ap (waiting_behind e.sender.sending) rests ∙ sym rests)

ends_rest : (e : DeviceEnd) (units : ℕ) → e.sender.sending.waiting ≡ None → after end_later units e ≡ e
ends_rest e zero rests = refl
ends_rest e (suc units) rests = ap end_later (ends_rest e units rests) ∙ end_rests e rests

none_due : (e : DeviceEnd) → e.sender.sending.waiting ≡ None → device_due e ≡ Nothing
none_due e rests = ap (due_behind e.sender.sending) rests

never_due : (e : DeviceEnd) (units : ℕ) → e.sender.sending.waiting ≡ None → NothingDue device_due end_later units e
never_due e units rests before earlier = ap device_due (ends_rest e before rests) ∙ none_due e rests

-- ---- the exchange

-- Only its end of cyclic data moves, and what the last frame said of the station.
abbrev pub moved : Flow → Cyclic → StationState → Flow
moved flow cyclic state = record flow { cyclic = cyclic; state_sent = state }

pub calm_after : (flow : Flow) (units : ℕ) → IsCalm flow → IsQuietFor units flow.cyclic → after flow_later units flow ≡ moved flow (after cyclic_later units flow.cyclic) flow.state_sent
calm_after flow units calm quiet =
    let cyclic = after cyclic_later units flow.cyclic in
    flow_after flow units quiet (never_due flow.alarms units calm.high) (never_due flow.low.alarms units calm.low)
    ∙ (ap (λ (e : DeviceEnd). with_ends flow cyclic e (after end_later units flow.low.alarms)) (ends_rest flow.alarms units calm.high)
    ∙ ap (with_ends flow cyclic flow.alarms) (ends_rest flow.low.alarms units calm.low))

pub calm_nothing : (flow : Flow) (units : ℕ) → IsCalm flow → IsQuietFor units flow.cyclic → BringNothing units flow
calm_nothing flow units calm quiet = brings_nothing flow units quiet (never_due flow.alarms units calm.high) (never_due flow.low.alarms units calm.low)

-- What a unit brings is then due of the end of cyclic data alone.
calm_tick : (flow : Flow) (cyclic : Cyclic) (state : StationState) → IsCalm flow → tick_of (moved flow cyclic state) ≡ cyclic_tick cyclic Nothing
calm_tick flow cyclic state calm =
    ap (λ (d : AlarmDue). cyclic_tick cyclic (either_due d (device_due flow.low.alarms))) (none_due flow.alarms calm.high)
    ∙ ap (λ (d : AlarmDue). cyclic_tick cyclic (either_due Nothing d)) (none_due flow.low.alarms calm.low)

pub calm_last : (flow : Flow) (units : ℕ) → IsCalm flow → IsQuietFor units flow.cyclic → cyclic_tick (after cyclic_later units flow.cyclic) Nothing ≡ frame_alone
    → tick_of (after flow_later units flow) ≡ frame_alone
calm_last flow units calm quiet last =
    ap tick_of (calm_after flow units calm quiet) ∙ (calm_tick flow (after cyclic_later units flow.cyclic) flow.state_sent calm ∙ last)

-- The exchange after a unit, by what it brings.
abbrev brought_to : Flow → Cyclic → DeviceEnd → DeviceEnd → Brought → Flow
brought_to flow cyclic alarms low brought =
    record flow { cyclic = cyclic; alarms = alarms; low = record flow.low { alarms = low }; state_sent = if brought.is_cyclic then state_of flow else flow.state_sent }

calm_sent : (flow : Flow) (units : ℕ) → IsCalm flow → IsQuietFor units flow.cyclic → cyclic_tick (after cyclic_later units flow.cyclic) Nothing ≡ frame_alone
    → after flow_later (suc units) flow ≡ moved flow (after cyclic_later (suc units) flow.cyclic) (state_of flow)
calm_sent flow units calm quiet last =
    let cyclic = after cyclic_later (suc units) flow.cyclic in
    let brought = tick_of (moved flow (after cyclic_later units flow.cyclic) flow.state_sent) in
    ap flow_later (calm_after flow units calm quiet)
    ∙ (ap (λ (e : DeviceEnd). brought_to flow cyclic e (end_later flow.low.alarms) brought) (end_rests flow.alarms calm.high)
    ∙ (ap (λ (e : DeviceEnd). brought_to flow cyclic flow.alarms e brought) (end_rests flow.low.alarms calm.low)
    ∙ ap (brought_to flow cyclic flow.alarms flow.low.alarms) (calm_tick flow (after cyclic_later units flow.cyclic) flow.state_sent calm ∙ last)))

pub calm_sent_by : (flow : Flow) (units : ℕ) → 0 < units → IsCalm flow → IsQuietFor (units - 1) flow.cyclic → cyclic_tick (after cyclic_later (units - 1) flow.cyclic) Nothing ≡ frame_alone
    → after flow_later units flow ≡ moved flow (after cyclic_later units flow.cyclic) (state_of flow)
calm_sent_by flow zero some calm quiet last = absurd (omega (arith, some))
calm_sent_by flow (suc units) some calm quiet last =
    let one : suc units - 1 ≡ units = omega arith in
    calm_sent flow units calm (rw one at quiet) (rw one at last)
