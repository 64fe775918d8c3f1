-- If a unit repeats no data of the alarms, no AlarmAck of either priority is sent again.
use Rattle.std.proofs.Common.{◌≡◌, Bool, true, false, List, [], Option, Some, None, refl, ap, ◌∙◌, sym}
use Rattle.std.specs.Prelude.{if◌then◌else◌}
use Rattle.pn_alarms.specs.declared.abort.Abort.{Abort}
use Rattle.pn_alarms.specs.declared.abort.Abort.TheVariants.{DataHold}
use Rattle.pn_alarms.specs.declared.repeats.Due.{Due}
use Rattle.pn_alarms.specs.declared.repeats.Due.TheVariants.{Nothing, Again, Spent}
use Rattle.pn_alarms.specs.Sending.{due, either_due}
use Rattle.pn_alarms.specs.Sending.{is_again as is_repeated}
use Rattle.cyclic_data.specs.exchange.Cyclic.{Cyclic}
use Rattle.cyclic_data.specs.exchange.Units.{Brought, ending_by, ending_of, is_silent, tick_by, tick_of}
use Rattle.controller_messages.specs.Sent.{Sent}
use Rattle.controller_core.specs.Machine.{Turn, brought, flowed, outputs_of, where_due}
use Rattle.controller_core.specs.stored.State.{Live}

abbrev only_cyclic : Bool → Brought
only_cyclic is_cyclic = record { ending = None; is_alarm = false; is_cyclic = is_cyclic }

abbrev AreQuiet : Due → Due → Type 0
AreQuiet high low = (is_repeated high ≡ false) × (is_repeated low ≡ false)

-- Neither is due again, if neither is given up and none of both is due again.
neither : (high low : Due) → ending_by (either_due high low) ≡ None → is_repeated (either_due high low) ≡ false → AreQuiet high low
neither Nothing Nothing none quiet = (refl, refl)
neither Again Nothing none quiet = absurd cc
neither Spent Nothing none quiet = (refl, refl)
neither Nothing Again none quiet = absurd cc
neither Again Again none quiet = absurd cc
neither Spent Again none quiet = absurd cc
neither Nothing Spent none quiet = (refl, refl)
neither Again Spent none quiet = absurd cc
neither Spent Spent none quiet = (refl, refl)

by_tick : (cyclic : Cyclic) (alarm : Due) (ending : Option Abort) (is_cyclic : Bool) → tick_by cyclic alarm ending ≡ only_cyclic is_cyclic
    → (ending ≡ None) × (is_repeated alarm ≡ false)
by_tick cyclic alarm (Some reason) is_cyclic is = let some = ap (λ (b : Brought). b.ending) is in absurd cc
by_tick cyclic alarm None is_cyclic is = (refl, ap (λ (b : Brought). b.is_alarm) is)

not_silent : (silent : Bool) (ending : Option Abort) → (if silent then Some DataHold else ending) ≡ None → ending ≡ None
not_silent true ending is = absurd cc
not_silent false ending is = is

quiet_acks : (cyclic : Cyclic) (high low : Due) (is_cyclic : Bool) → tick_of cyclic (either_due high low) ≡ only_cyclic is_cyclic → AreQuiet high low
quiet_acks cyclic high low is_cyclic is =
    let alarm = either_due high low in
    let parts = by_tick cyclic alarm (ending_of cyclic alarm) is_cyclic is in
    neither high low (not_silent (is_silent cyclic) (ending_by alarm) parts.0) parts.1

abbrev turn_with : Live → List Sent → Turn
turn_with live sent = record { live = live; sent = sent }

quiet_flows : (live : Live) (high low : Due) (is_cyclic : Bool) → AreQuiet high low
    → flowed live high low false (only_cyclic is_cyclic) None ≡ turn_with live (where_due is_cyclic (outputs_of live))
quiet_flows live high low is_cyclic (one, other) = rw (one, other) refl

-- A unit that brings nothing of the relation, or outputs alone.
flows_as : (live before : Live) (tick : Brought) (is_cyclic : Bool) → tick ≡ brought before → tick ≡ only_cyclic is_cyclic
    → flowed live (due before.alarms.sending) (due before.low_alarms.sending) false tick tick.ending ≡ turn_with live (where_due is_cyclic (outputs_of live))
flows_as live before tick is_cyclic is same =
    let high = due before.alarms.sending in
    let low = due before.low_alarms.sending in
    ap (λ (b : Brought). flowed live high low false b b.ending) same
    ∙ quiet_flows live high low is_cyclic (quiet_acks before.cyclic high low is_cyclic (sym is ∙ same))

pub flows_nothing : (live before : Live) (tick : Brought) → tick ≡ brought before → tick ≡ only_cyclic false
    → flowed live (due before.alarms.sending) (due before.low_alarms.sending) false tick tick.ending ≡ turn_with live []
flows_nothing live before tick is same = flows_as live before tick false is same

pub flows_outputs : (live before : Live) (tick : Brought) → tick ≡ brought before → tick ≡ only_cyclic true
    → flowed live (due before.alarms.sending) (due before.low_alarms.sending) false tick tick.ending ≡ turn_with live (outputs_of live)
flows_outputs live before tick is same = flows_as live before tick true is same
