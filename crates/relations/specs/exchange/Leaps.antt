-- Several units of time at once, before the next one that brings something to an exchange.
use Rattle.std.specs.Prelude.{◌≡◌, ◌<◌, ℕ, false, min, None}
use Rattle.pn_alarms.specs.Leaps.{after, data_due_in}
use Rattle.cyclic_data.specs.exchange.Leaps.{cyclic_due_in}
use Rattle.cyclic_data.specs.exchange.Units.{Brought}
use Rattle.relations.specs.exchange.Flow.{Flow}
use Rattle.relations.specs.exchange.Units.{flow_later, tick_of}

-- The number of units up to and including the next one with which a frame is due, the data hold time is over, or an alarm is
-- sent again or given up.
abbrev pub flow_due_in : Flow → ℕ
flow_due_in flow =
    min (min (cyclic_due_in flow.cyclic) (data_due_in flow.alarms.sender.sending)) (data_due_in flow.low.alarms.sender.sending)

-- Nothing is brought.
abbrev pub nothing_brought : Brought
nothing_brought = record { ending = None; is_alarm = false; is_cyclic = false }

-- Each of the next units brings nothing.
abbrev pub BringNothing : ℕ → Flow → Type 0
BringNothing units flow = (before : ℕ) → before < units → tick_of (after flow_later before flow) ≡ nothing_brought
