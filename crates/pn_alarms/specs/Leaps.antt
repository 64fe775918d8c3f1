-- Several units of time at once, before the next one with which something is due of the alarms.
use Rattle.std.specs.Prelude.{◌≡◌, ◌+◌, ◌-◌, ◌%◌, ◌<◌, ℕ, zero, suc, min, Option, Some, None, option_map}
use Rattle.pn_alarms.specs.declared.repeats.Due.{Due}
use Rattle.pn_alarms.specs.declared.repeats.Due.TheVariants.{Nothing}
use Rattle.pn_alarms.specs.Alarming.{Alarming}
use Rattle.pn_alarms.specs.Ends.{ControllerEnd, DeviceEnd}
use Rattle.pn_alarms.specs.Sending.{Sending, due}

-- The state after several units, from what one unit does.
abbrev pub after : {A : Type 0} → (A → A) → ℕ → A → A
after step zero state = state
after step (suc units) state = step (after step units state)

-- The number of units if nothing is ever due: the largest number of 32 bits.
abbrev pub never : ℕ
never = 4294967295

-- The number of units up to and including the next one with which data is sent again or given up.
abbrev pub waiting_due_in : Sending → Option ℕ → ℕ
waiting_due_in s None = never
waiting_due_in s (Some units) = min (s.limit - units) (s.interval - units % s.interval)

-- The units until data is sent again or given up.
abbrev pub data_due_in : Sending → ℕ
data_due_in s = waiting_due_in s s.waiting

-- The state after some units with which nothing is due.
abbrev pub waiting_later : ℕ → Option ℕ → Option ℕ
waiting_later units waiting = option_map (λ waited. waited + units) waiting

-- The sender of data this many units later.
abbrev pub data_later : ℕ → Sending → Sending
data_later units s = record { interval = s.interval; limit = s.limit; last = s.last; waiting = waiting_later units s.waiting }

-- What is due with the next unit of the alarm of a sender and of a device, and of the AlarmAck of a controller.
abbrev pub alarm_due : Alarming → Due
alarm_due a = due a.sending

-- What is due at the device's end with the next unit.
abbrev pub device_due : DeviceEnd → Due
device_due e = due e.sender.sending

-- What is due at the controller's end with the next unit.
abbrev pub ack_due : ControllerEnd → Due
ack_due c = due c.sending

-- Nothing is due with any of some units, if this is due with the next unit of a state, and this is what a unit does.
abbrev pub NothingDue : {A : Type 0} → (A → Due) → (A → A) → ℕ → A → Type 0
NothingDue due_now step units state = (before : ℕ) → before < units → due_now (after step before state) ≡ Nothing
