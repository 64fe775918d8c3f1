-- Several units at once, before the next one with which a frame is due or the time of a consumer is over.
use Rattle.std.specs.Prelude.{◌+◌, ◌-◌, ℕ, max}
use Rattle.cyclic_data.specs.Timing.{Hearing, Sending}

-- The number of units up to and including the next one with which a frame is due.
abbrev pub frame_due_in : Sending → ℕ
frame_due_in sending = sending.interval - sending.elapsed

-- The provider after some units with which no frame is due.
abbrev pub units_later : ℕ → Sending → Sending
units_later units sending = record { interval = sending.interval; elapsed = sending.elapsed + units }

-- The number of units up to and including the next one with which the time of a consumer is over.
abbrev pub over_in : Hearing → ℕ
over_in hearing = max 1 (hearing.limit - hearing.held)

-- The consumer after some units with which its time is not over.
abbrev pub held_for : ℕ → Hearing → Hearing
held_for units hearing = record { last = hearing.last; held = hearing.held + units; limit = hearing.limit }
