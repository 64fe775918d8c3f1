-- The times at which frames are due, the frames that are accepted, and the watchdog (IEC 61158-6-10, 4.7).
use Rattle.std.specs.Prelude.{◌≡◌, ◌==◌, ◌+◌, ◌-◌, ◌%◌, ◌&&◌, ℕ, Bool, true, min, nat_le, Option, Some, None, if◌then◌else◌}
use Rattle.std.specs.Int.RustNames.{bit_and}

-- A provider: the units of its interval, and those since the last frame was due.
pub record Sending : Type 0 where
  pub interval : ℕ
  pub elapsed : ℕ

-- Whether a frame is due with the next unit.
abbrev pub is_due : Sending → Bool
is_due sending = sending.elapsed + 1 == sending.interval

-- The provider after one more unit.
abbrev pub unit_later : Sending → Sending
unit_later sending = record { interval = sending.interval; elapsed = if is_due sending then 0 else sending.elapsed + 1 }

-- A provider that has run for `units` units.
abbrev pub HasRun : Sending → ℕ → Type 0
HasRun sending units = sending.elapsed ≡ units % sending.interval

-- A consumer: the counter of the last accepted frame, the units since then, and the limit of these.
pub record Hearing : Type 0 where
  pub last : Option ℕ
  pub held : ℕ
  pub limit : ℕ

-- Whether a counter is newer: 1 to 61,440 ahead of the last one, modulo 65,536.
abbrev pub is_ahead : ℕ → Bool
is_ahead gap = nat_le 1 gap && nat_le gap 61440

-- Whether a CycleCounter is newer than the last accepted one: 1 to 61,440 ahead, modulo 65,536. The first one always is.
abbrev pub is_newer : Option ℕ → ℕ → Bool
is_newer None counter = true
is_newer (Some last) counter = is_ahead ((counter + 65536 - last) % 65536)

-- Whether a frame is accepted: its data is valid, its transfer status is 0, and its counter is newer.
abbrev pub is_taken : Option ℕ → ℕ → ℕ → ℕ → Bool
is_taken last counter data_status transfer_status =
    (bit_and data_status 4 == 4) && (transfer_status == 0) && is_newer last counter

-- The consumer after a frame.
abbrev pub heard : Hearing → ℕ → ℕ → ℕ → Hearing
heard hearing counter data_status transfer_status =
    if is_taken hearing.last counter data_status transfer_status
    then record { last = Some counter; held = 0; limit = hearing.limit }
    else hearing

-- The consumer after one more unit; the units stop at the limit.
abbrev pub held_on : Hearing → Hearing
held_on hearing = record { last = hearing.last; held = min hearing.limit (hearing.held + 1); limit = hearing.limit }

-- A consumer that has waited for `units` units: those since the last accepted frame or the restart, up to the limit.
abbrev pub HasWaited : Hearing → ℕ → Type 0
HasWaited hearing units = hearing.held ≡ min hearing.limit units
