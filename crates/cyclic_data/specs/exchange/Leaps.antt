-- Several units of time at once, before the next one with which something is due of one end.
use Rattle.std.specs.Prelude.{◌≡◌, ◌<◌, ℕ, false, true, None, min, if◌then◌else◌}
use Rattle.cyclic_data.specs.Leaps.{frame_due_in, held_for, over_in}
use Rattle.cyclic_data.specs.Timing.{Hearing, is_due}
use Rattle.pn_alarms.specs.Leaps.{after, never}
use Rattle.cyclic_data.specs.exchange.Cyclic.{Cyclic}
use Rattle.cyclic_data.specs.exchange.Units.{Brought, cyclic_later, is_silent}

-- The number of units up to and including the next one with which the data hold time is over. It runs while data is
-- exchanged.
abbrev pub silent_in : Cyclic → ℕ
silent_in cyclic = if cyclic.begun then over_in cyclic.hearing else never

-- The consumer several units later, before the one with which the data hold time is over.
abbrev pub waited_for : ℕ → Cyclic → Hearing
waited_for units cyclic = if cyclic.begun then held_for units cyclic.hearing else cyclic.hearing

-- The number of units up to and including the next one with which a frame is due or the data hold time is over.
abbrev pub cyclic_due_in : Cyclic → ℕ
cyclic_due_in cyclic = min (frame_due_in cyclic.sending) (silent_in cyclic)

-- With the next unit no frame is due, and the data hold time is not over.
abbrev pub IsQuiet : Cyclic → Type 0
IsQuiet cyclic = (is_silent cyclic ≡ false) × (is_due cyclic.sending ≡ false)

-- With each of the next units no frame is due, and the data hold time is not over.
abbrev pub IsQuietFor : ℕ → Cyclic → Type 0
IsQuietFor units cyclic = (before : ℕ) → before < units → IsQuiet (after cyclic_later before cyclic)

-- A frame is sent, and nothing else is due.
abbrev pub frame_alone : Brought
frame_alone = record { ending = None; is_alarm = false; is_cyclic = true }
