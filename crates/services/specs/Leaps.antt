-- Several ticks at once, before the next one that sends a frame.
use Rattle.std.specs.Prelude.{◌≡◌, ◌<◌, ◌-◌, ◌⊎◌, ℕ, zero, suc, true, max, None, if◌then◌else◌}
use Rattle.services.specs.declared.announcement.Announcement.{Announcement}
use Rattle.services.specs.declared.announcement.Announcement.TheVariants.{Nothing, First, Second}
use Rattle.services.specs.State.{State, announces, is_defended, sent_by_tick, ticked}

-- The number of ticks if nothing is ever sent: the largest number of 32 bits.
abbrev pub never : ℕ
never = 4294967295

-- The number of ticks up to and including the next one in which an announcement is sent.
abbrev pub announcement_due_in : Announcement → ℕ
announcement_due_in Nothing = never
announcement_due_in First = 1
announcement_due_in (Second ticks) = max 1 ticks

-- What is still to be sent after ticks in which no announcement is sent.
abbrev pub announcement_later : ℕ → Announcement → Announcement
announcement_later ticks Nothing = Nothing
announcement_later ticks First = First
announcement_later ticks (Second left) = Second (left - ticks)

-- The number of ticks up to and including the next one that sends a frame. A conflict is defended in the next tick, or not at
-- all.
abbrev pub due_in : State → ℕ
due_in state = if is_defended state then 1 else announcement_due_in state.announcement

-- The state after this many ticks, one by one.
abbrev pub ticks_of : ℕ → State → State
ticks_of zero state = state
ticks_of (suc ticks) state = ticked (ticks_of ticks state)

-- None of these ticks sends a frame.
abbrev pub NoneSends : ℕ → State → Type 0
NoneSends ticks state = (before : ℕ) → before < ticks → sent_by_tick (ticks_of before state) ≡ None

-- The tick of this number sends a frame, unless it is the number for never.
abbrev pub IsNextToSend : ℕ → State → Type 0
IsNextToSend due state = (due ≡ never) ⊎ (announces (ticks_of (due - 1) state) ≡ true)
