-- Several ticks at once, before the next one that sends an announcement or forgets the neighbour.
use Rattle.std.specs.Prelude.{◌≡◌, ◌<◌, ◌-◌, ◌||◌, ℕ, zero, suc, Bool, false, Option, Some, None, max, min}
use Rattle.lldp.specs.State.{State, Known, is_sending, is_over, ticked}

-- this many ticks, or fewer if the neighbour is forgotten before
abbrev pub sooner : Option Known → ℕ → ℕ
sooner None ticks = ticks
sooner (Some known) ticks = min (max 1 known.left) ticks

-- the number of ticks up to and including the next one that sends an announcement or forgets the neighbour
abbrev pub due_in : State → ℕ
due_in state = sooner state.known (max state.next 1)

-- the neighbour after ticks that do not forget it
abbrev pub known_later : ℕ → Option Known → Option Known
known_later ticks None = None
known_later ticks (Some known) = Some (record known { left = known.left - ticks })

-- the state after ticks that neither send nor forget
abbrev pub later : ℕ → State → State
later ticks state = record state { next = state.next - ticks; known = known_later ticks state.known }

-- whether a tick sends an announcement or forgets the neighbour
abbrev pub acts : State → Bool
acts state = is_sending state || is_over state.known

-- the state after this many ticks, one by one
abbrev pub ticks_of : ℕ → State → State
ticks_of zero state = state
ticks_of (suc ticks) state = ticked (ticks_of ticks state)

-- none of these ticks sends an announcement or forgets the neighbour
abbrev pub NoneActs : ℕ → State → Type 0
NoneActs ticks state = (before : ℕ) → before < ticks → acts (ticks_of before state) ≡ false
