-- Several ticks at once.
use Rattle.std.specs.Prelude.{◌==◌, ℕ, zero, suc, List, [], ◌∷◌, map, min, if◌then◌else◌}
use Rattle.rpc_services.specs.pieces.State.{State, Unfinished, older, ticked}

-- the state after this many ticks, one by one
abbrev pub ticks_of : ℕ → State → State
ticks_of zero state = state
ticks_of (suc ticks) state = ticked (ticks_of ticks state)

-- the state after this many ticks
abbrev pub later : ℕ → State → State
later ticks state = record state { calls = map (older ticks) state.calls }

-- the number of ticks up to and including the next one that drops one of these; this many if nothing is unfinished
abbrev pub soonest : ℕ → List Unfinished → ℕ
soonest never [] = never
soonest never (u ∷ us) = if u.left == 0 then soonest never us else soonest (min never u.left) us

-- the number of ticks up to and including the next one that drops a call; 4,294,967,295 if nothing is unfinished
abbrev pub due_in : State → ℕ
due_in state = soonest 4294967295 state.calls
