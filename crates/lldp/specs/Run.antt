-- Neighbours over any list of events.
use Rattle.std.specs.Prelude.{◌≡◌, ◌+◌, ℕ, List, [], ◌∷◌, None}
use Rattle.pn_values.specs.declared.mac.Mac.{Mac}
use Rattle.lldp.specs.Frame.{told_in}
use Rattle.lldp.specs.State.{State, heard, ticked}

-- What happens: a frame, or a tick.
pub data Event : Type 0 where
  Hears : (bytes : List ℕ) → Event
  Ticks : Event

-- the state after an event
abbrev pub after_event : State → Event → State
after_event state (Hears bytes) = heard state bytes
after_event state Ticks = ticked state

-- the state after events
abbrev pub after : State → List Event → State
after state [] = state
after state (event ∷ events) = after (after_event state event) events

-- how many ticks are among the events
abbrev pub ticks_in : List Event → ℕ
ticks_in [] = 0
ticks_in (Ticks ∷ events) = 1 + ticks_in events
ticks_in (Hears bytes ∷ events) = ticks_in events

-- no frame among the events tells the station of this MAC address of a neighbour
abbrev pub TellsNothing : Mac → List Event → Type 0
TellsNothing own [] = Unit {0}
TellsNothing own (Hears bytes ∷ events) = (told_in own bytes ≡ None) × TellsNothing own events
TellsNothing own (Ticks ∷ events) = TellsNothing own events
