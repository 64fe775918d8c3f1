-- The services over any list of events.
use Rattle.std.specs.Prelude.{◌≡◌, ◌+◌, ℕ, List, [], ◌∷◌}
use Rattle.services.specs.State.{State, observed, ticked}
use Rattle.services.specs.Answer.{heard}

-- What happens to the services: a frame, a tick, or the end of a step at which this address is the running one.
pub data Event : Type 0 where
  Hears : (bytes : List ℕ) → Event
  Ticks : Event
  Observes : (address : List ℕ) → Event

-- the state after an event
abbrev pub after_event : State → Event → State
after_event state (Hears bytes) = heard state bytes
after_event state Ticks = ticked state
after_event state (Observes address) = observed state address

-- the state after events
abbrev pub after : State → List Event → State
after state [] = state
after state (event ∷ events) = after (after_event state event) events

-- how many ticks are among the events
abbrev pub ticks_in : List Event → ℕ
ticks_in [] = 0
ticks_in (Ticks ∷ events) = 1 + ticks_in events
ticks_in (Hears bytes ∷ events) = ticks_in events
ticks_in (Observes address ∷ events) = ticks_in events

-- each step ends with this running address
abbrev pub KeepsAddress : List ℕ → List Event → Type 0
KeepsAddress address [] = Unit {0}
KeepsAddress address (Observes seen ∷ events) = (seen ≡ address) × KeepsAddress address events
KeepsAddress address (Hears bytes ∷ events) = KeepsAddress address events
KeepsAddress address (Ticks ∷ events) = KeepsAddress address events
