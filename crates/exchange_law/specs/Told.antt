-- What a witness learns of a controller, entry by entry.
use Rattle.std.specs.Prelude.{◌≡◌, ◌≤◌, ℕ, List, [], ◌∷◌, ◌++◌, replicate}
use Rattle.controller_core.specs.declared.stored.event.Event.{Event}
use Rattle.controller_core.specs.declared.stored.event.Event.TheVariants.{Tick}
use Rattle.controller_core.specs.declared.stored.state.State.{State}
use Rattle.exchange_law.specs.declared.controller.Happening.{Happening}
use Rattle.exchange_law.specs.declared.controller.Happening.TheVariants.{Comes, Leaps}

-- An event, the frames that the controller sent with it, and the state that it showed then.
pub record Told : Type 0 where
  pub event : Event
  pub sent : List (List ℕ)
  pub state : State

-- This holds of each entry, with those before it.
abbrev pub AllAlong : (List Told → Told → Type 0) → List Told → List Told → Type 0
AllAlong Holds before [] = Unit {0}
AllAlong Holds before (one ∷ more) = Holds before one × AllAlong Holds (before ++ one ∷ []) more

-- This many units with which nothing is sent, and after each of which the controller shows this state.
abbrev pub quiet : ℕ → State → List Told
quiet units state = replicate units (record { event = Tick; sent = []; state = state })

-- The events of what a host does: one event, or at most this many units.
abbrev pub IsOf : Happening → List Event → Type 0
IsOf (Comes event) events = events ≡ event ∷ []
IsOf (Leaps units) events = (count : ℕ) × (count ≤ units) × (events ≡ replicate count Tick)

-- The events of all that it does, in order.
abbrev pub AreOf : List Happening → List Event → Type 0
AreOf [] events = events ≡ []
AreOf (one ∷ more) events = (first rest : List Event) × (events ≡ first ++ rest) × IsOf one first × AreOf more rest
