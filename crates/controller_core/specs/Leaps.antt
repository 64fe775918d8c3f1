-- Several units of time at once, which do what as many Tick events do, one by one.
use Rattle.std.specs.Prelude.{◌≡◌, ◌==◌, ◌||◌, ◌<◌, ◌≤◌, ◌-◌, ◌++◌, not, ℕ, zero, suc, min, List, [], ◌∷◌, sum, is_some, if◌then◌else◌}
use Rattle.pn_alarms.specs.Leaps.{data_due_in, never}
use Rattle.cyclic_data.specs.exchange.Leaps.{cyclic_due_in}
use Rattle.controller_core.specs.declared.stored.event.Event.TheVariants.{Tick}
use Rattle.controller_core.specs.stored.State.{Controlling, Live}
use Rattle.controller_messages.specs.Access.{is_free}
use Rattle.controller_core.specs.Machine.{Stepped, can_begin, step_of}

-- The number of units up to and including the next one with which the request is sent again.
abbrev pub request_due_in : Live → ℕ
request_due_in live = if is_some live.asked then 32000 - live.waited else never

-- The number of units up to and including the next one with which the request beside the exchange is sent again, or the turn of a
-- place begins.
abbrev pub access_due_in : Live → ℕ
access_due_in live = if not (is_free live.access) || can_begin live then 32000 - live.waited else never

-- The number of units up to and including the next one with which the relation sends a frame or ends.
abbrev pub exchange_due_in : Live → ℕ
exchange_due_in live =
    if live.stands then min (access_due_in live) (min (min (cyclic_due_in live.cyclic) (data_due_in live.alarms.sending)) (data_due_in live.low_alarms.sending)) else never

-- The number of units up to and including the next one with which the patience of its phase ends.
abbrev pub patience_due_in : Live → ℕ
patience_due_in live = if live.left == 0 then never else live.left

-- The number of units up to and including the next one with which something is sent, or the controller ends.
abbrev pub live_due_in : Live → ℕ
live_due_in live = min (patience_due_in live) (min (request_due_in live) (exchange_due_in live))

-- The controller after this many Tick events, one by one, and the frames that they send, in order.
abbrev pub and_then : Stepped → Stepped → Stepped
and_then before step = record { controller = step.controller; frames = before.frames ++ step.frames }

-- What this number of Tick events does, one by one.
abbrev pub ticks_of : ℕ → Controlling → Stepped
ticks_of zero controlling = record { controller = controlling; frames = [] }
ticks_of (suc units) controlling = and_then (ticks_of units controlling) (step_of (ticks_of units controlling).controller Tick)

-- None of these units sends anything.
abbrev pub NoneSends : ℕ → Controlling → Type 0
NoneSends units controlling = (before : ℕ) → before ≤ units → (ticks_of before controlling).frames ≡ []

-- None of these units but the last sends anything.
abbrev pub OnlyTheLastSends : ℕ → Controlling → Type 0
OnlyTheLastSends units controlling = (before : ℕ) → before < units → (ticks_of before controlling).frames ≡ []

-- None of these units changes the phase of the controller.
abbrev pub NoneEnds : ℕ → Controlling → Type 0
NoneEnds units controlling = (before : ℕ) → before ≤ units → (ticks_of before controlling).controller.live.phase ≡ controlling.live.phase

-- None of these units but the last changes it.
abbrev pub OnlyTheLastEnds : ℕ → Controlling → Type 0
OnlyTheLastEnds units controlling = (before : ℕ) → before < units → (ticks_of before controlling).controller.live.phase ≡ controlling.live.phase

-- Leaps one after another, each as its own number of Tick events.
abbrev pub leaps_of : List ℕ → Controlling → Stepped
leaps_of [] controlling = record { controller = controlling; frames = [] }
leaps_of (units ∷ leaps) controlling = and_then (ticks_of units controlling) (leaps_of leaps (ticks_of units controlling).controller)

-- However a number of units is divided into leaps, the controller and the frames, in order, are those of that many Tick
-- events.
abbrev pub LeapsAreTicks : Type 0
LeapsAreTicks = (controlling : Controlling) (leaps : List ℕ) → leaps_of leaps controlling ≡ ticks_of (sum leaps) controlling
