-- Several units of time at once, which do what as many Tick events do, one by one.
use Rattle.std.specs.Prelude.{◌≡◌, ◌<◌, ◌≤◌, ◌==◌, ◌++◌, ℕ, zero, suc, min, List, [], ◌∷◌, sum, if◌then◌else◌}
use Rattle.pn_alarms.specs.Leaps.{never}
use Rattle.asked_records.specs.Asked.{due_in}
use Rattle.relations.specs.Leaps.{due_within}
use Rattle.device_frames.specs.declared.event.Event.TheVariants.{Tick}
use Rattle.device_core.specs.State.{Live, Station}
use Rattle.device_core.specs.Machine.{Stepped, step_of}

-- The number of units up to and including the next one with which the lamp goes off.
abbrev pub lamp_off_in : ℕ → ℕ
lamp_off_in lamp = if lamp == 0 then never else lamp

-- The number of units up to and including the next one with which something is sent, an alarm is given up, the relation ends,
-- what is asked has no answer in time, or the lamp goes off.
abbrev pub live_due_in : Live → ℕ
live_due_in live = min (lamp_off_in live.rest.lamp) (min (due_within live.rest.link) (due_in live.rest.asked))

-- The state after some events, and the frames that they send, in order.
pub record Leapt : Type 0 where
  pub live : Live
  pub frames : List (List ℕ)

-- One more event.
abbrev pub and_then : Leapt → Stepped → Leapt
and_then before step = record { live = step.live; frames = before.frames ++ step.frames }

-- The state after this many Tick events, one by one, and the frames that they send.
abbrev pub ticks_of : ℕ → Station → Live → Leapt
ticks_of zero station live = record { live = live; frames = [] }
ticks_of (suc units) station live = and_then (ticks_of units station live) (step_of [] station (ticks_of units station live).live Tick)

-- None of these units sends anything, and none but the last.
abbrev pub NoneSends : ℕ → Station → Live → Type 0
NoneSends units station live = (before : ℕ) → before ≤ units → (ticks_of before station live).frames ≡ []

-- Nothing is sent before the last of these units.
abbrev pub OnlyTheLastSends : ℕ → Station → Live → Type 0
OnlyTheLastSends units station live = (before : ℕ) → before < units → (ticks_of before station live).frames ≡ []

-- Leaps one after another, each as its own number of Tick events.
abbrev pub then_leap : Leapt → Leapt → Leapt
then_leap first more = record { live = more.live; frames = first.frames ++ more.frames }

-- What these leaps do, one after another.
abbrev pub leaps_of : List ℕ → Station → Live → Leapt
leaps_of [] station live = record { live = live; frames = [] }
leaps_of (units ∷ leaps) station live = then_leap (ticks_of units station live) (leaps_of leaps station (ticks_of units station live).live)

-- However a number of units is divided into leaps, the device and the frames, in order, are those of that many Tick
-- events.
abbrev pub LeapsAreTicks : Type 0
LeapsAreTicks = (station : Station) (live : Live) (leaps : List ℕ) → leaps_of leaps station live ≡ ticks_of (sum leaps) station live
