-- Several units of time at once at a station, which do what as many Tick events do, one by one.
use Rattle.std.specs.Prelude.{◌≡◌, ◌<◌, ◌≤◌, ◌+◌, ◌-◌, ◌++◌, false, true, ℕ, Bool, zero, suc, min, List, [], ◌∷◌, sum, if◌then◌else◌}
use Rattle.pn_values.specs.declared.settings.Settings.{Settings}
use Rattle.settings_journal.specs.settings_store.State.{Values}
use Rattle.pn_values.specs.declared.identity.Identity.{Identity}
use Rattle.device_frames.specs.declared.event.Event.TheVariants.{Tick}
use Rattle.device_frames.specs.declared.note.Note.TheVariants.{Done}
use Rattle.device_core.specs.State.{Live, Station}
use Rattle.device_core.specs.Machine.{Stepped, step_of}
use Rattle.device_core.specs.Leaps.{live_due_in}
use Rattle.services.specs.Leaps.{never}
use Rattle.device_station.specs.Serving.{Serving, due_in, knows, news_in, serving_ticks, told}
use Rattle.device_station.specs.Beside.{Beside, beside}

-- The number of units up to and including the next one with which the services beside a device with these running settings send
-- a frame, or see that they are others than they know. Once power is lost they do nothing.
abbrev pub due_at : Bool → Settings → Serving → ℕ
due_at is_lost running state = if is_lost then never else (if knows state running then due_in state else 1)

-- The units until something is due of the services beside a device with these settings.
abbrev pub services_due : Values → Serving → ℕ
services_due values state = due_at values.is_lost values.running state

-- The number of units up to and including the next one that brings something to a station: the smaller of the device's and the
-- services'.
abbrev pub due_beside : Live → Serving → ℕ
due_beside live state = min (live_due_in live) (services_due live.values state)

-- A Tick event beside a device with these settings.
abbrev pub tick_beside : Identity → Values → Serving → Beside
tick_beside identity values state = beside identity state values Done Tick

-- The services after this many Tick events beside a device with these settings.
abbrev pub beside_ticks : Identity → Values → ℕ → Serving → Serving
beside_ticks identity values zero state = state
beside_ticks identity values (suc units) state = (tick_beside identity values (beside_ticks identity values units state)).services

-- None of these Tick events sends a frame.
abbrev pub NoneSendsBeside : ℕ → Identity → Values → Serving → Type 0
NoneSendsBeside units identity values state =
    (before : ℕ) → before < units → (tick_beside identity values (beside_ticks identity values before state)).sent ≡ []

-- None of these Tick events changes the neighbour.
abbrev pub NoNewsBeside : ℕ → Identity → Values → Serving → Type 0
NoNewsBeside units identity values state =
    (before : ℕ) → before < units → (beside_ticks identity values before state).has_news ≡ state.has_news

-- What the services do beside at least one Tick event and at most as many as are due: none but the last sends anything or changes
-- the neighbour.
pub record Follows (identity : Identity) (values : Values) (units : ℕ) (state after : Serving) (sent : List (List ℕ)) : Type 0 where
  pub is : after ≡ beside_ticks identity values units state
  pub none : NoneSendsBeside (units - 1) identity values state
  pub quiet : NoNewsBeside units identity values state
  pub frames : sent ≡ (tick_beside identity values (beside_ticks identity values (units - 1) state)).sent

-- What the services do beside each device that has lost its power or not, and has these running settings, in at least one
-- Tick event and at most as many as are due.
abbrev pub FollowsAt : Bool → Settings → ℕ → Serving → Serving → List (List ℕ) → Type 0
FollowsAt is_lost running units state after sent =
    (identity : Identity) (values : Values) → values.is_lost ≡ is_lost → values.running ≡ running → Follows identity values units state after sent

-- As long as nothing is due of the services, a Tick event beside a device with power is a tick of theirs and no more, and
-- sends nothing.
abbrev pub QuietUnitsAreTicks : Type 0
QuietUnitsAreTicks = (identity : Identity) (values : Values) (units : ℕ) (state : Serving) → values.is_lost ≡ false → units < services_due values state
    → (beside_ticks identity values units state ≡ serving_ticks units state) × NoneSendsBeside units identity values state × (units < due_in state)

-- What is due of the services after such units is at least what was due less these.
abbrev pub QuietUnitsCount : Type 0
QuietUnitsCount = (values : Values) (units : ℕ) (state : Serving) → values.is_lost ≡ false → units < services_due values state
    → services_due values state ≤ units + services_due values (serving_ticks units state)

-- It is at most that, unless it was the number for never. So each such unit takes one off what is due.
abbrev pub QuietUnitsCountDown : Type 0
QuietUnitsCountDown = (values : Values) (units : ℕ) (state : Serving) → values.is_lost ≡ false → units < services_due values state
    → services_due values state < never → units + services_due values (serving_ticks units state) ≤ services_due values state

-- Units before anything is due of the services do not change the neighbour.
abbrev pub QuietUnitsBringNoNews : Type 0
QuietUnitsBringNoNews = (units : ℕ) (state : Serving) → units < due_in state → (serving_ticks units state).has_news ≡ state.has_news

-- The device and the services after some events, and the frames that they send, in order.
pub record Leapt : Type 0 where
  pub live : Live
  pub services : Serving
  pub frames : List (List ℕ)

-- A step of the device, and what the services do beside it.
abbrev pub both_of : Stepped → Beside → Leapt
both_of step after = record { live = step.live; services = after.services; frames = step.frames ++ after.sent }

-- One Tick event at a station whose device knows its neighbour: a step of the device alone, exactly as specified, and
-- what the services do beside it.
abbrev pub plain_tick : Station → Live → Serving → Leapt
plain_tick station live state =
    let step = step_of [] station live Tick in both_of step (beside station.identity state step.live.values step.note Tick)

-- The neighbour is reported to the device, if that changed: a step of the device alone, which sends nothing.
abbrev pub told_if : Bool → Station → Live → Serving → Leapt
told_if true station live state = record { live = (step_of [] station live (news_in state)).live; services = told state; frames = [] }
told_if false station live state = record { live = live; services = state; frames = [] }

-- The station once its neighbour is reported to its device, if that changed.
abbrev pub told_at : Station → Live → Serving → Leapt
told_at station live state = told_if state.has_news station live state

-- One Tick event at a station: the neighbour is reported to the device first, if that changed.
abbrev pub tick_of : Station → Live → Serving → Leapt
tick_of station live state = let ready = told_at station live state in plain_tick station ready.live ready.services

-- More, after some events.
abbrev pub then_leap : Leapt → Leapt → Leapt
then_leap first more = record { live = more.live; services = more.services; frames = first.frames ++ more.frames }

-- The state after this many Tick events, one by one, and the frames that they send.
abbrev pub ticks_of : ℕ → Station → Live → Serving → Leapt
ticks_of zero station live state = record { live = live; services = state; frames = [] }
ticks_of (suc units) station live state =
    let before = ticks_of units station live state in then_leap before (tick_of station before.live before.services)

-- The state after this many Tick events at a station to whose device no neighbour is reported in between, and the frames that
-- they send.
abbrev pub plain_ticks : ℕ → Station → Live → Serving → Leapt
plain_ticks zero station live state = record { live = live; services = state; frames = [] }
plain_ticks (suc units) station live state =
    let before = plain_ticks units station live state in then_leap before (plain_tick station before.live before.services)

-- None of these units but the last sends anything.
abbrev pub OnlyTheLastSends : ℕ → Station → Live → Serving → Type 0
OnlyTheLastSends units station live state = (before : ℕ) → before < units → (ticks_of before station live state).frames ≡ []

-- None of these units but the last sends anything, if no neighbour is reported to the device in between.
abbrev pub OnlyTheLastOfPlain : ℕ → Station → Live → Serving → Type 0
OnlyTheLastOfPlain units station live state = (before : ℕ) → before < units → (plain_ticks before station live state).frames ≡ []

-- None of these units but the last changes the neighbour.
abbrev pub OnlyTheLastMeets : ℕ → Station → Live → Serving → Type 0
OnlyTheLastMeets units station live state = (before : ℕ) → before < units → (plain_ticks before station live state).services.has_news ≡ state.has_news

-- Leaps one after another, each as its own number of Tick events.
abbrev pub leaps_of : List ℕ → Station → Live → Serving → Leapt
leaps_of [] station live state = record { live = live; services = state; frames = [] }
leaps_of (units ∷ leaps) station live state =
    let first = ticks_of units station live state in then_leap first (leaps_of leaps station first.live first.services)

-- However a number of units is divided into leaps, the station and the frames, in order, are those of that many Tick
-- events.
abbrev pub LeapsAreTicks : Type 0
LeapsAreTicks = (station : Station) (live : Live) (state : Serving) (leaps : List ℕ) → leaps_of leaps station live state ≡ ticks_of (sum leaps) station live state
