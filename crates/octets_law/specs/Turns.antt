-- The steps of a cycle, one after another, and what is reported of them.
use Rattle.std.specs.Prelude.{◌≡◌, ◌<◌, ◌^◌, ℕ, length, List, [], ◌∷◌, ◌++◌, map}
use Rattle.flash_model.specs.declared.flash.Flash.{Ghosts as Flash}
use Rattle.pn_values.specs.Settings.{factory_settings}
use Rattle.pn_values.specs.declared.settings.Settings.{Settings}
use Rattle.settings_journal.specs.Image.{LeftByDevice}
use Rattle.settings_journal.specs.settings_store.Carries.{Continues, Stretch}
use Rattle.settings_journal.specs.settings_store.Machine.{Outcome}
use Rattle.device_frames.specs.declared.event.Event.{Event}
use Rattle.device_frames.specs.declared.event.Event.TheVariants.{Frame}
use Rattle.device_frames.specs.Sendable.{AreSendable}
use Rattle.device_core.specs.Cycle.{started}
use Rattle.device_core.specs.State.{Live, State, Station, store_of}
use Rattle.device_core.specs.Machine.{first_step, handed, later_steps, run_of, step_of}
use Rattle.octets_law.specs.Octets.{number, untagged}
use Rattle.octets_law.specs.Headline.{AreCycles, IsCycle, Told}

-- The Xid of a frame has four octets.
abbrev pub IsSmall : Event → Type 0
IsSmall (Frame frame) = number 18 4 (untagged frame.items) < 2 ^ 32
IsSmall event = Unit {0}

-- One event: the step of the device, and what is reported of it.
pub record Turns {F : Type 0} {S : ℕ} (as_flash : Flash F S) (old : State F) (event : Event) (before now : List Told) (new : State F) : Type 0 where
  pub outcomes : List Outcome
  pub same : new.station ≡ old.station
  pub live : new.live ≡ (step_of outcomes old.station old.live event).live
  pub told : now ≡ before ++ (event, handed (step_of outcomes old.station old.live event)) ∷ []
  pub sendable : AreSendable old.station.identity (step_of outcomes old.station old.live event).sent
  pub small : IsSmall event
  pub continues : Continues as_flash (store_of old) (step_of outcomes old.station old.live event).accepted (store_of new)

-- the events, and what was sent at each
abbrev pub told_of : List (List Outcome) → Station → Live → List Event → List Told
told_of outcomes station live [] = []
told_of outcomes station live (event ∷ events) =
    let step = step_of (first_step outcomes) station live event in
    (event, handed step) ∷ told_of (later_steps outcomes) station step.live events

-- Each message of each step can be sent, and each Xid has four octets.
abbrev pub AreSent : List (List Outcome) → Station → Live → List Event → Type 0
AreSent outcomes station live [] = Unit {0}
AreSent outcomes station live (event ∷ events) =
    let step = step_of (first_step outcomes) station live event in
    AreSendable station.identity step.sent × IsSmall event × AreSent (later_steps outcomes) station step.live events

-- The events one after another.
pub record TurnsAll {F : Type 0} {S : ℕ} (as_flash : Flash F S) (old : State F) (events : List Event) (before now : List Told) (new : State F) : Type 0 where
  pub outcomes : List (List Outcome)
  pub many : length outcomes ≡ length events
  pub same : new.station ≡ old.station
  pub live : new.live ≡ (run_of outcomes old.station old.live events).live
  pub told : now ≡ before ++ told_of outcomes old.station old.live events
  pub sent : AreSent outcomes old.station old.live events
  pub stretch : Stretch as_flash (store_of old) (run_of outcomes old.station old.live events).accepted (store_of new)

-- A device that has just started with these settings, on a flash that it left.
pub record IsReady {F : Type 0} {S : ℕ} (as_flash : Flash F S) (station : Station) (settings : Settings) (device : State F) : Type 0 where
  pub room : ℕ
  pub station_is : device.station ≡ station
  pub fresh : device.live ≡ started station.real settings room
  pub left : LeftByDevice (as_flash.image device.flash)

-- A cycle from the first settings to a device that has started again.
pub record Lives {F : Type 0} {S : ℕ} (as_flash : Flash F S) (station : Station) (first : Settings) (events : List Event) (before now : List Told) (again : State F) : Type 0 where
  pub transcript : List Told
  pub settings : Settings
  pub told : now ≡ before ++ transcript
  pub events_are : map (λ told. told.0) transcript ≡ events
  pub is : IsCycle station.options station.identity.mac first transcript settings
  pub ready : IsReady as_flash station settings again

-- What was reported since is cycles of these events, after which a device is ready.
pub record HasLived {F : Type 0} {S : ℕ} (as_flash : Flash F S) (station : Station) (cycles : List (List Event)) (before now : List Told) (device : State F) : Type 0 where
  pub transcript : List Told
  pub settings : Settings
  pub told : now ≡ before ++ transcript
  pub are : AreCycles station.options station.identity.mac cycles transcript factory_settings settings
  pub ready : IsReady as_flash station settings device
