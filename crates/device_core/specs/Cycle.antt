-- A cycle of a device, from a start to the next one after a power failure.
use Rattle.std.specs.Prelude.{◌≡◌, ◌⊎◌, ℕ, false, List, [], ◌∷◌, ◌++◌}
use Rattle.flash_model.specs.declared.flash.Flash.{Ghosts as Flash}
use Rattle.pn_values.specs.declared.settings.Settings.{Settings}
use Rattle.settings_journal.specs.declared.journal.BootFault.{BootFault}
use Rattle.settings_journal.specs.declared.journal.BootFault.TheVariants.{Foreign}
use Rattle.settings_journal.specs.Commit.{HasBootCause}
use Rattle.settings_journal.specs.Image.{StartsWith, IsForeign, LeftByDevice}
use Rattle.settings_journal.specs.settings_store.Machine.{Outcome, Accepted}
use Rattle.settings_journal.specs.settings_store.Legal.{CrashSafe, made_of}
use Rattle.settings_journal.specs.settings_store.Carries.{IsCaused}
use Rattle.relations.specs.Exchanged.{output_in}
use Rattle.device_frames.specs.declared.event.Event.{Event}
use Rattle.pn_values.specs.declared.real.Real.{Real}
use Rattle.device_core.specs.State.{Station, State, Live, at_start}
use Rattle.device_core.specs.Machine.{Ran, run_of}
use Rattle.relations.specs.Outputs.{output_of, zero_output}
use Rattle.device_core.specs.Steps.{EventByEvent, AnswersBy}

-- A device as it starts: the stored settings are the running settings, no commit failed, there is power, and nothing
-- else remains of an earlier cycle.
abbrev pub started : Real → Settings → ℕ → Live
started given settings room = record {
  values = record { running = settings; stored = settings; room = room; has_failed = false; is_lost = false };
  rest = at_start given;
}

-- The events of a cycle that begins with the first settings, and with room for this many commits.
abbrev pub cycle_of : List (List Outcome) → Station → Settings → ℕ → List Event → Ran
cycle_of outcomes station first room events = run_of outcomes station (started station.real first room) events

-- The settings that all accepted commands make of the first ones, or all but a last one that was not answered 'done'.
abbrev pub IsMadeOf : List Accepted → Settings → Settings → Type 0
IsMadeOf accepted first settings =
    (settings ≡ made_of accepted first)
    ⊎ ((front : List Accepted) × (last : Accepted) × (accepted ≡ front ++ last ∷ []) × (last.is_done ≡ false) × (settings ≡ made_of front first))

-- The events of a cycle were run, from a start on the flash that gave the first settings, with any outcomes of the
-- flash for the calls that store: there are no outcomes if no commit failed, each has its cause in its own item, what
-- was sent was handed on, the flash is left safe, and if no command was accepted it is left as the start left it.
pub record Cycled {F : Type 0} {S : ℕ} (as_flash : Flash F S) (station : Station) (flash : F) (first : Settings) (room : ℕ) (events : List Event) (before now : List (List ℕ)) (outcomes : List (List Outcome)) (lost : F) : Type 0 where
  pub begun : F
  pub begins : (as_flash.image begun ≡ as_flash.image flash) × (as_flash.failures begun ≡ as_flash.failures flash) × as_flash.asked flash [] begun
  pub caused : IsCaused (as_flash.failures flash) (as_flash.failures lost) (started station.real first room).values (cycle_of outcomes station first room events).live.values
  pub inactive : (cycle_of outcomes station first room events).live.values.has_failed ≡ false → outcomes ≡ []
  pub placed : EventByEvent as_flash outcomes station begun (started station.real first room) events lost
  pub handed_on : now ≡ before ++ (cycle_of outcomes station first room events).frames
  pub safe : CrashSafe false first (cycle_of outcomes station first room events).accepted (as_flash.image flash) (as_flash.image lost)
  pub untouched : (cycle_of outcomes station first room events).accepted ≡ [] → lost ≡ begun

-- A device that has just started, on any image: it has the given identity and modules, its running settings are exactly
-- those that the image is read as, Identify is answered only with them, and each output is zeros.
pub record IsStarted {F : Type 0} {S : ℕ} (as_flash : Flash F S) (station : Station) (device : State F) : Type 0 where
  pub station_is : device.station ≡ station
  pub nothing_else : device.live ≡ started station.real device.live.values.stored device.live.values.room
  pub starts : StartsWith (as_flash.image device.flash) device.live.values.stored device.live.values.room
  pub answers : AnswersBy station device.live.values.stored device.live
  pub shows : (slot subslot : ℕ) → output_of station.real slot subslot (output_in slot subslot device.live.rest.link) ≡ zero_output station.real slot subslot

-- A device was started from this flash, and changed nothing in it: it has the given identity and modules, its settings are
-- those that the content is read as, and nothing else remains of an earlier cycle.
pub record IsStartedFrom {F : Type 0} {S : ℕ} (as_flash : Flash F S) (station : Station) (flash : F) (device : State F) : Type 0 where
  pub station_is : device.station ≡ station
  pub known : (settings : Settings) (room : ℕ) → StartsWith (as_flash.image flash) settings room → device.live ≡ started station.real settings room
  pub fresh : device.live ≡ started station.real device.live.values.stored device.live.values.room
  pub starts : StartsWith (as_flash.image flash) device.live.values.stored device.live.values.room
  pub image_is : as_flash.image device.flash ≡ as_flash.image flash
  pub failures_are : as_flash.failures device.flash ≡ as_flash.failures flash
  pub none_asked : as_flash.asked flash [] device.flash

-- The headline. The cycle ran the events, with any outcomes of its flash for the calls that store. The running and
-- stored settings of the restarted device are the first settings changed by all accepted commands of the cycle, or by
-- all but a last one that was not answered 'done'; if no commit failed, they are exactly what the cycle stored. Nothing
-- else remains of the cycle, Identify is answered only with those settings and the identity, and the image is again one
-- that this device left. `power_up` relates a flash to itself with its power restored.
pub record Restarts {F : Type 0} {S : ℕ} (as_flash : Flash F S) (power_up : F → F → Type 0) (station : Station) (flash : F) (first : Settings) (room : ℕ) (events : List Event) (before now : List (List ℕ)) (restarted : State F) : Type 0 where
  pub outcomes : List (List Outcome)
  pub lost : F
  pub back : F
  pub powered : power_up lost back
  pub cycled : Cycled as_flash station flash first room events before now outcomes lost
  pub has : IsMadeOf (cycle_of outcomes station first room events).accepted first restarted.live.values.stored
  pub clean : (cycle_of outcomes station first room events).live.values.has_failed ≡ false →
      restarted.live ≡ started station.real (cycle_of outcomes station first room events).live.values.stored (cycle_of outcomes station first room events).live.values.room
  pub is_started : IsStarted as_flash station restarted
  pub left : LeftByDevice (as_flash.image restarted.flash)
  pub same : (as_flash.image restarted.flash ≡ as_flash.image lost) × (as_flash.failures restarted.flash ≡ as_flash.failures back) × as_flash.asked back [] restarted.flash

-- A start was refused for a cause of its own. It only read the flash, and no byte changed. A flash is foreign if it
-- cannot be read.
pub record Refuses {F : Type 0} {S : ℕ} (as_flash : Flash F S) (flash : F) (fault : BootFault) (left : F) : Type 0 where
  pub cause : HasBootCause fault (as_flash.failures flash) (as_flash.failures left)
  pub same : as_flash.image left ≡ as_flash.image flash
  pub none_asked : as_flash.asked flash [] left
  pub foreign : fault ≡ Foreign → IsForeign (as_flash.image left)

-- The start after a cycle was refused: the first start gave settings, the events were run, and power was restored.
pub record RefusesAfter {F : Type 0} {S : ℕ} (as_flash : Flash F S) (power_up : F → F → Type 0) (station : Station) (flash : F) (events : List Event) (before now : List (List ℕ)) (fault : BootFault) (left : F) : Type 0 where
  pub first : Settings
  pub room : ℕ
  pub outcomes : List (List Outcome)
  pub lost : F
  pub back : F
  pub starts : StartsWith (as_flash.image flash) first room
  pub cycled : Cycled as_flash station flash first room events before now outcomes lost
  pub powered : power_up lost back
  pub kept : as_flash.image back ≡ as_flash.image lost
  pub refuses : Refuses as_flash back fault left

-- A start was refused: the first one, and nothing was handed on, or the one after the cycle.
abbrev pub IsRefused : {F : Type 0} {S : ℕ} → Flash F S → (F → F → Type 0) → Station → F → List Event → List (List ℕ) → List (List ℕ) → BootFault → F → Type 0
IsRefused {F} as_flash power_up station flash events before now fault left =
    ((now ≡ before) × Refuses as_flash flash fault left)
    ⊎ RefusesAfter as_flash power_up station flash events before now fault left
