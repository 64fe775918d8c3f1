-- The power of the demo device.
use Rattle.std.specs.Prelude.{◌≡◌, Bool, true, false, [], ◌∷◌, Option, Some, None}
use Rattle.flash_model.specs.declared.memory.MemoryFlash.{MemoryFlash}
use Rattle.flash_model.specs.declared.flash.Order.{Order}
use Rattle.flash_model.specs.Asked.{IsAsked}
use Rattle.flash_model.specs.Calls.{Arms}
use Rattle.flash_model.specs.Fate.{against_writes}
use Rattle.flash_model.specs.Memory.{armed_in, image_of, failures_of, is_powerless, IsReliable}
use Rattle.pn_values.specs.demo.Demo.{demo_real}
use Rattle.settings_journal.specs.Commit.{HasBootCause}
use Rattle.settings_journal.specs.Image.{StartsWith, IsForeign, LeftByDevice}
use Rattle.settings_journal.specs.declared.journal.BootFault.{BootFault}
use Rattle.settings_journal.specs.declared.journal.BootFault.TheVariants.{Foreign}
use Rattle.device_core.specs.Cycle.{started}
use Rattle.script_session.specs.declared.power.Power.{Power}
use Rattle.script_session.specs.declared.power.Power.TheVariants.{On, Off, Away}
use Rattle.script_session.specs.Demo.{demo_device, options_of}
use Rattle.script_session.specs.declared.demo.DemoOptions.{DemoOptions}
use Rattle.script_session.specs.Ends.{Other, Running, Station, services_at}

-- This station runs over a flash whose calls do not fail, and none has failed.
pub record Runs (station : Station) (device : Running) : Type 0 where
  pub station_is : device.station ≡ station.device
  pub live_is : device.live ≡ station.live
  pub services_are : device.services ≡ station.services
  pub reliable : IsReliable device.flash
  pub unfailed : device.live.values.has_failed ≡ false
  pub left : LeftByDevice (image_of device.flash)

-- The device runs, in this state.
abbrev pub IsRunning : Station → Power → Type 0
IsRunning station (On device) = Runs station device
IsRunning station (Off fault flash) = ⊥
IsRunning station Away = ⊥

-- The reason why the device did not start, if it did not start.
abbrev pub refusal_of : Power → Option BootFault
refusal_of (On device) = None
refusal_of (Off fault flash) = Some fault
refusal_of Away = None

-- Whether there is no device with power.
abbrev pub is_off : Power → Bool
is_off (On device) = is_powerless device.flash
is_off (Off fault flash) = true
is_off Away = true

-- The demo device runs, with any settings and options, or its start was refused.
abbrev pub IsDemo : Power → Type 0
IsDemo (On device) = device.station ≡ demo_device (options_of device.station)
IsDemo (Off fault flash) = Unit {0}
IsDemo Away = ⊥

-- No byte of the flash has changed, and the orders against its program and erase calls are still armed. A read may have used
-- up an order against reads.
abbrev pub IsSameFlash : MemoryFlash 4096 → MemoryFlash 4096 → Type 0
IsSameFlash old new = (image_of new ≡ image_of old) × (against_writes (armed_in new) ≡ against_writes (armed_in old))

-- The demo device was started with these options over this flash, which is still the same, and services with it if they
-- are on. It runs what is stored, and nothing of an earlier cycle remains; or its start was refused, for a reason that
-- holds of the flash. The reason Foreign means that no journal of this layout left the flash.
abbrev pub IsOver : DemoOptions → Bool → MemoryFlash 4096 → Power → Type 0
IsOver options serves flash (On device) =
    (device.station ≡ demo_device options) × (device.live ≡ started demo_real device.live.values.stored device.live.values.room)
    × (device.services ≡ services_at serves device.station device.live.values.running) × StartsWith (image_of device.flash) device.live.values.stored device.live.values.room × IsSameFlash flash device.flash
IsOver options serves flash (Off fault left) =
    HasBootCause fault (failures_of flash) (failures_of left) × (fault ≡ Foreign → IsForeign (image_of left)) × IsSameFlash flash left
IsOver options serves flash Away = ⊥

-- The flash was given this order, and nothing else of the run changed.
abbrev pub IsArmed : Order → Power → Power → Type 0
IsArmed order (On old) (On new) = (new.station ≡ old.station) × (new.live ≡ old.live) × (new.services ≡ old.services) × IsAsked old.flash (Arms order ∷ []) new.flash
IsArmed order (Off fault old) (Off still new) = (still ≡ fault) × IsAsked old (Arms order ∷ []) new
IsArmed order Away Away = Unit {0}
IsArmed order old new = ⊥

-- The flash has power again, and the demo device was started over it with these options, and services with it if they are
-- on.
abbrev pub IsBack : DemoOptions → Bool → Power → Power → Type 0
IsBack options serves (On device) power = IsOver options serves device.flash power
IsBack options serves (Off fault flash) power = IsOver options serves flash power
IsBack options serves Away power = power ≡ Away

-- Both ends, as a run holds them.
pub record Held : Type 0 where
  pub power : Power
  pub other : Other
