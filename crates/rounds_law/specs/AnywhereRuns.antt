-- Both ends over any run: frames are lost, repeated, delayed and overtaken, and the device loses its power.
use Rattle.std.specs.Prelude.{◌≡◌, ◌⊎◌, ◌++◌, ℕ, zero, suc, List, [], ◌∷◌}
use Rattle.std.specs.List.{AllByRecursion, Contains}
use Rattle.flash_model.specs.declared.flash.Flash.{Ghosts as Flash}
use Rattle.pn_values.specs.declared.identity.Identity.{Identity}
use Rattle.device_frames.specs.Heard.{Heard, Ticks, heard_of}
use Rattle.device_core.specs.Cycle.{IsStartedFrom}
use Rattle.device_core.specs.State.{State}
use Rattle.controller_messages.specs.declared.setup.Setup.{Setup}
use Rattle.controller_core.specs.declared.stored.event.Event.{Event}
use Rattle.controller_core.specs.declared.stored.event.Event.TheVariants.{Frame, Tick}
use Rattle.controller_core.specs.stored.State.{Controlling}
use Rattle.controller_core.specs.Machine.{opening_of, step_of}
use Rattle.end_laws.specs.hearing.Hearing.{comes}
use Rattle.rounds_law.specs.Again.{Plant, made}
use Rattle.rounds_law.specs.Anywhere.{HasStored}
use Rattle.rounds_law.specs.Rounds.{Goes}
use Rattle.rounds_law.specs.Start.{IsOfPlan}

-- Both ends, and all frames that each has sent so far.
pub record Past (F : Type 0) : Type 0 where
  pub device : State F
  pub controller : Controlling
  pub by_device : List (List ℕ)
  pub by_controller : List (List ℕ)

-- The device makes a step in which no call of its flash fails.
pub record AtDevice {F : Type 0} {S : ℕ} (as_flash : Flash F S) (before : Past F) (heard : Heard) (after : Past F) : Type 0 where
  pub frames : List (List ℕ)
  pub goes : Goes as_flash before.device heard frames after.device
  pub by_device : after.by_device ≡ before.by_device ++ frames
  pub controller : after.controller ≡ before.controller
  pub by_controller : after.by_controller ≡ before.by_controller

-- The controller makes a step.
abbrev pub at_controller : {F : Type 0} → Past F → Event → Past F
at_controller before event = record {
  device = before.device;
  controller = (step_of before.controller event).controller;
  by_device = before.by_device;
  by_controller = before.by_controller ++ (step_of before.controller event).frames;
}

-- The device loses its power, and starts again from its flash.
pub record LosesPower {F : Type 0} {S : ℕ} (as_flash : Flash F S) (setup : Setup) (before after : Past F) : Type 0 where
  pub stored : HasStored as_flash setup before.device.flash
  pub starts : IsStartedFrom as_flash before.device.station before.device.flash after.device
  pub by_device : after.by_device ≡ before.by_device
  pub controller : after.controller ≡ before.controller
  pub by_controller : after.by_controller ≡ before.by_controller

-- What may happen next: any frame that the controller has sent comes to the device, or a unit passes there; any frame that the device has sent
-- comes to the controller, or a unit passes there; or the device loses its power.
abbrev pub Happens : {F : Type 0} {S : ℕ} → Flash F S → Setup → Past F → Past F → Type 0
Happens as_flash setup before after =
    ((octets : List ℕ) × Contains before.by_controller octets × AtDevice as_flash before (heard_of before.device.station.identity (comes octets)) after)
    ⊎ (AtDevice as_flash before Ticks after
    ⊎ (((octets : List ℕ) × Contains before.by_device octets × (after ≡ at_controller before (Frame (record { items = octets }))))
    ⊎ ((after ≡ at_controller before Tick)
    ⊎ LosesPower as_flash setup before after)))

-- This many of these, one after another.
abbrev pub Happened : {F : Type 0} {S : ℕ} → Flash F S → Setup → ℕ → Past F → Past F → Type 0
Happened as_flash setup zero before after = after ≡ before
Happened {F} as_flash setup (suc number) before after =
    (between : Past F) × Happens as_flash setup before between × Happened as_flash setup number between after

-- The beginning: the controller was just made, and has sent its Identify. The device was just started from its flash.
pub record IsBeginning {F : Type 0} {S : ℕ} (as_flash : Flash F S) (setup : Setup) (identity : Identity) (past : Past F) : Type 0 where
  pub controller : past.controller ≡ made setup
  pub opened : past.by_controller ≡ opening_of (made setup) ∷ []
  pub silent : past.by_device ≡ []
  pub of_device : past.device.station.identity ≡ identity
  pub of_plan : IsOfPlan setup past.device.station past.device.live.rest.real
  pub flash : F
  pub stored : HasStored as_flash setup flash
  pub starts : IsStartedFrom as_flash past.device.station flash past.device

-- What a run leaves: its ends, and any of the frames that they have sent, each any number of times and in any order. The controller will
-- be started again with the next set-up. If it has ended, its pause begins here at the earliest.
pub record IsLeftBy {F : Type 0} (next : Setup) (past : Past F) (plant : Plant F) : Type 0 where
  pub device : plant.net.device ≡ past.device
  pub controller : plant.net.controller ≡ past.controller
  pub to_device : AllByRecursion (Contains past.by_controller) plant.net.to_device
  pub to_controller : AllByRecursion (Contains past.by_device) plant.net.to_controller
  pub more : List Setup
  pub later : plant.later ≡ next ∷ more
  pub idle : plant.idle ≡ 0
