-- Rounds of both ends in any state: what holds of each end after frames that arrive one after another, and what a round keeps.
use Rattle.std.proofs.Common.{inl, inr, ◌≤◌, ℕ, zero, suc, List, [], ◌∷◌, ◌++◌, sym, subst, arith}
use Rattle.std.specs.List.{AllByRecursion}
use Rattle.flash_model.specs.declared.flash.Flash.{Ghosts as Flash}
use Rattle.pn_values.specs.declared.identity.Identity.{Identity}
use Rattle.device_core.specs.State.{State}
use Rattle.controller_messages.specs.declared.setup.Setup.{Setup}
use Rattle.controller_core.specs.declared.stored.event.Event.TheVariants.{Tick}
use Rattle.controller_core.specs.stored.State.{Controlling}
use Rattle.controller_core.specs.Machine.{step_of}
use Rattle.rounds_law.specs.Again.{Plant}
use Rattle.rounds_law.specs.Anywhere.{AreBack, ChoosesWell, HasPatience, IsAnyController, IsAnyDevice, LeadsAnywhereBack}
use Rattle.rounds_law.specs.Path.{controller_step}
use Rattle.rounds_law.specs.Rounds.{HearsAll, Net, Round, hears_all}
use Rattle.rounds_law.proofs.AnywhereParts.{AreOwn, ControllerFrame, ControllerUnit, DeviceFrame, DeviceUnit, Hears, IsAnything, IsLong, IsOwn, ahead}
use Rattle.rounds_law.proofs.AnywherePlants.{IsUnderWay, RoundKeeps}

-- ---- lists of frames

pub all_joined : (Is : List ℕ → Type 0) (first more : List (List ℕ)) → AllByRecursion Is first → AllByRecursion Is more → AllByRecursion Is (first ++ more)
all_joined Is [] more all rest = rest
all_joined Is (octets ∷ first) more all rest = (all.0, all_joined Is first more all.1 rest)

pub all_as : (Is Was : List ℕ → Type 0) → ((octets : List ℕ) → Was octets → Is octets) → (frames : List (List ℕ)) → AllByRecursion Was frames
    → AllByRecursion Is frames
all_as Is Was turns [] all = tt
all_as Is Was turns (octets ∷ frames) all = (turns octets all.0, all_as Is Was turns frames all.1)

-- ---- frames at the device

module _ {F : Type 0} {S : ℕ} (as_flash : Flash F S) (Is : State F → Type 0) (Of Sends : List ℕ → Type 0)
    (keeps : (before after : State F) (octets : List ℕ) (frames : List (List ℕ)) → Hears as_flash before octets frames after → Is before → Of octets
    → Is after × AllByRecursion Sends frames) where
  -- What holds of the device, and of each frame that it sends, if each frame keeps it.
  pub device_after : (before : State F) (frames answers : List (List ℕ)) (after : State F) → HearsAll as_flash before frames answers after
      → Is before → AllByRecursion Of frames → Is after × AllByRecursion Sends answers
  device_after before [] answers after hears is of = (subst Is (sym hears.0) is, subst (AllByRecursion Sends) (sym hears.1) tt)
  device_after before (octets ∷ frames) answers after hears is of =
      let first = keeps before hears.0 octets hears.1 hears.3 is of.0 in
      let rest = device_after hears.0 frames hears.2 after hears.4 first.0 of.1 in
      (rest.0, subst (AllByRecursion Sends) (sym hears.5) (all_joined Sends hears.1 hears.2 first.1 rest.1))

-- ---- frames at the controller

module _ (Is : Controlling → Type 0) (Of Sends : List ℕ → Type 0)
    (keeps : (controller : Controlling) (octets : List ℕ) → Is controller → Of octets
    → Is (controller_step controller octets).controller × AllByRecursion Sends (controller_step controller octets).frames) where
  -- What holds of the controller, and of each frame that it sends, if each frame keeps it.
  pub controller_after : (before : Controlling) (frames : List (List ℕ)) → Is before → AllByRecursion Of frames
      → Is (hears_all before frames).controller × AllByRecursion Sends (hears_all before frames).frames
  controller_after before [] is of = (is, tt)
  controller_after before (octets ∷ frames) is of =
      let step = controller_step before octets in
      let first = keeps before octets is of.0 in
      let rest = controller_after step.controller frames first.0 of.1 in
      (rest.0, all_joined Sends step.frames (hears_all step.controller frames).frames first.1 rest.1)

-- ---- both ends in some state

module _ {F : Type 0} {S : ℕ} (as_flash : Flash F S) (setup next : Setup) (identity : Identity) (silence : ℕ)
    (long : IsLong as_flash setup next identity silence) (patience : HasPatience setup.options) where
  module _ (device_frame : DeviceFrame as_flash setup next identity silence) where
    -- Frames of the controller leave the device in some state.
    pub any_device : (before : State F) (frames answers : List (List ℕ)) (after : State F) → HearsAll as_flash before frames answers after
        → IsAnyDevice setup next identity silence before.station before.live → AreOwn setup IsAnything frames
        → IsAnyDevice setup next identity silence after.station after.live × AllByRecursion (ChoosesWell setup) answers
    any_device =
        device_after as_flash (λ device. IsAnyDevice setup next identity silence device.station device.live) (IsOwn setup IsAnything) (ChoosesWell setup)
        (λ before after octets frames hears at own. device_frame long before after octets frames hears at own)

  -- Some state, and not more than these units ahead.
  abbrev pub IsAhead : ℕ → Controlling → Type 0
  IsAhead limit controller = IsAnyController setup controller × (ahead controller ≤ limit)

  module _ (controller_frame : ControllerFrame setup) where
    -- Frames of the device leave the controller in some state, and no further from the exchange or the end.
    pub any_controller : (limit : ℕ) (before : Controlling) (frames : List (List ℕ)) → IsAhead limit before → AllByRecursion (ChoosesWell setup) frames
        → IsAhead limit (hears_all before frames).controller × AreOwn setup IsAnything (hears_all before frames).frames
    any_controller limit =
        controller_after (IsAhead limit) (ChoosesWell setup) (IsOwn setup IsAnything)
        (λ controller octets at chosen.
        let step = controller_frame long.real patience controller octets at.0 chosen in
        let fewer : ahead (controller_step controller octets).controller ≤ ahead controller = step.2 in
        let few : ahead controller ≤ limit = at.1 in
        ((step.0, omega (arith, fewer, few)), step.1))

  module _ (device_frame : DeviceFrame as_flash setup next identity silence) (device_unit : DeviceUnit as_flash setup next identity silence)
      (controller_frame : ControllerFrame setup) (controller_unit : ControllerUnit setup) (before after : Net F)
      (at : IsUnderWay as_flash setup next identity silence before) (round : Round as_flash before after) where
    -- The frames that arrive at the controller in a round.
    abbrev pub arrived : List (List ℕ)
    arrived = before.to_controller ++ round.answers

    abbrev pub heard : Controlling
    heard = (hears_all before.controller arrived).controller

    pub device_is : IsAnyDevice setup next identity silence round.device.station round.device.live × AllByRecursion (ChoosesWell setup) round.answers
    device_is = any_device device_frame before.device before.to_device round.answers round.device round.arrives at.device at.to_device

    pub chosen : AllByRecursion (ChoosesWell setup) arrived
    chosen = all_joined (ChoosesWell setup) before.to_controller round.answers at.to_controller device_is.1

    pub controller_is : IsAhead (ahead before.controller) heard × AreOwn setup IsAnything (hears_all before.controller arrived).frames
    controller_is = any_controller controller_frame (ahead before.controller) before.controller arrived (at.controller, omega arith) chosen

    -- After a round both ends are in some state again.
    pub keeps_round : IsUnderWay as_flash setup next identity silence after
    keeps_round =
        let unit = device_unit long round.device after.device after.to_controller round.unit device_is.0 in
        let passes = controller_unit long.real patience heard controller_is.0.0 in
        record {
          controller = subst (IsAnyController setup) (sym round.controller) passes.0;
          device = unit.0;
          to_device = subst (AreOwn setup IsAnything) (sym round.to_device)
              (all_joined (IsOwn setup IsAnything) (hears_all before.controller arrived).frames (step_of heard Tick).frames controller_is.1 passes.1);
          to_controller = unit.1;
        }

module _ {F : Type 0} {S : ℕ} (as_flash : Flash F S) (setup next : Setup) (identity : Identity) (silence : ℕ)
    (device_frame : DeviceFrame as_flash setup next identity silence) (device_unit : DeviceUnit as_flash setup next identity silence)
    (controller_frame : ControllerFrame setup) (controller_unit : ControllerUnit setup) where
  pub round_keeps : RoundKeeps as_flash setup next identity silence
  round_keeps long patience before after at round =
      keeps_round as_flash setup next identity silence long patience device_frame device_unit controller_frame controller_unit before after at round

-- ---- more rounds

module _ {F : Type 0} {S : ℕ} (as_flash : Flash F S) (identity : Identity) (pause : ℕ) where
  pub back_leads : (limit : ℕ) (plant : Plant F) → AreBack identity plant.net → LeadsAnywhereBack as_flash identity pause limit plant
  back_leads zero plant back = back
  back_leads (suc limit) plant back = inl back

  -- Within more rounds too.
  pub leads_longer : (few many : ℕ) (plant : Plant F) → few ≤ many → LeadsAnywhereBack as_flash identity pause few plant
      → LeadsAnywhereBack as_flash identity pause many plant
  leads_longer zero many plant more back = back_leads many plant back
  leads_longer (suc few) zero plant more leads = absurd (omega (arith, more))
  leads_longer (suc few) (suc many) plant more (inl back) = inl back
  leads_longer (suc few) (suc many) plant more (inr leads) = inr (λ next round. leads_longer few many next (omega (arith, more)) (leads next round))
