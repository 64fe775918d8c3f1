-- Any run of both ends leaves each of them in any state, and frames that the other may hear. It takes the parts of a device.
use Rattle.std.proofs.Common.{◌≡◌, inl, inr, ◌≤◌, ◌++◌, ℕ, zero, suc, List, refl, sym, ap, subst, ◌∙◌, arith}
use Rattle.std.specs.List.{AllByRecursion, Contains}
use Rattle.std.proofs.lemmas.List.Elements.{All-contains, All-from_recursion}
use Rattle.flash_model.specs.declared.flash.Flash.{Ghosts as Flash}
use Rattle.pn_values.specs.declared.identity.Identity.{Identity}
use Rattle.device_core.specs.State.{Live, State, Station}
use Rattle.controller_messages.specs.declared.request.Request.TheVariants as asks
use Rattle.controller_messages.specs.declared.setup.Setup.{Setup}
use Rattle.controller_messages.specs.Sent.{Requests}
use Rattle.controller_core.specs.declared.stored.event.Event.TheVariants.{Tick}
use Rattle.controller_core.specs.Machine.{opening_of, step_of}
use Rattle.rounds_law.specs.Again.{Plant, made}
use Rattle.rounds_law.specs.Anywhere.{ChoosesWell, HasPatience, IsAnyController, IsAnyDevice, IsAnywhere}
use Rattle.rounds_law.specs.AnywhereFrames.{AreOwn, IsAnything, IsOwn}
use Rattle.rounds_law.specs.AnywhereRuns.{Happened, Happens, IsBeginning, IsLeftBy, Past}
use Rattle.rounds_law.specs.Path.{controller_step}
use Rattle.rounds_law.proofs.AnywhereLaw.{any_first}
use Rattle.rounds_law.proofs.AnywhereParts.{ControllerFrame, ControllerUnit, DeviceFrame, DeviceUnit, IsLong}
use Rattle.rounds_law.proofs.AnywherePower.{any_again, of_given}
use Rattle.rounds_law.proofs.AnywhereRounds.{all_as, all_joined}

-- What is true of each element is true of one that it contains.
pub among : (Is : List ℕ → Type 0) (all : List (List ℕ)) (octets : List ℕ) → AllByRecursion Is all → Contains all octets → Is octets
among Is all octets each has = All-contains Is all octets (All-from_recursion Is all each) has

-- The Identify of a controller that was just made.
pub own_opening : (setup : Setup) → IsOwn setup IsAnything (opening_of (made setup))
unfolding opening_of
own_opening setup = record { message = Requests (made setup).live.device asks.Identify; frame = refl; sendable = (refl, tt); way = tt; is = tt }

module _ {F : Type 0} {S : ℕ} (as_flash : Flash F S) (setup next : Setup) (identity : Identity) (silence : ℕ)
    (device_frame : DeviceFrame as_flash setup next identity silence) (device_unit : DeviceUnit as_flash setup next identity silence)
    (controller_frame : ControllerFrame setup) (controller_unit : ControllerUnit setup)
    (long : IsLong as_flash setup next identity silence) (patience : HasPatience setup.options) where
  -- Each end is in any state, and has sent what the other may hear.
  pub record Holds (past : Past F) : Type 0 where
    pub controller : IsAnyController setup past.controller
    pub device : IsAnyDevice setup next identity silence past.device.station past.device.live
    pub given : past.device.station.real ≡ setup.plan.real
    pub by_controller : AreOwn setup IsAnything past.by_controller
    pub by_device : AllByRecursion (ChoosesWell setup) past.by_device

  given_first : (past : Past F) → IsBeginning as_flash setup identity past → past.device.station.real ≡ setup.plan.real
  given_first past at = sym (ap (λ (live : Live). live.rest.real) at.starts.fresh) ∙ at.of_plan.plugged

  pub holds_first : (past : Past F) → IsBeginning as_flash setup identity past → Holds past
  holds_first past at = record {
    controller = subst (IsAnyController setup) (sym at.controller) (any_first setup);
    device = any_again as_flash setup next identity silence past.device.station at.flash past.device at.of_device
        (of_given setup past.device.station past.device.live.rest.real at.of_plan (given_first past at)) at.stored at.starts;
    given = given_first past at;
    by_controller = subst (AreOwn setup IsAnything) (sym at.opened) (own_opening setup, tt);
    by_device = subst (AllByRecursion (ChoosesWell setup)) (sym at.silent) tt;
  }

  -- After a step of the device.
  holds_device : (before after : Past F) (frames : List (List ℕ)) → Holds before → after.device.station ≡ before.device.station → after.by_device ≡ before.by_device ++ frames
      → after.controller ≡ before.controller → after.by_controller ≡ before.by_controller
      → IsAnyDevice setup next identity silence after.device.station after.device.live → AllByRecursion (ChoosesWell setup) frames → Holds after
  holds_device before after frames holds station by_device controller by_controller any fit = record {
    controller = subst (IsAnyController setup) (sym controller) holds.controller;
    device = any;
    given = ap (λ (s : Station). s.real) station ∙ holds.given;
    by_controller = subst (AreOwn setup IsAnything) (sym by_controller) holds.by_controller;
    by_device = subst (AllByRecursion (ChoosesWell setup)) (sym by_device) (all_joined (ChoosesWell setup) before.by_device frames holds.by_device fit);
  }

  pub holds_next : (before after : Past F) → Holds before → Happens as_flash setup before after → Holds after
  holds_next before after holds (inl (octets, has, at)) =
      let step = device_frame long before.device after.device octets at.frames at.goes holds.device
      (among (IsOwn setup IsAnything) before.by_controller octets holds.by_controller has) in
      holds_device before after at.frames holds at.goes.steps.same at.by_device at.controller at.by_controller step.0 step.1
  holds_next before after holds (inr (inl at)) =
      let step = device_unit long before.device after.device at.frames at.goes holds.device in
      holds_device before after at.frames holds at.goes.steps.same at.by_device at.controller at.by_controller step.0 step.1
  holds_next before after holds (inr (inr (inl (octets, has, is)))) =
      let step = controller_frame long.real patience before.controller octets holds.controller
      (among (ChoosesWell setup) before.by_device octets holds.by_device has) in
      subst Holds (sym is) (record {
        controller = step.0;
        device = holds.device;
        given = holds.given;
        by_controller = all_joined (IsOwn setup IsAnything) before.by_controller (controller_step before.controller octets).frames holds.by_controller step.1;
        by_device = holds.by_device;
      })
  holds_next before after holds (inr (inr (inr (inl is)))) =
      let step = controller_unit long.real patience before.controller holds.controller in
      subst Holds (sym is) (record {
        controller = step.0;
        device = holds.device;
        given = holds.given;
        by_controller = all_joined (IsOwn setup IsAnything) before.by_controller (step_of before.controller Tick).frames holds.by_controller step.1;
        by_device = holds.by_device;
      })
  holds_next before after holds (inr (inr (inr (inr loses)))) = record {
    controller = subst (IsAnyController setup) (sym loses.controller) holds.controller;
    device = any_again as_flash setup next identity silence before.device.station before.device.flash after.device holds.device.of_device
        (of_given setup before.device.station before.device.live.rest.real holds.device.of_plan holds.given) loses.stored loses.starts;
    given = ap (λ (s : Station). s.real) loses.starts.station_is ∙ holds.given;
    by_controller = subst (AreOwn setup IsAnything) (sym loses.by_controller) holds.by_controller;
    by_device = subst (AllByRecursion (ChoosesWell setup)) (sym loses.by_device) holds.by_device;
  }

  holds_all : (number : ℕ) (first last : Past F) → Holds first → Happened as_flash setup number first last → Holds last
  holds_all zero first last holds is = subst Holds (sym is) holds
  holds_all (suc number) first last holds run = holds_all number run.0 last (holds_next first run.0 holds run.1) run.2

  -- So the law of any state is about what a run leaves.
  pub left_anywhere : (number : ℕ) (first last : Past F) → IsBeginning as_flash setup identity first → Happened as_flash setup number first last
      → (plant : Plant F) → IsLeftBy next last plant → IsAnywhere setup next identity silence plant
  left_anywhere number first last begins run plant left =
      let holds = holds_all number first last (holds_first first begins) run in
      record {
        controller = subst (IsAnyController setup) (sym left.controller) holds.controller;
        device = subst (λ (device : State F). IsAnyDevice setup next identity silence device.station device.live) (sym left.device) holds.device;
        to_device = all_as (IsOwn setup IsAnything) (Contains last.by_controller)
            (λ octets has. among (IsOwn setup IsAnything) last.by_controller octets holds.by_controller has) plant.net.to_device left.to_device;
        to_controller = all_as (ChoosesWell setup) (Contains last.by_device)
            (λ octets has. among (ChoosesWell setup) last.by_device octets holds.by_device has) plant.net.to_controller left.to_controller;
        more = left.more;
        later = left.later;
        idle = λ goes_on. left.idle;
        late = λ ended. inl (early left.idle);
      }
    where
      early : plant.idle ≡ 0 → plant.idle ≤ 1
      early none = omega (arith, none)
