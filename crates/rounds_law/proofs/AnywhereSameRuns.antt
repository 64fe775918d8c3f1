-- Any run of one start leaves no relation of an earlier start in the way, and neither does the power failure of a device.
use Rattle.std.proofs.Common.{◌≡◌, ◌<◌, inl, inr, ◌++◌, ℕ, zero, suc, true, List, Some, None, refl, sym, ap, subst, ◌∙◌}
use Rattle.std.specs.List.{AllByRecursion, Contains}
use Rattle.std.proofs.lemmas.Bool.{false≢true}
use Rattle.flash_model.specs.declared.flash.Flash.{Ghosts as Flash}
use Rattle.pn_values.specs.declared.identity.Identity.{Identity}
use Rattle.rpc_core.specs.Cache.{Kept, kept_of}
use Rattle.device_core.specs.Cycle.{IsStartedFrom, started}
use Rattle.device_core.specs.State.{Live, State, Station}
use Rattle.controller_messages.specs.declared.setup.Setup.{Setup}
use Rattle.controller_core.specs.stored.State.{Controlling}
use Rattle.both_ends.specs.startup.answer.Answer.{chosen_with}
use Rattle.rounds_law.specs.Again.{Plant, made}
use Rattle.rounds_law.specs.Anywhere.{HasPatience, HasStored}
use Rattle.rounds_law.specs.AnywhereFrames.{IsAnything, IsOwn}
use Rattle.rounds_law.specs.AnywhereRuns.{Happened, Happens, IsBeginning, IsLeftBy, Past}
use Rattle.rounds_law.specs.AnywhereSame.{AreOfNumber, ChoosesIn, IsNumberChosen, IsOfStart, IsOfThisStart, StoresChosen}
use Rattle.rounds_law.specs.Power.{powered}
use Rattle.rounds_law.proofs.AnywhereControllerSteps.{controller_frame, controller_unit}
use Rattle.rounds_law.proofs.AnywhereDeviceLaw.{device_frame, device_unit}
use Rattle.rounds_law.proofs.AnywhereParts.{IsLong}
use Rattle.rounds_law.proofs.AnywhereRounds.{all_as, all_joined}
use Rattle.rounds_law.proofs.AnywhereRuns.{Holds, among, holds_first, holds_next}
use Rattle.rounds_law.proofs.AnywhereSameController.{frame_keeps, unit_keeps}
use Rattle.rounds_law.proofs.AnywhereSameDevice.{Leaves, SameLaws, frame_leaves, unit_leaves}

-- ---- a device that was started from its flash

module _ {F : Type 0} {S : ℕ} (as_flash : Flash F S) (setup : Setup) (station : Station) (flash : F) (device : State F)
    (stored : HasStored as_flash setup flash) (is : IsStartedFrom as_flash station flash device) where
  state : device.live ≡ started station.real stored.settings stored.room
  state = is.known stored.settings stored.room stored.starts

  -- It has stored no answer.
  pub none_stored : {A : Type 0} (activity : List ℕ) (kept : Kept) → kept_of activity device.live.rest.calls ≡ Some kept → A
  none_stored activity kept found = not_both (sym (ap (λ (live : Live). kept_of activity live.rest.calls) state) ∙ found)
    where
      not_both : {A : Type 0} → None ≡ Some kept → A
      not_both bad = absurd cc

  -- It has no relation.
  pub unrelated : IsOfStart setup device.live.rest.link
  unrelated = subst (λ (live : Live). IsOfStart setup live.rest.link) (sym state) tt

-- After a power failure, what the controller has of the numbers is what it had.
pub powered_of_start : {F : Type 0} {S : ℕ} (as_flash : Flash F S) (setup : Setup) (plant : Plant F) (device : State F) → IsOfThisStart setup plant.net
    → HasStored as_flash setup plant.net.device.flash → IsStartedFrom as_flash plant.net.device.station plant.net.device.flash device
    → IsOfThisStart setup (powered device plant).net
powered_of_start as_flash setup plant device same stored is = record {
  route = same.route;
  stored = λ kept found. none_stored as_flash setup plant.net.device.station plant.net.device.flash device stored is setup.activity kept found;
  under_way = tt;
  relation = inl (unrelated as_flash setup plant.net.device.station plant.net.device.flash device stored is);
}

-- ---- a run

module _ {F : Type 0} {S : ℕ} (as_flash : Flash F S) (setup next : Setup) (identity : Identity) (silence : ℕ) (laws : SameLaws setup identity)
    (long : IsLong as_flash setup next identity silence) (patience : HasPatience setup.options) where
  -- Each end is in any state.
  abbrev Are : Past F → Type 0
  Are past = Holds as_flash setup next identity silence (device_frame as_flash setup next identity silence laws.device)
      (device_unit as_flash setup next identity silence laws.device) (controller_frame laws.controller setup)
      (controller_unit laws.controller setup) long patience past

  -- The device has no relation but one of this start, and all that it has sent or stored chooses the numbers of a relation.
  record AreOfStart (past : Past F) : Type 0 where
    route : past.controller.live.stands ≡ true → AreOfNumber past.controller.live.cyclic.route.sent_id past.controller.live.cyclic.route.reference
    stored : StoresChosen setup IsNumberChosen past.device.live
    by_device : AllByRecursion (ChoosesIn setup IsNumberChosen) past.by_device
    relation : IsOfStart setup past.device.live.rest.link

  related_as : (one other : Controlling) → other ≡ one → (one.live.stands ≡ true → AreOfNumber one.live.cyclic.route.sent_id one.live.cyclic.route.reference)
      → other.live.stands ≡ true → AreOfNumber other.live.cyclic.route.sent_id other.live.cyclic.route.reference
  related_as one other is route =
      subst (λ (c : Controlling). c.live.stands ≡ true → AreOfNumber c.live.cyclic.route.sent_id c.live.cyclic.route.reference) (sym is) route

  first_of_start : (past : Past F) → IsBeginning as_flash setup identity past → AreOfStart past
  first_of_start past begins = record {
    route = related_as (made setup) past.controller begins.controller (λ up. absurd (false≢true up));
    stored = λ kept found. none_stored as_flash setup past.device.station begins.flash past.device begins.stored begins.starts setup.activity kept found;
    by_device = subst (AllByRecursion (ChoosesIn setup IsNumberChosen)) (sym begins.silent) tt;
    relation = unrelated as_flash setup past.device.station begins.flash past.device begins.stored begins.starts;
  }

  of_number : (number : ℕ) → number < 14336 → IsNumberChosen (chosen_with number)
  of_number number few = record { number = number; few = few; outputs = refl; alarms = refl }

  -- A step of the device.
  device_of_start : (before after : Past F) (frames : List (List ℕ)) → AreOfStart before → after.by_device ≡ before.by_device ++ frames
      → after.controller ≡ before.controller → Leaves as_flash setup next identity silence laws long before.device after.device frames → AreOfStart after
  device_of_start before after frames are by_device controller leaves =
      let chosen = leaves.chosen IsNumberChosen (λ none number few. of_number number few) are.stored in
      record {
        route = related_as before.controller after.controller controller are.route;
        stored = chosen.0;
        by_device = subst (AllByRecursion (ChoosesIn setup IsNumberChosen)) (sym by_device)
            (all_joined (ChoosesIn setup IsNumberChosen) before.by_device frames are.by_device chosen.1);
        relation = leaves.of_start are.relation;
      }

  next_of_start : (before after : Past F) → Are before → AreOfStart before → Happens as_flash setup before after → AreOfStart after
  next_of_start before after holds are (inl (octets, has, at)) =
      device_of_start before after at.frames are at.by_device at.controller
      (frame_leaves as_flash setup next identity silence laws long before.device after.device octets at.frames at.goes holds.device
      (among (IsOwn setup IsAnything) before.by_controller octets holds.by_controller has))
  next_of_start before after holds are (inr (inl at)) =
      device_of_start before after at.frames are at.by_device at.controller
      (unit_leaves as_flash setup next identity silence laws long before.device after.device at.frames at.goes holds.device)
  next_of_start before after holds are (inr (inr (inl (octets, has, is)))) =
      let step = frame_keeps setup AreOfNumber laws.controller.kinds before.controller octets
      (among (ChoosesIn setup IsNumberChosen) before.by_device octets are.by_device has) (holds.controller.of_setup, are.route) in
      subst AreOfStart (sym is) (record { route = step.1; stored = are.stored; by_device = are.by_device; relation = are.relation })
  next_of_start before after holds are (inr (inr (inr (inl is)))) =
      let step = unit_keeps setup AreOfNumber laws.controller.kinds before.controller (holds.controller.of_setup, are.route) in
      subst AreOfStart (sym is) (record { route = step.1; stored = are.stored; by_device = are.by_device; relation = are.relation })
  next_of_start before after holds are (inr (inr (inr (inr loses)))) = record {
    route = related_as before.controller after.controller loses.controller are.route;
    stored = λ kept found.
        none_stored as_flash setup before.device.station before.device.flash after.device loses.stored loses.starts setup.activity kept found;
    by_device = subst (AllByRecursion (ChoosesIn setup IsNumberChosen)) (sym loses.by_device) are.by_device;
    relation = unrelated as_flash setup before.device.station before.device.flash after.device loses.stored loses.starts;
  }

  all_of_start : (number : ℕ) (first last : Past F) → Are first → AreOfStart first → Happened as_flash setup number first last → AreOfStart last
  all_of_start zero first last holds are is = subst AreOfStart (sym is) are
  all_of_start (suc number) first last holds are run =
      all_of_start number run.0 last
      (holds_next as_flash setup next identity silence (device_frame as_flash setup next identity silence laws.device)
      (device_unit as_flash setup next identity silence laws.device) (controller_frame laws.controller setup)
      (controller_unit laws.controller setup) long patience first run.0 holds run.1)
      (next_of_start first run.0 holds are run.1) run.2

  -- What a run of this start leaves has no relation of an earlier start in the way.
  pub left_of_start : (number : ℕ) (first last : Past F) → IsBeginning as_flash setup identity first → Happened as_flash setup number first last
      → (plant : Plant F) → IsLeftBy next last plant → IsOfThisStart setup plant.net
  left_of_start number first last begins run plant left =
      let are = all_of_start number first last
      (holds_first as_flash setup next identity silence (device_frame as_flash setup next identity silence laws.device)
      (device_unit as_flash setup next identity silence laws.device) (controller_frame laws.controller setup)
      (controller_unit laws.controller setup) long patience first begins)
      (first_of_start first begins) run in
      record {
        route = related_as last.controller plant.net.controller left.controller are.route;
        stored = subst (λ (device : State F). StoresChosen setup IsNumberChosen device.live) (sym left.device) are.stored;
        under_way = all_as (ChoosesIn setup IsNumberChosen) (Contains last.by_device)
            (λ octets has. among (ChoosesIn setup IsNumberChosen) last.by_device octets are.by_device has) plant.net.to_controller left.to_controller;
        relation = inl (subst (λ (device : State F). IsOfStart setup device.live.rest.link) (sym left.device) are.relation);
      }
