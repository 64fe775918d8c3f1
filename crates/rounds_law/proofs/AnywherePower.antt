-- A device that was started from its flash is in any state again: it has no relation, and has stored no answer.
use Rattle.std.proofs.Common.{◌≡◌, ◌⊎◌, ◌≤◌, inl, inr, ℕ, Some, None, ap, subst, sym, ◌∙◌}
use Rattle.flash_model.specs.declared.flash.Flash.{Ghosts as Flash}
use Rattle.pn_values.specs.declared.identity.Identity.{Identity}
use Rattle.pn_values.specs.declared.real.Real.{Real}
use Rattle.rpc_core.specs.Cache.{Kept, kept_of}
use Rattle.device_core.specs.Cycle.{IsStartedFrom, started}
use Rattle.device_core.specs.State.{Live, State, Station}
use Rattle.controller_messages.specs.declared.setup.Setup.{Setup}
use Rattle.rounds_law.specs.Again.{Plant}
use Rattle.rounds_law.specs.Anywhere.{AllLast, HasStored, IsAnyDevice, IsAnywhere, IsLate}
use Rattle.rounds_law.specs.Path.{IsAddressed, IsSized}
use Rattle.rounds_law.specs.Power.{powered}
use Rattle.rounds_law.specs.Start.{CanBeAddressed, IsOfPlan}
use Rattle.relations.specs.RelationState.{uuid_of}
use Rattle.rounds_law.proofs.AnywhereAsked.{nothing_asked}

-- The plan's device, if it was given the plan's modules, whatever is plugged now.
pub of_given : (setup : Setup) (station : Station) (real : Real) → IsOfPlan setup station real → station.real ≡ setup.plan.real
    → IsOfPlan setup station station.real
of_given setup station real plan given =
    record { vendor = plan.vendor; device = plan.device; plugged = given; interval = plan.interval; ready = plan.ready; names = plan.names }

module _ {F : Type 0} {S : ℕ} (as_flash : Flash F S) (setup next : Setup) (identity : Identity) (silence : ℕ) (station : Station) (flash : F) (device : State F)
    (of_device : station.identity ≡ identity) (of_plan : IsOfPlan setup station station.real) (stored : HasStored as_flash setup flash)
    (is : IsStartedFrom as_flash station flash device) where
  -- Its state is that of a start with the settings of its flash.
  state : device.live ≡ started station.real stored.settings stored.room
  state = is.known stored.settings stored.room stored.starts

  pub unrelated : device.live.rest.link ≡ None
  unrelated = ap (λ (live : Live). live.rest.link) state

  suite_by : (stored.settings.suite ≡ setup.plan.station.suite) ⊎ (1 ≤ stored.room) → IsAddressed setup device.live ⊎ CanBeAddressed device.live
  suite_by (inl has) = inl (record { suite = ap (λ (live : Live). live.values.running.suite) state ∙ has })
  suite_by (inr room) = inr (record {
    unfailed = ap (λ (live : Live). live.values.has_failed) state;
    room = subst (λ (live : Live). 1 ≤ live.values.room) (sym state) room;
  })

  none_stored : {A : Type 0} → (kept : Kept) → kept_of setup.activity device.live.rest.calls ≡ Some kept → A
  none_stored kept has = not_both (sym (ap (λ (live : Live). kept_of setup.activity live.rest.calls) state) ∙ has)
    where
      not_both : {A : Type 0} → None ≡ Some kept → A
      not_both bad = absurd cc

  pub any_again : IsAnyDevice setup next identity silence device.station device.live
  any_again = record {
    of_device = ap (λ (s : Station). s.identity) is.station_is ∙ of_device;
    of_plan = subst (λ (s : Station). IsOfPlan setup s device.live.rest.real) (sym is.station_is)
        (subst (λ (r : Real). IsOfPlan setup station r) (sym (ap (λ (live : Live). live.rest.real) state)) of_plan);
    named = record { name = ap (λ (live : Live). live.values.running.name) state ∙ stored.named };
    sized = subst (λ (live : Live). IsSized live.values.running.suite) (sym state) stored.sized;
    addressed = suite_by stored.addressed;
    lasts = subst (λ link. AllLast setup silence link) (sym unrelated) tt;
    stored = λ kept has. none_stored kept has;
    stored_other = λ kept has. none_stored kept has;
    answers = λ keyed kept has. none_stored kept has;
    uncalled_next = ap (λ (live : Live). kept_of next.activity live.rest.calls) state;
    asked = nothing_asked setup next (uuid_of device.live.rest.link) device.live.rest.asked.standing (ap (λ (live : Live). live.rest.asked.standing) state);
  }

module _ {F : Type 0} {S : ℕ} (as_flash : Flash F S) (setup next : Setup) (identity : Identity) (silence : ℕ) (plant : Plant F) (device : State F)
    (at : IsAnywhere setup next identity silence plant) (given : plant.net.device.station.real ≡ setup.plan.real)
    (stored : HasStored as_flash setup plant.net.device.flash)
    (is : IsStartedFrom as_flash plant.net.device.station plant.net.device.flash device) where
  of_plan : IsOfPlan setup plant.net.device.station plant.net.device.station.real
  of_plan = of_given setup plant.net.device.station plant.net.device.live.rest.real at.device.of_plan given

  late_again : IsLate setup silence plant → IsLate setup silence (powered device plant)
  late_again (inl early) = inl early
  late_again (inr (releases, silent)) = inr (
    releases,
    inl (unrelated as_flash setup next identity silence plant.net.device.station plant.net.device.flash device at.device.of_device of_plan stored is),
  )

  -- Both ends are in any state again.
  pub anywhere_again : IsAnywhere setup next identity silence (powered device plant)
  anywhere_again = record {
    controller = at.controller;
    device = any_again as_flash setup next identity silence plant.net.device.station plant.net.device.flash device at.device.of_device
        of_plan stored is;
    to_device = at.to_device;
    to_controller = tt;
    more = at.more;
    later = at.later;
    idle = at.idle;
    late = λ ended. late_again (at.late ended);
  }
