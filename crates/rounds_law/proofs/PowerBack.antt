-- After a start from its flash, a device is what the flash has, and nothing more.
use Rattle.std.proofs.Common.{◌≡◌, ◌⊎◌, ◌≤◌, inl, inr, ℕ, refl, ap, subst, sym, ◌∙◌}
use Rattle.flash_model.specs.declared.flash.Flash.{Ghosts as Flash}
use Rattle.pn_values.specs.declared.identity.Identity.{Identity}
use Rattle.pn_values.specs.declared.real.Real.{Real}
use Rattle.device_core.specs.Cycle.{IsStartedFrom, started}
use Rattle.device_core.specs.State.{Live, State, Station}
use Rattle.controller_messages.specs.declared.setup.Setup.{Setup}
use Rattle.rpc_core.specs.Cache.{kept_of}
use Rattle.rounds_law.specs.Again.{IsDeserted, Plant}
use Rattle.rounds_law.specs.Path.{IsAddressed, IsSized}
use Rattle.rounds_law.specs.Power.{CanLosePower, powered}
use Rattle.rounds_law.specs.Start.{CanBeAddressed, IsOfPlan}

module _ {F : Type 0} {S : ℕ} (as_flash : Flash F S) (setup next : Setup) (identity : Identity) (left : ℕ) (plant : Plant F) (device : State F)
    (can : CanLosePower as_flash setup next identity left plant)
    (is : IsStartedFrom as_flash plant.net.device.station plant.net.device.flash device) where
  -- Its state is that of a start with the settings of its flash.
  state : device.live ≡ started plant.net.device.station.real can.settings can.room
  state = is.known can.settings can.room can.starts

  suite_by : (can.settings.suite ≡ setup.plan.station.suite) ⊎ (1 ≤ can.room) → IsAddressed setup device.live ⊎ CanBeAddressed device.live
  suite_by (inl has) = inl (record { suite = ap (λ (live : Live). live.values.running.suite) state ∙ has })
  suite_by (inr room) = inr (record {
    unfailed = ap (λ (live : Live). live.values.has_failed) state;
    room = subst (λ (live : Live). 1 ≤ live.values.room) (sym state) room;
  })

  pub deserted : IsDeserted setup next identity left (powered device plant)
  deserted = record {
    serial = can.serial;
    alone = can.alone;
    outputs = can.outputs;
    silent = refl;
    more = can.more;
    later = can.later;
    idle = can.idle;
    of_device = ap (λ (station : Station). station.identity) is.station_is ∙ can.of_device;
    of_plan = subst (λ (station : Station). IsOfPlan setup station device.live.rest.real) (sym is.station_is)
        (subst (λ (r : Real). IsOfPlan setup plant.net.device.station r) (sym (ap (λ (live : Live). live.rest.real) state)) can.of_plan);
    named = record { name = ap (λ (live : Live). live.values.running.name) state ∙ can.named };
    sized = subst (λ (live : Live). IsSized live.values.running.suite) (sym state) can.sized;
    addressed = suite_by can.addressed;
    unrelated = ap (λ (live : Live). live.rest.link) state;
    unasked = ap (λ (live : Live). live.rest.asked.standing) state;
    uncalled_next = ap (λ (live : Live). kept_of next.activity live.rest.calls) state;
  }
