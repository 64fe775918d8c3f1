-- From any state of both ends: by the part of a controller that has not ended, or by that of one that has.
use Rattle.std.proofs.Common.{◌≡◌, ◌≤◌, ◌+◌, ℕ, Bool, true, false, [], refl, arith}
use Rattle.flash_model.specs.declared.flash.Flash.{Ghosts as Flash}
use Rattle.pn_values.specs.declared.identity.Identity.{Identity}
use Rattle.controller_messages.specs.declared.setup.Setup.{Setup}
use Rattle.network_world.specs.World.{is_ended}
use Rattle.rounds_law.specs.Again.{Plant, made}
use Rattle.rounds_law.specs.Anywhere.{HasPatience, IsAnyController, IsAnywhere, LeadsAnywhereBack, anywhere_limit}
use Rattle.rounds_law.specs.Start.{start_up_limit}
use Rattle.rounds_law.proofs.AnywhereParts.{IsLong}
use Rattle.rounds_law.proofs.AnywherePlants.{IsUnderWay, OnTheWayLeads, PartedLeads}
use Rattle.rounds_law.proofs.AnywhereRounds.{leads_longer}

module _ {F : Type 0} {S : ℕ} (as_flash : Flash F S) (setup next : Setup) (identity : Identity) (silence pause : ℕ)
    (parted_leads : PartedLeads as_flash setup next identity silence)
    (on_the_way : OnTheWayLeads as_flash setup next identity silence (λ (plant : Plant F). Unit {0}))
    (long : IsLong as_flash setup next identity silence) (patience : HasPatience setup.options) (enough : silence + 4 ≤ pause) where
  -- In any state, with their own frames under way.
  under_way : (plant : Plant F) → IsAnywhere setup next identity silence plant → IsUnderWay as_flash setup next identity silence plant.net
  under_way plant at = record { controller = at.controller; device = at.device; to_device = at.to_device; to_controller = at.to_controller }

  pub anywhere_leads : (plant : Plant F) → IsAnywhere setup next identity silence plant
      → LeadsAnywhereBack as_flash identity pause (anywhere_limit setup silence pause) plant
  anywhere_leads plant at = by_end (is_ended plant.net.controller.live.phase) refl
    where
      by_end : (ended : Bool) → is_ended plant.net.controller.live.phase ≡ ended
          → LeadsAnywhereBack as_flash identity pause (anywhere_limit setup silence pause) plant
      by_end true ended =
          leads_longer as_flash identity pause (pause + start_up_limit setup.plan) (anywhere_limit setup silence pause) plant (omega arith)
          (parted_leads long patience pause enough plant (record {
            net = under_way plant at;
            starts = record { more = at.more; later = at.later };
            ended = ended;
            late = at.late ended;
          }))
      by_end false goes_on = on_the_way long patience pause (pause + start_up_limit setup.plan) (record {
        enough = omega (arith, enough);
        keeps = λ plant net idle also round. tt;
        leads = λ plant parted also. parted_leads long patience pause enough plant parted;
      }) plant (record {
        net = under_way plant at;
        starts = record { more = at.more; later = at.later };
        goes_on = goes_on;
        idle = at.idle goes_on;
        also = tt;
      })

-- A controller that was just made is in such a state.
pub any_first : (setup : Setup) → IsAnyController setup (made setup)
any_first setup = record {
  of_setup = refl;
  reached = record { plan = setup.plan; ar = setup.ar; activity = setup.activity; options = setup.options; events = []; made = refl };
  routed = λ stands. not_yet stands;
  alone = refl;
}
  where
    not_yet : {A : Type 0} → false ≡ true → A
    not_yet bad = absurd cc
