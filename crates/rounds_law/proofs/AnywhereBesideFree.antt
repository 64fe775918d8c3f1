-- The second round of a start at a device whose relation is over: the start goes on as at any other device.
use Rattle.std.proofs.Common.{◌≡◌, inl, inr, ◌+◌, ℕ, List, ◌∷◌, None, sym, ap, ◌∙◌, arith}
use Rattle.std.specs.List.{AllByRecursion}
use Rattle.flash_model.specs.declared.flash.Flash.{Ghosts as Flash}
use Rattle.pn_values.specs.declared.identity.Identity.{Identity}
use Rattle.controller_messages.specs.declared.request.Request.{Request}
use Rattle.controller_messages.specs.declared.request.Request.TheVariants as wants
use Rattle.controller_messages.specs.declared.setup.Setup.{Setup}
use Rattle.controller_messages.specs.Requests.{write_count}
use Rattle.controller_core.specs.declared.stored.state.State.{State as Phases}
use Rattle.controller_core.specs.declared.stored.state.State.TheVariants.{Addressing, Connecting}
use Rattle.rounds_law.specs.Again.{Plant}
use Rattle.rounds_law.specs.Anywhere.{LeadsAnywhereBack}
use Rattle.rounds_law.specs.AnywhereAgain.{StartLaws}
use Rattle.rounds_law.specs.Path.{IsAddressed}
use Rattle.rounds_law.specs.Rounds.{Net}
use Rattle.rounds_law.specs.Stages.{IsAddressing, IsConnecting}
use Rattle.rounds_law.specs.Start.{CanBeAddressed, CanStart}
use Rattle.rounds_law.proofs.AgainLaw.{plant_leads}
use Rattle.rounds_law.proofs.AnywhereAsked.{unrelated_asked}
use Rattle.rounds_law.proofs.AnywhereBesideEarly.{UnitLaws}
use Rattle.rounds_law.proofs.AnywhereBesideLooks.{AsksBeside, IsAskingBeside}
use Rattle.rounds_law.proofs.AnywhereBesideRound.{Pair, of_plan_next}
use Rattle.rounds_law.proofs.AnywhereRounds.{leads_longer}
use Rattle.rounds_law.proofs.AnywhereStarts.{back_anywhere}

module _ {F : Type 0} {S : ℕ} (as_flash : Flash F S) (identity : Identity) (silence : ℕ) (said : UnitLaws) (before setup : Setup) (later : List Setup)
    (pairs : AllByRecursion (Pair as_flash identity silence before) (setup ∷ later)) (laws : StartLaws as_flash identity setup)
    (can : CanStart setup identity) where
  abbrev IsAsking : ℕ → Phases → Request → Net F → Type 0
  IsAsking left phase request net = IsAskingBeside as_flash identity silence said before setup later pairs laws can left phase request net

  connecting : (left : ℕ) (net : Net F) → IsAsking left Connecting wants.Connect net → IsAddressed setup net.device.live → net.device.live.rest.link ≡ None
      → IsConnecting setup identity net
  connecting left net at addressed none = record {
    spare = at.spare;
    asks = at.asks;
    under_way = at.under_way;
    ignored = at.over none;
    of_device = at.device.of_device;
    of_plan = of_plan_next as_flash identity silence before setup net.device.station net.device.live.rest.real pairs.0.long.starts at.device.of_plan;
    addressed = addressed;
    free = record {
      unrelated = none;
      unasked = unrelated_asked before setup net.device.live.rest.link net.device.live.rest.asked.standing none at.device.asked;
      uncalled = at.device.uncalled_next;
    };
  }

  addressing : (left : ℕ) (net : Net F) → IsAsking left Addressing wants.Address net → CanBeAddressed net.device.live → net.device.live.rest.link ≡ None
      → IsAddressing setup identity net
  addressing left net at able none = record {
    spare = at.spare;
    asks = at.asks;
    under_way = at.under_way;
    ignored = at.over none;
    of_device = at.device.of_device;
    of_plan = of_plan_next as_flash identity silence before setup net.device.station net.device.live.rest.real pairs.0.long.starts at.device.of_plan;
    named = record { name = at.device.named.name ∙ ap (λ p. p.station.name) (sym pairs.0.long.starts.plan) };
    free = record {
      unrelated = none;
      unasked = unrelated_asked before setup net.device.live.rest.link net.device.live.rest.asked.standing none at.device.asked;
      uncalled = at.device.uncalled_next;
    };
    can = able;
  }

  -- Without a relation, both ends exchange data within the rest of a start.
  pub free_leads : (pause left : ℕ) (plant : Plant F) → AsksBeside as_flash identity silence said before setup later pairs laws can left plant.net
      → plant.net.device.live.rest.link ≡ None → LeadsAnywhereBack as_flash identity pause (write_count setup.plan + 4) plant
  free_leads pause left plant (inl (addressed, at)) none =
      leads_longer as_flash identity pause (write_count setup.plan + 3) (write_count setup.plan + 4) plant (omega arith)
      (back_anywhere as_flash identity pause (write_count setup.plan + 3) plant
      (plant_leads as_flash pause (write_count setup.plan + 3) plant (laws.connecting can plant.net (connecting left plant.net at addressed none))))
  free_leads pause left plant (inr (able, at)) none =
      back_anywhere as_flash identity pause (write_count setup.plan + 4) plant
      (plant_leads as_flash pause (write_count setup.plan + 4) plant (laws.addressing can plant.net (addressing left plant.net at able none)))
