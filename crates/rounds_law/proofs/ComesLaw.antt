-- From each state of the table both ends exchange data.
use Rattle.std.proofs.Common.{◌≡◌, ◌⊎◌, inl, inr, ◌≤◌, ◌+◌, ◌-◌, ℕ, zero, suc, List, ◌∷◌, None, ap, subst, ◌∙◌, arith}
use Rattle.flash_model.specs.declared.flash.Flash.{Ghosts as Flash}
use Rattle.pn_values.specs.declared.identity.Identity.{Identity}
use Rattle.device_core.specs.State.{Live}
use Rattle.controller_messages.specs.declared.setup.Setup.{Setup}
use Rattle.controller_messages.specs.declared.request.Request.{Request}
use Rattle.controller_messages.specs.declared.request.Request.TheVariants as asks
use Rattle.controller_messages.specs.Requests.{write_count}
use Rattle.controller_core.specs.declared.stored.state.State.{State as Phases}
use Rattle.controller_core.specs.declared.stored.state.State.TheVariants.{Addressing as in_addressing, Connecting as in_connecting}
use Rattle.rounds_law.specs.Rounds.{Net}
use Rattle.rounds_law.specs.Path.{IsAddressed}
use Rattle.rounds_law.specs.Stages.{IsAddressing, IsConnecting, IsLooking, Leads}
use Rattle.rounds_law.specs.Start.{CanStart, start_up_limit}
use Rattle.rounds_law.specs.Again.{AreStarts, HasEarlier, IsDeserted, IsRestart, LeadsBack, Plant}
use Rattle.rounds_law.specs.Asking.{IsAskingAgain, Stage, stage_limit}
use Rattle.rounds_law.specs.Abandoned.{AsksInVain, Awaited, WaitsInVain}
use Rattle.rounds_law.specs.Comes.{Addressing, AddressingBeside, AskingAgain, AsksBeside, Comes, Confirming, Connecting, ConnectingBeside, Deserted, Ending, Exchanging, From}
use Rattle.rounds_law.specs.Comes.{IsAnsweredOrNot, IsEarlier, IsReleased, IsStopped, Looking, LookingBeside, Readied, Refused, Released, Stopped, Unanswered}
use Rattle.rounds_law.specs.Comes.{Waiting, WillStart, Writing, comes_within}
use Rattle.rounds_law.specs.Middle.{IsConfirming, IsEnding, IsReadied, IsWaiting, IsWriting, waiting_limit, writing_limit}
use Rattle.rounds_law.proofs.AbandonedLaw.{quit_leads}
use Rattle.rounds_law.proofs.AbandonedRounds.{DeniedLaws, HalfwayLaws, IsQuit}
use Rattle.rounds_law.proofs.AgainLaw.{AgainLaws, EndedLaws, Has, IsAsking, Lasts, Stands, leads_more, longer, next_leads, over_leads, plant_leads, sum, sum_is}
use Rattle.rounds_law.proofs.CompositionLaws.{Laws}

-- ---- a controller that has ended

module _ {F : Type 0} {S : ℕ} (as_flash : Flash F S) (setup next : Setup) (identity : Identity) (laws : Laws setup identity) (again : AgainLaws setup identity)
    (again_next : AgainLaws next identity) (ends : EndedLaws setup identity) (can : CanStart setup identity) (starts : AreStarts setup next) where
  stands_by : (plant : Plant F) → WillStart setup next identity plant → Stands setup next identity plant.net
  stands_by plant at = record {
    ignored = at.ignored;
    ignored_next = at.ignored_next;
    of_device = at.of_device;
    of_plan = at.of_plan;
    named = at.named;
    sized = at.sized;
    addressed = at.addressed;
    uncalled_next = at.uncalled_next;
    unasked = at.unasked;
  }

  lasts_by : (left : ℕ) (live : Live) → (live.rest.link ≡ None) ⊎ IsEarlier setup next left live → Lasts setup next (suc left) live
  lasts_by left live (inl none) = inl none
  lasts_by left live (inr has) = inr (record { here = longer setup left live has.0; there = longer next left live has.1 })

  pub comes_back_stopped : (pause : ℕ) (more : List Setup)
      → ((net : Net F) → IsLooking next identity net → Leads as_flash (start_up_limit setup.plan) net)
      → (left : ℕ) (plant : Plant F) → (at : IsStopped setup next identity pause left plant) → at.will_start.more ≡ more
      → LeadsBack as_flash pause (pause - plant.idle + start_up_limit setup.plan) plant
  comes_back_stopped pause more next_starts left plant at same =
      let rest = pause - plant.idle - 1 in
      let is : pause ≡ plant.idle + suc rest = omega (arith, at.time) in
      leads_more as_flash pause (suc (sum rest (start_up_limit setup.plan))) (pause - plant.idle + start_up_limit setup.plan) plant (enough rest is)
      (over_leads as_flash setup next identity laws again again_next ends can starts pause more next_starts rest plant (suc left)
      (at.will_start.later ∙ ap (λ (l : List Setup). next ∷ l) same) is (omega (arith, is, at.time)) (record {
        stands = stands_by plant at.will_start;
        cause = at.cause;
        ended = at.ended;
        nothing = at.nothing;
        lasts = lasts_by left plant.net.device.live at.lasts;
      }))
    where
      enough : (rest : ℕ) → pause ≡ plant.idle + suc rest → suc (sum rest (start_up_limit setup.plan)) ≤ pause - plant.idle + start_up_limit setup.plan
      enough rest is = let total : sum rest (start_up_limit setup.plan) ≡ rest + start_up_limit setup.plan = sum_is rest (start_up_limit setup.plan) in
          omega (arith, is, total)

  -- ---- with its Release

  module _ (denies : DeniedLaws setup identity) (halfway : HalfwayLaws setup identity) where
    quit_by : (plant : Plant F) (pause : ℕ) → (at : IsReleased setup next identity pause plant) → IsAnsweredOrNot setup identity at.sequence plant.net
        → IsQuit as_flash setup next identity laws again again_next ends can starts denies halfway plant.net
    quit_by plant pause at (inl answered) = inr (record {
      bare = record { stands = stands_by plant at.will_start; silent = at.silent; unrelated = at.unrelated };
      reached = answered.0;
      cause = at.cause;
      sequence = at.sequence;
      waited = at.waited;
      numbered = at.numbered;
      releasing = at.releasing;
      under_way = answered.2;
      new_call = answered.1;
    })
    quit_by plant pause at (inr away) = inl (inr (record {
      bare = record { stands = stands_by plant at.will_start; silent = at.silent; unrelated = at.unrelated };
      unreached = away.0;
      cause = at.cause;
      sequence = at.sequence;
      waited = at.waited;
      numbered = at.numbered;
      releasing = at.releasing;
      under_way = away.1;
    }))

    pub comes_back_released : (pause : ℕ) (more : List Setup)
        → ((net : Net F) → IsLooking next identity net → Leads as_flash (start_up_limit setup.plan) net)
        → (plant : Plant F) → (at : IsReleased setup next identity pause plant) → at.will_start.more ≡ more
        → LeadsBack as_flash pause (pause - plant.idle + start_up_limit setup.plan) plant
    comes_back_released pause more next_starts plant at same =
        let rest = pause - plant.idle - 1 in
        let is : pause ≡ plant.idle + suc rest = omega (arith, at.time) in
        leads_more as_flash pause (suc (sum rest (start_up_limit setup.plan))) (pause - plant.idle + start_up_limit setup.plan) plant (enough rest is)
        (quit_leads as_flash setup next identity laws again again_next ends can starts denies halfway pause more next_starts rest plant
        (at.will_start.later ∙ ap (λ (l : List Setup). next ∷ l) same) is (quit_by plant pause at at.under_way))
      where
        enough : (rest : ℕ) → pause ≡ plant.idle + suc rest → suc (sum rest (start_up_limit setup.plan)) ≤ pause - plant.idle + start_up_limit setup.plan
        enough rest is = let total : sum rest (start_up_limit setup.plan) ≡ rest + start_up_limit setup.plan = sum_is rest (start_up_limit setup.plan) in
            omega (arith, is, total)

  -- ---- beside an earlier relation

  module _ (pause : ℕ) (more : List Setup) (next_starts : (net : Net F) → IsLooking next identity net → Leads as_flash (start_up_limit setup.plan) net)
      (looking : (net : Net F) → IsLooking setup identity net → Leads as_flash (start_up_limit setup.plan) net)
      (addressing : (net : Net F) → IsAddressing setup identity net → Leads as_flash (write_count setup.plan + 4) net)
      (connecting : (net : Net F) → IsConnecting setup identity net → Leads as_flash (write_count setup.plan + 3) net) where
    earlier_by : (left : ℕ) (live : Live) → IsEarlier setup next left live → Has setup next (suc (left - 1)) live
    earlier_by zero live has = record { here = longer setup 0 live has.0; there = longer next 0 live has.1 }
    earlier_by (suc left) live has = record {
      here = subst (λ (n : ℕ). HasEarlier setup n live) one_more has.0;
      there = subst (λ (n : ℕ). HasEarlier next n live) one_more has.1;
    }
      where
        one_more : suc left ≡ suc (suc left - 1)
        one_more = omega arith

    asking_by : (phase : Phases) (request : Request) (left : ℕ) (plant : Plant F) → AsksBeside setup next identity phase request left plant
        → IsAsking setup next identity (suc (left - 1)) phase request plant.net
    asking_by phase request left plant at = record {
      stands = stands_by plant at.will_start;
      spare = at.spare;
      asks = at.asks;
      under_way = at.under_way;
      has = earlier_by left plant.net.device.live at.earlier;
      uncalled = at.uncalled;
    }

    pub comes_back_addressing : (left : ℕ) → 1 ≤ pause → left ≤ pause → (plant : Plant F)
        → (at : AsksBeside setup next identity in_addressing asks.Address left plant) → at.will_start.more ≡ more
        → LeadsBack as_flash pause (pause + start_up_limit setup.plan) plant
    comes_back_addressing left some few plant at same =
        next_leads as_flash setup next identity laws again again_next ends can starts pause more next_starts looking addressing connecting
        (suc (left - 1)) plant (at.will_start.later ∙ ap (λ (l : List Setup). next ∷ l) same) at.idle (omega (arith, some, few))
        (inl (inr (asking_by in_addressing asks.Address left plant at)))

    pub comes_back_connecting : (left : ℕ) → 1 ≤ pause → left ≤ pause → (plant : Plant F) → IsAddressed setup plant.net.device.live
        → (at : AsksBeside setup next identity in_connecting asks.Connect left plant) → at.will_start.more ≡ more
        → LeadsBack as_flash pause (pause + start_up_limit setup.plan) plant
    comes_back_connecting left some few plant addressed at same =
        next_leads as_flash setup next identity laws again again_next ends can starts pause more next_starts looking addressing connecting
        (suc (left - 1)) plant (at.will_start.later ∙ ap (λ (l : List Setup). next ∷ l) same) at.idle (omega (arith, some, few))
        (inr (inr (addressed, asking_by in_connecting asks.Connect left plant at)))

-- ---- each state

-- What the laws say of each of them.
pub record EachLaw {F : Type 0} {S : ℕ} (as_flash : Flash F S) (setup next : Setup) (identity : Identity) (pause : ℕ) : Type 0 where
  pub looking : (net : Net F) → IsLooking setup identity net → Leads as_flash (start_up_limit setup.plan) net
  pub addressing : (net : Net F) → IsAddressing setup identity net → Leads as_flash (write_count setup.plan + 4) net
  pub connecting : (net : Net F) → IsConnecting setup identity net → Leads as_flash (write_count setup.plan + 3) net
  pub asking : (stage : Stage) (net : Net F) → IsAskingAgain setup identity stage net
      → Leads as_flash (32000 - net.controller.live.waited + stage_limit setup.plan stage) net
  pub writing : (number : ℕ) (net : Net F) → IsWriting setup identity number net → Leads as_flash (writing_limit setup.plan number) net
  pub ending : (net : Net F) → IsEnding setup identity net → Leads as_flash 2 net
  pub waiting : (waited : ℕ) (net : Net F) → IsWaiting setup identity waited net → Leads as_flash (waiting_limit waited) net
  pub readied : (net : Net F) → IsReadied setup identity net → Leads as_flash 2 net
  pub confirming : (net : Net F) → IsConfirming setup identity net → Leads as_flash 1 net
  pub looking_beside : (left : ℕ) → left ≤ pause → (plant : Plant F) → IsRestart setup next identity left plant
      → LeadsBack as_flash pause (suc (pause + start_up_limit setup.plan)) plant
  pub addressing_beside : (left : ℕ) → left ≤ pause → (plant : Plant F) → AsksBeside setup next identity in_addressing asks.Address left plant
      → LeadsBack as_flash pause (pause + start_up_limit setup.plan) plant
  pub connecting_beside : (left : ℕ) → left ≤ pause → (plant : Plant F) → IsAddressed setup plant.net.device.live
      → AsksBeside setup next identity in_connecting asks.Connect left plant
      → LeadsBack as_flash pause (pause + start_up_limit setup.plan) plant
  pub deserted : (left : ℕ) (plant : Plant F) → IsDeserted setup next identity left plant → LeadsBack as_flash pause (left + pause + start_up_limit setup.plan) plant
  pub refused : (left number : ℕ) (plant : Plant F) → AsksInVain setup next identity number left plant
      → LeadsBack as_flash pause (left + pause + start_up_limit setup.plan) plant
  pub unanswered : (left : ℕ) (awaited : Awaited) (plant : Plant F) → WaitsInVain setup next identity awaited left plant
      → LeadsBack as_flash pause (left + pause + start_up_limit setup.plan) plant
  pub stopped : (left : ℕ) (plant : Plant F) → IsStopped setup next identity pause left plant
      → LeadsBack as_flash pause (pause - plant.idle + start_up_limit setup.plan) plant
  pub released : (plant : Plant F) → IsReleased setup next identity pause plant
      → LeadsBack as_flash pause (pause - plant.idle + start_up_limit setup.plan) plant

pub comes_from : {F : Type 0} {S : ℕ} (as_flash : Flash F S) (setup next : Setup) (identity : Identity) (pause : ℕ) → EachLaw as_flash setup next identity pause
    → (from : From) (plant : Plant F) → Comes setup next identity pause from plant → LeadsBack as_flash pause (comes_within setup.plan pause from) plant
comes_from as_flash setup next identity pause each Looking plant at =
    plant_leads as_flash pause (start_up_limit setup.plan) plant (each.looking plant.net at)
comes_from as_flash setup next identity pause each Addressing plant at =
    plant_leads as_flash pause (write_count setup.plan + 4) plant (each.addressing plant.net at)
comes_from as_flash setup next identity pause each Connecting plant at =
    plant_leads as_flash pause (write_count setup.plan + 3) plant (each.connecting plant.net at)
comes_from as_flash setup next identity pause each (AskingAgain stage waited) plant at =
    plant_leads as_flash pause (32000 - waited + stage_limit setup.plan stage) plant
    (subst (λ (n : ℕ). Leads as_flash (32000 - n + stage_limit setup.plan stage) plant.net) at.0 (each.asking stage plant.net at.1))
comes_from as_flash setup next identity pause each (Writing number) plant at =
    plant_leads as_flash pause (writing_limit setup.plan number) plant (each.writing number plant.net at)
comes_from as_flash setup next identity pause each Ending plant at = plant_leads as_flash pause 2 plant (each.ending plant.net at)
comes_from as_flash setup next identity pause each (Waiting waited) plant at =
    plant_leads as_flash pause (waiting_limit waited) plant (each.waiting waited plant.net at)
comes_from as_flash setup next identity pause each Readied plant at = plant_leads as_flash pause 2 plant (each.readied plant.net at)
comes_from as_flash setup next identity pause each Confirming plant at = plant_leads as_flash pause 1 plant (each.confirming plant.net at)
comes_from as_flash setup next identity pause each Exchanging plant at = at
comes_from as_flash setup next identity pause each (LookingBeside left) plant at =
    subst (λ (n : ℕ). LeadsBack as_flash pause n plant) same (each.looking_beside left at.0 plant at.1)
  where
    same : suc (pause + start_up_limit setup.plan) ≡ pause + start_up_limit setup.plan + 1
    same = omega arith
comes_from as_flash setup next identity pause each (AddressingBeside left) plant at = each.addressing_beside left at.0 plant at.1
comes_from as_flash setup next identity pause each (ConnectingBeside left) plant at = each.connecting_beside left at.0 plant at.1 at.2
comes_from as_flash setup next identity pause each (Deserted left) plant at = each.deserted left plant at
comes_from as_flash setup next identity pause each (Refused number left) plant at = each.refused left number plant at
comes_from as_flash setup next identity pause each (Unanswered awaited left) plant at = each.unanswered left awaited plant at
comes_from as_flash setup next identity pause each (Stopped left idle) plant at =
    subst (λ (n : ℕ). LeadsBack as_flash pause (pause - n + start_up_limit setup.plan) plant) at.0 (each.stopped left plant at.1)
comes_from as_flash setup next identity pause each (Released idle) plant at =
    subst (λ (n : ℕ). LeadsBack as_flash pause (pause - n + start_up_limit setup.plan) plant) at.0 (each.released plant at.1)
