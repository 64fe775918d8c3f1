-- The parts of the law of any state, together: from the clauses of the functions below.
use Rattle.std.proofs.Common.{◌≤◌, ℕ}
use Rattle.std.specs.Prelude.{length}
use Rattle.flash_model.specs.declared.flash.Flash.{Ghosts as Flash}
use Rattle.pn_values.specs.declared.identity.Identity.{Identity}
use Rattle.controller_messages.specs.declared.setup.Setup.{Setup}
use Rattle.rounds_law.specs.Again.{Plant}
use Rattle.rounds_law.specs.Rounds.{Net}
use Rattle.rounds_law.specs.Stages.{IsLooking, Leads}
use Rattle.rounds_law.specs.Start.{start_up_limit}
use Rattle.rounds_law.proofs.AnywhereControllerEnded.{ended_frame, ended_unit}
use Rattle.rounds_law.proofs.AnywhereControllerLaws.{ControllerLaws}
use Rattle.rounds_law.proofs.AnywhereControllerSearch.{IdentifyIsHeard, controller_finds, controller_search, search_frame}
use Rattle.rounds_law.proofs.AnywhereControllerSteps.{controller_frame, controller_unit, exchange_frame, exchange_unit}
use Rattle.rounds_law.proofs.AnywhereDeviceLaw.{DeviceLaws, device_found, device_frame, device_unit}
use Rattle.rounds_law.proofs.AnywhereExchanging.{exchanging_leads}
use Rattle.rounds_law.proofs.AnywhereLinkFrame.{link_frame}
use Rattle.rounds_law.proofs.AnywhereLinkInputs.{inputs_of_frame, inputs_of_unit}
use Rattle.rounds_law.proofs.AnywhereLinkLaws.{AnswerLaws, CallLaws, ExchangeLaws, ReadLaws}
use Rattle.rounds_law.proofs.AnywhereLinkRelease.{link_release, release_ignored}
use Rattle.rounds_law.proofs.AnywhereLinkUnit.{link_unit}
use Rattle.rounds_law.proofs.AnywhereNearingLeads.{on_the_way_leads}
use Rattle.rounds_law.proofs.AnywhereParts.{IsLong}
use Rattle.rounds_law.proofs.AnywherePlants.{OnTheWayLeads, PartedLeads, RoundKeeps}
use Rattle.rounds_law.proofs.AnywhereRounds.{round_keeps}
use Rattle.rounds_law.proofs.AnywhereStarts.{parted}

-- What the functions below say of a controller of this set-up and of this device.
pub record AnywhereLaws (setup : Setup) (identity : Identity) : Type 0 where
  pub controller : ControllerLaws
  pub device : DeviceLaws setup identity
  pub reads : ReadLaws
  pub answers : AnswerLaws
  pub calls : CallLaws setup
  pub exchange : ExchangeLaws setup
  pub short : length identity.station_type.items ≤ 25
  pub identify : IdentifyIsHeard

module _ {F : Type 0} {S : ℕ} (as_flash : Flash F S) (setup next : Setup) (identity : Identity) (silence : ℕ) (laws : AnywhereLaws setup identity)
    (long : IsLong as_flash setup next identity silence) where
  pub keeps : RoundKeeps as_flash setup next identity silence
  keeps =
      round_keeps as_flash setup next identity silence (device_frame as_flash setup next identity silence laws.device)
      (device_unit as_flash setup next identity silence laws.device) (controller_frame laws.controller setup) (controller_unit laws.controller setup)

  -- After the end of the controller.
  pub parted_all : ((net : Net F) → IsLooking next identity net → Leads as_flash (start_up_limit next.plan) net)
      → PartedLeads as_flash setup next identity silence
  parted_all next_starts =
      parted as_flash setup next identity silence (controller_frame laws.controller setup) (ended_frame laws.controller setup)
      (ended_unit laws.controller setup)
      (device_frame as_flash setup next identity silence laws.device) (link_unit as_flash setup next identity silence)
      (link_release as_flash setup next identity silence laws.calls) keeps
      (release_ignored as_flash setup next identity silence laws.calls laws.answers long.of_device) next_starts

  -- Before its end.
  pub on_the_way_all : (Also : Plant F → Type 0) → OnTheWayLeads as_flash setup next identity silence Also
  on_the_way_all Also =
      on_the_way_leads as_flash setup next identity silence laws.controller.left (controller_frame laws.controller setup)
      (controller_unit laws.controller setup) (controller_search laws.controller setup)
      (search_frame laws.controller setup) (controller_finds setup identity long.real long.of_device laws.short laws.identify)
      (exchange_unit laws.controller setup) (ended_unit laws.controller setup)
      (device_frame as_flash setup next identity silence laws.device) (device_unit as_flash setup next identity silence laws.device)
      (device_found as_flash setup next identity silence laws.device) Also
      (exchanging_leads as_flash setup next identity silence (controller_frame laws.controller setup) (controller_unit laws.controller setup)
      (exchange_frame laws.controller setup) (exchange_unit laws.controller setup)
      (ended_frame laws.controller setup) (ended_unit laws.controller setup) (device_frame as_flash setup next identity silence laws.device)
      (device_unit as_flash setup next identity silence laws.device) (link_frame as_flash setup next identity silence laws.device laws.reads laws.exchange)
      (link_unit as_flash setup next identity silence) (inputs_of_frame as_flash setup next identity silence laws.device laws.reads laws.exchange)
      (inputs_of_unit as_flash setup next identity silence laws.reads) Also)
