-- A cycle of a station: what is known of its device.
use Rattle.std.proofs.Common.{◌≡◌, ℕ, List, [], sym, subst}
use Rattle.std.specs.Prelude.{flat_map}
use Rattle.flash_model.specs.declared.flash.Flash.{Ghosts as Flash}
use Rattle.pn_values.specs.declared.settings.Settings.{Settings}
use Rattle.settings_journal.specs.Image.{StartsWith, IsForeign}
use Rattle.settings_journal.specs.Commit.{HasBootCause}
use Rattle.settings_journal.specs.declared.journal.BootFault.{BootFault}
use Rattle.settings_journal.specs.declared.journal.BootFault.TheVariants.{Foreign}
use Rattle.device_frames.specs.declared.event.Event.{Event}
use Rattle.device_core.specs.State.{Station}
use Rattle.device_core.specs.State as device
use Rattle.device_core.specs.Cycle.{IsStartedFrom, Refuses, RefusesAfter, Restarts, started}
use Rattle.device_core.specs.Steps.{Runs}
use Rattle.device_station.specs.State.{State, of_device}
use Rattle.device_station.specs.Runs.{ServesFrom, StationCycled, StationRefusesAfter, StationRestarts, StationRuns}

-- the run of the device in a run of a station that was made of it
pub device_runs : {F : Type 0} {S : ℕ} (as_flash : Flash F S) (booted : device.State F) (begun ended : State F) (events : List Event) (before now : List (List ℕ))
    → begun.device ≡ booted → (ran : StationRuns as_flash begun events before now ended) → Runs as_flash booted ran.heard [] (flat_map of_device ran.turns) ended.device
device_runs {F} as_flash booted begun ended events before now same ran =
    subst (λ (d : device.State F). Runs as_flash d ran.heard [] (flat_map of_device ran.turns) ended.device) same ran.alone.runs

-- a cycle of the station of a device that was started
cycled_from : {F : Type 0} {S : ℕ} (as_flash : Flash F S) (station : Station) (flash : F) (booted : device.State F) (begun ended : State F) (events : List Event) (before now : List (List ℕ))
    → begun.device ≡ booted → ServesFrom booted begun.services → IsStartedFrom as_flash station flash booted → StationRuns as_flash begun events before now ended
    → StationCycled as_flash station flash events before now
cycled_from {F} as_flash station flash booted begun ended events before now same serves begins ran = record {
  begun = begun;
  ended = ended;
  starts = subst (λ (d : device.State F). IsStartedFrom as_flash station flash d) (sym same) begins;
  serves = subst (λ (d : device.State F). ServesFrom d begun.services) (sym same) serves;
  ran = ran;
}

-- what a restart finds after it
pub restarts_cycled : {F : Type 0} {S : ℕ} (as_flash : Flash F S) (power_up : F → F → Type 0) (station : Station) (flash : F) (first : Settings) (room : ℕ) (booted : device.State F) (begun ended : State F) (events : List Event) (before now : List (List ℕ))
    → begun.device ≡ booted → ServesFrom booted begun.services → IsStartedFrom as_flash station flash booted → (ran : StationRuns as_flash begun events before now ended)
    → (again : State F) → Restarts as_flash power_up station flash first room ran.heard [] (flat_map of_device ran.turns) again.device → StationRestarts as_flash power_up station flash first room events before now again
unfolding cycled_from
restarts_cycled as_flash power_up station flash first room booted begun ended events before now same serves begins ran again alone =
    record { cycled = cycled_from as_flash station flash booted begun ended events before now same serves begins ran; alone = alone }

-- a start after it that is refused
pub refused_cycled : {F : Type 0} {S : ℕ} (as_flash : Flash F S) (power_up : F → F → Type 0) (station : Station) (flash : F) (booted : device.State F) (begun ended : State F) (events : List Event) (before now : List (List ℕ))
    → begun.device ≡ booted → ServesFrom booted begun.services → IsStartedFrom as_flash station flash booted → (ran : StationRuns as_flash begun events before now ended)
    → (fault : BootFault) (left : F) → RefusesAfter as_flash power_up station flash ran.heard [] (flat_map of_device ran.turns) fault left → StationRefusesAfter as_flash power_up station flash events before now fault left
unfolding cycled_from
refused_cycled as_flash power_up station flash booted begun ended events before now same serves begins ran fault left alone =
    record { cycled = cycled_from as_flash station flash booted begun ended events before now same serves begins ran; alone = alone }

-- what a start of a device says
pub begins_from : {F : Type 0} {S : ℕ} (as_flash : Flash F S) (station : Station) (flash : F) (booted : device.State F) → booted.station ≡ station
    → ((settings : Settings) (room : ℕ) → StartsWith (as_flash.image flash) settings room → booted.live ≡ started station.real settings room) → booted.live ≡ started station.real booted.live.values.stored booted.live.values.room
    → StartsWith (as_flash.image flash) booted.live.values.stored booted.live.values.room → as_flash.image booted.flash ≡ as_flash.image flash → as_flash.failures booted.flash ≡ as_flash.failures flash → as_flash.asked flash [] booted.flash
    → IsStartedFrom as_flash station flash booted
begins_from as_flash station flash booted is known fresh starts image failures none_asked = record {
  station_is = is;
  known = known;
  fresh = fresh;
  starts = starts;
  image_is = image;
  failures_are = failures;
  none_asked = none_asked;
}

-- what a start that is refused says
pub refused_first : {F : Type 0} {S : ℕ} (as_flash : Flash F S) (flash : F) (fault : BootFault) (left : F)
    → HasBootCause fault (as_flash.failures flash) (as_flash.failures left) → as_flash.image left ≡ as_flash.image flash → as_flash.asked flash [] left → (fault ≡ Foreign → IsForeign (as_flash.image flash)) → Refuses as_flash flash fault left
refused_first as_flash flash fault left cause same none_asked foreign = record {
  cause = cause;
  same = same;
  none_asked = none_asked;
  foreign = λ is. subst IsForeign (sym same) (foreign is);
}
