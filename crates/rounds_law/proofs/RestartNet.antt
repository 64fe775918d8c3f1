-- A device that starts again in place.
use Rattle.std.proofs.Common.{rules, ◌≡◌, ℕ, [], Result, Ok, Err, IsOk, OnOk, IfErr, MatchResult, ap}
use Rattle.flash_model.specs.declared.flash.Flash.{Ghosts as Flash}
use Rattle.pn_values.specs.declared.settings.Settings.{Settings}
use Rattle.settings_journal.specs.declared.journal.BootFault.{BootFault}
use Rattle.settings_journal.specs.declared.journal.BootFault.TheVariants.{FlashFault, Foreign}
use Rattle.settings_journal.specs.Image.{StartsWith}
use Rattle.device_core.specs.Cycle.{IsStartedFrom, started}
use Rattle.device_core.specs.State.{Live, State}
use Rattle.rounds_law.specs.Rounds.{IsReliable}

module _ {F : Type 0} {S : ℕ} {T : Type 0} (as_flash : Flash F S) (before after : State F) where
  pub started_from : (result : Result T BootFault) (Cause : BootFault → Type 0)
      → OnOk result (StartsWith (as_flash.image before.flash) after.live.values.stored after.live.values.room)
      → OnOk result (after.live ≡ started before.station.real after.live.values.stored after.live.values.room) → after.station ≡ before.station
      → ((settings : Settings) (room : ℕ) → StartsWith (as_flash.image before.flash) settings room
      → MatchResult result (λ _. after.live ≡ started before.station.real settings room) (λ fault. fault ≡ FlashFault))
      → as_flash.image after.flash ≡ as_flash.image before.flash → as_flash.asked before.flash [] after.flash
      → MatchResult result (λ _. as_flash.failures after.flash ≡ as_flash.failures before.flash) Cause
      → OnOk result (IsStartedFrom as_flash before.station before.flash after)
  started_from (Ok done) Cause starts fresh station known same calls cause = record {
    station_is = station;
    known = known;
    fresh = fresh;
    starts = starts;
    image_is = same;
    failures_are = cause;
    none_asked = calls;
  }
  started_from (Err fault) Cause starts fresh station known same calls cause = tt

  pub starts_again : (result : Result T BootFault) → OnOk result (after.live ≡ started before.station.real after.live.values.stored after.live.values.room)
      → as_flash.is_reliable after.flash × IfErr result (λ fault. fault ≡ Foreign) → IfErr result (λ fault. fault ≡ FlashFault)
      → IsOk result × IsReliable as_flash after
  starts_again (Ok done) fresh reliable left = (search rules, record { flash = reliable.0; unfailed = ap (λ (live : Live). live.values.has_failed) fresh })
  starts_again (Err fault) fresh reliable left = let foreign = reliable.1 in absurd cc
