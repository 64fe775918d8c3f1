-- What a commit leaves unchanged, whether it succeeded or failed.
use Rattle.std.specs.Prelude.{◌≡◌, ◌-◌, ℕ, zero, suc, Option, Some, None}
use Rattle.pn_values.specs.declared.settings.Settings.{Settings}
use Rattle.flash_model.specs.Image.{Image, sector_of, other}
use Rattle.flash_model.specs.declared.flash.Sector.{Sector}
use Rattle.flash_model.specs.declared.flash.Sector.TheVariants.{Second}
use Rattle.settings_journal.specs.Image.{StartsAt, slots_of}
use Rattle.settings_journal.specs.Writes.{KeepsOthers}

-- In sectors of this many slots: if slots of the active sector are left, everything in both sectors but the first of
-- these slots is unchanged. If none is left, the active sector is unchanged. If no sector is active, the second one is.
abbrev pub IsApart : ℕ → Option Sector → ℕ → Image → Image → Type 0
IsApart slots (Some active) (suc left) old new =
    KeepsOthers (slots - suc left) (sector_of old active) (sector_of new active) × (sector_of new (other active) ≡ sector_of old (other active))
IsApart slots (Some active) zero old new = sector_of new active ≡ sector_of old active
IsApart slots None free old new = sector_of new Second ≡ sector_of old Second

-- a commit on an image that is read as these settings leaves everything else unchanged, as `IsApart` says
abbrev pub StandsApart : Image → Settings → Image → Type 0
StandsApart old settings new =
    (active : Option Sector) × (generation : ℕ) × (free : ℕ) × StartsAt old active settings generation free × IsApart (slots_of old.first) active free old new
