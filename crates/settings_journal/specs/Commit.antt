-- The results of a start and of a commit, and what a commit leaves.
use Rattle.std.specs.Prelude.{◌≡◌, ◌⊎◌, ℕ, Result, Ok, Err}
use Rattle.pn_values.specs.declared.settings.Settings.{Settings}
use Rattle.flash_model.specs.Image.{Image}
use Rattle.flash_model.specs.Torn.{HasRisen}
use Rattle.settings_journal.specs.declared.journal.BootFault.{BootFault}
use Rattle.settings_journal.specs.declared.journal.BootFault.TheVariants.{FlashFault, Foreign}
use Rattle.settings_journal.specs.declared.journal.CommitFault.{CommitFault}
use Rattle.settings_journal.specs.declared.journal.CommitFault.TheVariants as commit
use Rattle.settings_journal.specs.Image.{BootsTo, LeftByDevice}

-- after FlashFault of a start the count of failed calls has risen or is saturated; after Foreign it is unchanged
abbrev pub HasBootCause : BootFault → ℕ → ℕ → Type 0
HasBootCause FlashFault before now = HasRisen before now
HasBootCause Foreign before now = now ≡ before

-- after FlashFault of a commit the count of failed calls has risen or is saturated; after any other result it is
-- unchanged
abbrev pub HasCommitCause : Result (Unit {0}) CommitFault → ℕ → ℕ → Type 0
HasCommitCause (Ok done) before now = now ≡ before
HasCommitCause (Err commit.FlashFault) before now = HasRisen before now
HasCommitCause (Err commit.Exhausted) before now = now ≡ before
HasCommitCause (Err commit.Failed) before now = now ≡ before

-- the image is left by this device, and a start on it gives the settings from before or the new ones
pub record IsKept (image : Image) (before now : Settings) : Type 0 where
  pub left : LeftByDevice image
  pub boots : BootsTo image before ⊎ BootsTo image now
