-- What a contract sees of a journal.
use Rattle.std.specs.Prelude.{ℕ, Bool}
use Rattle.pn_values.specs.declared.settings.Settings.{Settings}

-- the flash, the settings, how many commits there is room for, and whether a commit failed since the start
pub record State (F : Type 0) : Type 0 where
  pub flash : F
  pub settings : Settings
  pub room : ℕ
  pub has_failed : Bool
