-- What a contract sees of a store.
use Rattle.std.specs.Prelude.{ℕ, Bool}
use Rattle.pn_values.specs.declared.settings.Settings.{Settings}

-- The running and the stored settings, how many commits there is room for, whether a commit failed since the start, and
-- whether power was lost.
pub record Values : Type 0 where
  pub running : Settings
  pub stored : Settings
  pub room : ℕ
  pub has_failed : Bool
  pub is_lost : Bool

-- the flash, and the values of the store
pub record State (F : Type 0) : Type 0 where
  pub flash : F
  pub values : Values
