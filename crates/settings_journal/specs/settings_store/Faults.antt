-- The effect of a fault of the flash, and how the settings go on.
use Rattle.std.specs.Prelude.{◌≡◌, true, false, List, [], ◌++◌, map}
use Rattle.pn_values.specs.declared.set_item.SetItem.{SetItem}
use Rattle.pn_values.specs.declared.set_item.SetItem.TheVariants.{Ask, Signal, Answer}
use Rattle.pn_values.specs.declared.set_item.BlockError.{BlockError}
use Rattle.pn_values.specs.declared.set_item.BlockError.TheVariants.{Done, Local}
use Rattle.settings_journal.specs.settings_store.State.{Values}
use Rattle.settings_journal.specs.settings_store.Machine.{carried}

-- the answer to an item once a commit has failed: a local fault for each command, and the usual answer for other items
abbrev pub answer_after_fault : SetItem → BlockError
answer_after_fault (Ask command) = Local
answer_after_fault Signal = Done
answer_after_fault (Answer answer) = answer

-- The effect of items, whatever the flash does. The items before the first commit in which a flash call failed are
-- carried out as if none fails. From that commit on, until the next start, each command is answered by a local fault,
-- and changes neither the running nor the stored settings.
pub record GoesOn (old : Values) (items : List SetItem) (answers : List BlockError) (new : Values) : Type 0 where
  pub done : List SetItem
  pub refused : List SetItem
  pub parts : items ≡ done ++ refused
  pub failed_before : old.has_failed ≡ true → done ≡ []
  pub none_failed : new.has_failed ≡ false → refused ≡ []
  pub running : new.running ≡ (carried [] old done).values.running
  pub stored : new.stored ≡ (carried [] old done).values.stored
  pub answered : answers ≡ (carried [] old done).answers ++ map answer_after_fault refused
