-- What a step records for its host.
use Rattle.std.specs.Prelude.{◌≡◌, ◌≤◌, ℕ, List, ◌++◌, length}
use Rattle.flash_model.specs.Calls.{Call}
use Rattle.device_station.specs.recorded.Record.{image_of, record_of, recalled, after_all}
use Rattle.device_station.specs.declared.recorded.flash.RecordedFlash.{RecordedFlash}
use Rattle.settings_journal.specs.Cut.{all_carried_out}
use Rattle.settings_journal.specs.Image.{LeftByDevice, StartsWith}
use Rattle.settings_journal.specs.settings_store.Legal.{made_of}
use Rattle.settings_journal.specs.settings_store.Machine.{Accepted}
use Rattle.device_core.specs.State.{State}
use Rattle.device_station.specs.recording.Calls.{CallsOf, AreLegal, sum_of}

-- A step in which these commands were accepted. It records exactly the calls of these commands, in order. They are at
-- most 48, with at most 7,008 octets, and they are the last stored calls of the flash, which still has the octets of each. Carried out, they make the device's own image, and a start on it
-- gives the settings that these commands make of the stored ones. If a host is cut off anywhere while it carries them
-- out, its chip is a legal end.
pub record Records {S : ℕ} (old : State (RecordedFlash S)) (accepted : List Accepted) (new : State (RecordedFlash S)) : Type 0 where
  pub calls : List Call
  pub of_commands : CallsOf (image_of old.flash) old.live.values.stored old.live.values.room accepted calls
  pub record_is : record_of new.flash ≡ after_all (record_of old.flash) calls
  pub few : length calls ≤ 48
  pub short : sum_of calls ≤ 7008
  pub last : (before : List Call) × (recalled new.flash ≡ before ++ calls)
  pub image : image_of new.flash ≡ all_carried_out (image_of old.flash) calls
  pub made : new.live.values.stored ≡ made_of accepted old.live.values.stored
  pub starts : StartsWith (image_of new.flash) new.live.values.stored new.live.values.room
  pub left : LeftByDevice (image_of old.flash) → LeftByDevice (image_of new.flash)
  pub legal : AreLegal S (image_of old.flash) old.live.values.stored accepted calls
