-- The calls that a commit makes to the flash.
use Rattle.std.specs.Prelude.{◌≡◌, ◌+◌, ◌-◌, ℕ, zero, suc, List, [], ◌∷◌, ◌++◌, Option, Some, None, Result, Ok, Err}
use Rattle.pn_values.specs.Command.{apply}
use Rattle.pn_values.specs.declared.command.Command.{Command}
use Rattle.pn_values.specs.declared.settings.Settings.{Settings}
use Rattle.flash_model.specs.Calls.{Call, Programs, Erases}
use Rattle.flash_model.specs.Image.{Image}
use Rattle.flash_model.specs.declared.flash.Sector.{Sector}
use Rattle.settings_journal.specs.Cut.{AreSafe, AreWrites, IsCutShort, all_carried_out}
use Rattle.settings_journal.specs.Head.{base_of}
use Rattle.settings_journal.specs.Slot.{place_of, entry_of}
use Rattle.settings_journal.specs.Image.{StartsAt, spare, slots_of, room_of}
use Rattle.settings_journal.specs.declared.journal.CommitFault.{CommitFault}
use Rattle.settings_journal.specs.declared.journal.CommitFault.TheVariants.{Exhausted, FlashFault, Failed}

-- The calls that write a base: the sector is erased, the base is programmed at its start, and the gate is opened by a
-- separate call.
abbrev pub base_calls : Sector → List ℕ → List Call
base_calls sector base = Erases sector ∷ Programs sector 0 base ∷ Programs sector 511 (0 ∷ []) ∷ []

-- The calls that write an entry: it is programmed at the start of the slot, and the gate is opened by a separate call.
abbrev pub slot_calls : Sector → ℕ → List ℕ → List Call
slot_calls sector number entry = Programs sector (place_of number) entry ∷ Programs sector (place_of number + 255) (0 ∷ []) ∷ []

-- The calls of a commit, in sectors of this many slots. If a slot of the active sector is left, the command goes into
-- the first such slot. If none is left, or no sector is active, a base goes into the other sector: the settings that
-- the command makes, with the next generation.
abbrev pub calls_of : ℕ → Option Sector → ℕ → ℕ → Settings → Command → List Call
calls_of slots (Some sector) generation (suc left) settings command = slot_calls sector (slots - suc left) (entry_of command)
calls_of slots (Some sector) generation zero settings command = base_calls (spare (Some sector)) (base_of (generation + 1) (apply command settings))
calls_of slots None generation free settings command = base_calls (spare None) (base_of (generation + 1) (apply command settings))

-- The calls of a commit on an image that is read as these settings, with room for this many commits. Each call writes
-- at most as many bytes as a base has. Wherever the calls are cut off, a start gives the settings from before or those
-- that the command makes of them.
pub record CommitCalls (image : Image) (settings : Settings) (room : ℕ) (command : Command) (calls : List Call) : Type 0 where
  pub active : Option Sector
  pub generation : ℕ
  pub free : ℕ
  pub starts : StartsAt image active settings generation free
  pub room_is : room ≡ room_of (slots_of image.first) generation free
  pub are : calls ≡ calls_of (slots_of image.first) active generation free settings command
  pub writes : AreWrites calls
  pub safe : AreSafe image calls settings (apply command settings)

-- A prefix of the calls, up to the one that failed, and the resulting image: the calls before the failed one were
-- carried out, and that one was cut short.
pub record IsFront (old : Image) (calls all : List Call) (new : Image) : Type 0 where
  pub passed : List Call
  pub failed : Call
  pub are : calls ≡ passed ++ failed ∷ []
  pub rest : List Call
  pub whole : all ≡ calls ++ rest
  pub left : IsCutShort (all_carried_out old passed) failed new

-- what succeeded made all of the calls; what failed made a prefix of them, up to the call that failed
abbrev pub IsAskedFor : {T E : Type 0} → Result T E → Image → List Call → List Call → Image → Type 0
IsAskedFor (Ok done) old all calls new = calls ≡ all
IsAskedFor (Err fault) old all calls new = IsFront old calls all new

-- the calls of a commit, by its result: all of them, a prefix up to the call that failed, or none
abbrev pub HasCommitCalls : Result (Unit {0}) CommitFault → Image → Settings → ℕ → Command → List Call → Image → Type 0
HasCommitCalls (Ok done) image settings room command calls new = CommitCalls image settings room command calls
HasCommitCalls (Err FlashFault) image settings room command calls new = (all : List Call) × CommitCalls image settings room command all × IsFront image calls all new
HasCommitCalls (Err Exhausted) image settings room command calls new = calls ≡ []
HasCommitCalls (Err Failed) image settings room command calls new = calls ≡ []
