-- The calls of accepted commands, and the state of a chip whose host carries them out and is cut off.
use Rattle.std.specs.Prelude.{◌≡◌, ◌⊎◌, ◌+◌, ◌-◌, ℕ, false, List, [], ◌∷◌, ◌++◌, length}
use Rattle.pn_values.specs.Command.{apply}
use Rattle.pn_values.specs.declared.settings.Settings.{Settings}
use Rattle.flash_model.specs.Calls.{Call, Programs, Erases, Arms}
use Rattle.flash_model.specs.Image.{Image, IsImage}
use Rattle.settings_journal.specs.Calls.{CommitCalls}
use Rattle.settings_journal.specs.Cut.{CutOff, all_carried_out}
use Rattle.settings_journal.specs.Image.{BootsTo, LeftByDevice, StartsWith}
use Rattle.settings_journal.specs.settings_store.Legal.{LegalEnd, made_of}
use Rattle.settings_journal.specs.settings_store.Machine.{Accepted}

-- how many bytes a call programs
abbrev pub size_of : Call → ℕ
size_of (Programs sector place bytes) = length bytes
size_of (Erases sector) = 0
size_of (Arms order) = 0

-- how many bytes these calls program together
abbrev pub sum_of : List Call → ℕ
sum_of [] = 0
sum_of (call ∷ calls) = size_of call + sum_of calls

-- The calls of accepted commands on an image that is read as these settings, with room for this many commits: those of
-- each commit, in order, on the image that the commands before it left. A start on the last image gives the settings
-- that all commands make, and an image that this device left stays one.
abbrev pub CallsOf : Image → Settings → ℕ → List Accepted → List Call → Type 0
CallsOf image stored room [] calls = (calls ≡ []) × StartsWith image stored room
CallsOf image stored room (one ∷ more) calls =
    (commit : List Call) × (rest : List Call) × CommitCalls image stored room one.command commit × (LeftByDevice image → LeftByDevice (all_carried_out image commit))
    × CallsOf (all_carried_out image commit) (apply one.command stored) (room - 1) more rest × (calls ≡ commit ++ rest)

-- a command whose response was never sent
abbrev pub unanswered : Accepted → Accepted
unanswered one = record one { is_done = false }

-- The commands that count as accepted if the host is cut off: all of them, or a prefix and one more, which was not
-- answered 'done'.
abbrev pub AcceptedOf : List Accepted → List Accepted → Type 0
AcceptedOf [] some = some ≡ []
AcceptedOf (one ∷ more) some = (some ≡ unanswered one ∷ []) ⊎ ((rest : List Accepted) × (some ≡ one ∷ rest) × AcceptedOf more rest)

-- The chip is left by this device, and is a legal end of the commands accepted before the cut, after those of earlier
-- steps: a start gives the settings that the commands of earlier steps and a prefix of these make of the first
-- settings.
pub record EndsLegally (chip : Image) (earlier accepted : List Accepted) (first : Settings) : Type 0 where
  pub some : List Accepted
  pub some_of : AcceptedOf accepted some
  pub left : LeftByDevice chip
  pub legal : LegalEnd chip (earlier ++ some) first
  pub stored : List Accepted
  pub unstored : List Accepted
  pub parts : accepted ≡ stored ++ unstored
  pub boots : BootsTo chip (made_of (earlier ++ stored) first)

-- Wherever the calls of these commands are cut off, and whatever commands of earlier steps led to the stored settings:
-- the chip ends legally.
abbrev pub AreLegal : ℕ → Image → Settings → List Accepted → List Call → Type 0
AreLegal size image stored accepted calls = (chip : Image) → IsImage size chip → CutOff image calls chip → LeftByDevice image
    → (first : Settings) (earlier : List Accepted) → stored ≡ made_of earlier first → EndsLegally chip earlier accepted first
