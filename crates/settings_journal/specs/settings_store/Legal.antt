-- The settings that a power failure may leave.
use Rattle.std.specs.Prelude.{◌≡◌, ◌⊎◌, Bool, true, false, List, [], ◌∷◌, ◌++◌}
use Rattle.pn_values.specs.Command.{fold_of}
use Rattle.pn_values.specs.declared.settings.Settings.{Settings}
use Rattle.flash_model.specs.Image.{Image}
use Rattle.settings_journal.specs.Image.{BootsTo, LeftByDevice}
use Rattle.settings_journal.specs.settings_store.Machine.{Accepted, commands_of}

-- the settings that all accepted commands make of the first ones
abbrev pub made_of : List Accepted → Settings → Settings
made_of accepted first = fold_of (commands_of accepted) first

-- a start on the image gives the settings of all but the last accepted command, and that one was not answered 'done'
pub record AllButLast (image : Image) (accepted : List Accepted) (first : Settings) : Type 0 where
  pub front : List Accepted
  pub last : Accepted
  pub parts : accepted ≡ front ++ last ∷ []
  pub not_done : last.is_done ≡ false
  pub boots : BootsTo image (made_of front first)

-- A legal end: a start gives the settings that all accepted commands make of the first ones, or all but a last command
-- that was not answered 'done'.
abbrev pub LegalEnd : Image → List Accepted → Settings → Type 0
LegalEnd image accepted first = BootsTo image (made_of accepted first) ⊎ AllButLast image accepted first

-- What calls may leave of an image, whichever of them fail: it stays an image left by this device, and it is a legal
-- end. After a commit that failed earlier it does not change.
pub record CrashSafe (has_failed : Bool) (first : Settings) (accepted : List Accepted) (old new : Image) : Type 0 where
  pub left : LeftByDevice old → LeftByDevice new
  pub legal : has_failed ≡ false → LeftByDevice old → LegalEnd new accepted first
  pub untouched : has_failed ≡ true → new ≡ old
