-- What the store of a command needs, and what it leaves.
use Rattle.std.specs.Prelude.{◌≡◌, ◌+◌, ◌≤◌, ℕ, Result, IfOk, OnOk}
use Rattle.pn_values.specs.Command.{apply}
use Rattle.pn_values.specs.declared.command.Command.{Command}
use Rattle.pn_values.specs.declared.settings.Settings.{Settings}
use Rattle.flash_model.specs.Image.{Image}
use Rattle.flash_model.specs.declared.flash.FlashFault.{FlashFault}
use Rattle.settings_journal.specs.Commit.{IsKept}
use Rattle.settings_journal.specs.Image.{StartsAt, LeftByDevice, IsGeneration, room_of}
use Rattle.settings_journal.specs.declared.start.Position.{Position}

-- a start on the image finds the journal at this position with the settings before, and the command turns them into the
-- next ones
pub record IsBefore (image : Image) (position : Position) (command : Command) (before next : Settings) : Type 0 where
  pub starts : StartsAt image position.active before position.generation position.free
  pub next_is : next ≡ apply command before

-- If it succeeded, a start finds the next settings, there is room for one commit fewer, and the generation rose by at
-- most one. Whether it succeeded or failed, the image is left by this device, and a start gives the settings before or
-- the next ones.
pub record Stored (old new : Image) (slots : ℕ) (position : Position) (before next : Settings) (result : Result Position FlashFault) : Type 0 where
  pub starts : IfOk result (λ now. StartsAt new now.active next now.generation now.free)
  pub room : IfOk result (λ now. room_of slots now.generation now.free + 1 ≡ room_of slots position.generation position.free)
  pub generation : (was : ℕ) → IsGeneration old was → OnOk result ((now : ℕ) × IsGeneration new now × (now ≤ was + 1))
  pub kept : LeftByDevice old → IsKept new before next
