-- The effect of a host's operations on its port, its chip and what it sends, if no call of the chip fails.
use Rattle.std.specs.Prelude.{◌≡◌, ℕ, List, [], ◌∷◌, ◌++◌}
use Rattle.flash_model.specs.Calls.{Call}
use Rattle.flash_model.specs.Image.{Image}
use Rattle.settings_journal.specs.Cut.{all_carried_out, carried_out}
use Rattle.device_frames.specs.declared.note.Note.{Note}
use Rattle.device_abi.specs.declared.host.Operation.{Operation}
use Rattle.device_abi.specs.declared.host.Operation.TheVariants as operation
use Rattle.device_station.specs.port.Served.{Served, advanced_both, frames_of}
use Rattle.device_station.specs.port.ServedSteps.{TakesBoth}

-- The port, the content of the chip, and all that was sent.
pub record Point : Type 0 where
  pub port : Served
  pub chip : Image
  pub sent : List (List ℕ)

-- A port, its chip, and what was sent.
abbrev pub point : Served → Image → List (List ℕ) → Point
point port chip sent = record { port = port; chip = chip; sent = sent }

-- One piece of this work, after which this port has the rest: the first call is carried out on the chip; if no call remains, the first
-- frame is sent.
abbrev pub worked_by : Served → Point → List Call → List (List ℕ) → Point
worked_by rest at (call ∷ calls) frames = point rest (carried_out at.chip call) at.sent
worked_by rest at [] (frame ∷ frames) = point rest at.chip (at.sent ++ frame ∷ [])
worked_by rest at [] [] = point rest at.chip at.sent

-- After one piece of work.
abbrev pub worked : Point → Point
worked at = worked_by (advanced_both at.port) at at.port.port.calls (frames_of at.port)

-- No work remains.
abbrev pub emptied : Served → Served
emptied port = record port { port = record port.port { calls = []; frames = [] }; frames = [] }

-- All remaining work.
abbrev pub settled : Point → Point
settled at = point (emptied at.port) (all_carried_out at.chip at.port.port.calls) (at.sent ++ frames_of at.port)

-- Operations in order: `Works` is one piece of work, and an event is one step of the device and of the services beside it, once all work
-- is done.
abbrev pub Plays : List Operation → Point → Point → Type 0
Plays [] old new = new ≡ old
Plays (operation.Works ∷ more) old new = Plays more (worked old) new
Plays (operation.Happens event ∷ more) old new =
    (port : Served) × (note : Note) × TakesBoth (settled old).port event note port × Plays more (point port (settled old).chip (settled old).sent) new
