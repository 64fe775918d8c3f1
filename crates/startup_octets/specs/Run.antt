-- The entries of a run of both ends.
use Rattle.std.specs.Prelude.{◌≡◌, ◌⊎◌, ◌++◌, ℕ, false, List, [], ◌∷◌, take, Some, None}
use Rattle.flash_model.specs.declared.flash.Flash.{Ghosts as Flash}
use Rattle.network_world.specs.declared.moves.Move.{Move}
use Rattle.network_world.specs.World.{AreMade, last_world, World}
use Rattle.both_ends.specs.startup.Played.{moves_of}
use Rattle.startup_octets.specs.Played.{turn_by}
use Rattle.startup_octets.specs.Log.{Entry}
use Rattle.startup_octets.specs.OutputWorlds.{outputs_shown, places_shown}

module _ {F : Type 0} where
  -- the first turn: the controller sends its opening frame
  abbrev pub opening_entry : World F → Entry
  opening_entry first = record {
    turn = record { at_device = false; came = []; sent = first.sent };
    said = None;
    alarm = first.controller.live.alarm;
    outputs = outputs_shown first;
    places = places_shown first;
  }

  -- a move in a world, and the world after it
  abbrev pub entry_by : World F → Move → World F → Entry
  entry_by before one after = record {
    turn = turn_by before.sent one after.sent;
    said = Some one;
    alarm = after.controller.live.alarm;
    outputs = outputs_shown after;
    places = places_shown after;
  }

  -- the moves of a run, each with the world after it
  abbrev pub entries_of : World F → List (Move × World F) → List Entry
  entries_of before [] = []
  entries_of before (one ∷ run) = entry_by before one.0 one.1 ∷ entries_of one.1 run

-- These moves were made from a world on, to the last one, and the log grew by their entries.
pub record IsRun {F : Type 0} {S : ℕ} (as_flash : Flash F S) (first : World F) (moves : List Move) (old new : List Entry) (last : World F) : Type 0 where
  pub run : List (Move × World F)
  pub are : moves_of run ≡ moves
  pub made : AreMade as_flash first run
  pub ends : last_world first run ≡ last
  pub logged : new ≡ old ++ opening_entry first ∷ entries_of first run

-- The log is as it was, or the first ones of these moves were made.
abbrev pub IsCut : {F : Type 0} {S : ℕ} → Flash F S → World F → List Move → List Entry → List Entry → Type 0
IsCut {F} as_flash first moves old new = (new ≡ old) ⊎ ((count : ℕ) × (last : World F) × IsRun as_flash first (take count moves) old new last)
