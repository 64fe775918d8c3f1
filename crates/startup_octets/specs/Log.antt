-- What a witness of both ends learns: a turn of an end for each move.
use Rattle.std.specs.Prelude.{◌≡◌, ◌++◌, ℕ, false, List, [], ◌∷◌, map, filter_map, flat_map, Option, Some, None}
use Rattle.record_blocks.specs.declared.alarm_notification.AlarmNotification.{AlarmNotification}
use Rattle.expected_places.specs.declared.place.ExpectedPlace.{ExpectedPlace}
use Rattle.network_world.specs.declared.moves.Move.{Move}
use Rattle.network_world.specs.World.{end_at}
use Rattle.startup_octets.specs.StartUp.{Turn}
use Rattle.startup_octets.specs.Played.{came_by, is_device}

-- A turn; the move that it belongs to, which the controller's opening frame has not; the last alarm that the controller shows then; what
-- the device shows then as each output of the plan; and the places of its relation, if it has one, and how far each is since something was
-- pulled or plugged there.
pub record Entry : Type 0 where
  pub turn : Turn
  pub said : Option Move
  pub alarm : Option AlarmNotification
  pub outputs : List (Option (List ℕ))
  pub places : Option (List ExpectedPlace)

-- The turns, and the moves.
abbrev pub turns_in : List Entry → List Turn
turns_in entries = map (λ entry. entry.turn) entries

-- The moves that were made in these turns, in order.
abbrev pub moves_in : List Entry → List Move
moves_in entries = filter_map (λ entry. entry.said) entries

-- All frames that were sent.
abbrev pub sent_in : List Entry → List (List ℕ)
sent_in entries = flat_map (λ entry. entry.turn.sent) entries

-- The turn of a move is at its end, and the frame came that it delivers of those that were sent before. In the first turn, before
-- which nothing was sent, no octets come to the controller.
abbrev pub IsOfMove : List (List ℕ) → Option Move → Turn → Type 0
IsOfMove sent None turn = (sent ≡ []) × (turn.at_device ≡ false) × (turn.came ≡ [])
IsOfMove sent (Some one) turn = (turn.at_device ≡ is_device (end_at one)) × (turn.came ≡ came_by sent one)

-- Each turn is that of its move, if these frames were sent before.
abbrev pub AreOfMoves : List (List ℕ) → List Entry → Type 0
AreOfMoves sent [] = Unit {0}
AreOfMoves sent (entry ∷ entries) = IsOfMove sent entry.said entry.turn × AreOfMoves (sent ++ entry.turn.sent) entries
