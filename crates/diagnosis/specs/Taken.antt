-- What holds of both ends over any moves, from the start of a relation.
use Rattle.std.specs.Prelude.{◌≡◌, ◌≤◌, ◌+◌, ℕ, List, None, length}
use Rattle.diagnosis.specs.World.{Move}
use Rattle.diagnosis.specs.World.{IsPrefixOf, behind_all, start}

-- If at most 32,768 alarms are raised, the accepted alarms are a prefix of the raised ones.
abbrev pub AreTakenInOrder : Type 0
AreTakenInOrder = (factor retries : ℕ) (moves : List Move) → length (behind_all moves (start factor retries)).alarms.sent ≤ 32768
    → IsPrefixOf (behind_all moves (start factor retries)).alarms.taken (behind_all moves (start factor retries)).alarms.sent

-- If at most 32,768 alarms are raised, at most the last of them is not accepted.
abbrev pub LackAtMostTheLast : Type 0
LackAtMostTheLast = (factor retries : ℕ) (moves : List Move) → length (behind_all moves (start factor retries)).alarms.sent ≤ 32768
    → length (behind_all moves (start factor retries)).alarms.sent ≤ length (behind_all moves (start factor retries)).alarms.taken + 1

-- If at most 32,768 alarms are raised and none is unconfirmed, all of them are accepted.
abbrev pub AreAllTaken : Type 0
AreAllTaken = (factor retries : ℕ) (moves : List Move) → length (behind_all moves (start factor retries)).alarms.sent ≤ 32768
    → (behind_all moves (start factor retries)).device.sender.standing ≡ None
    → (behind_all moves (start factor retries)).alarms.taken ≡ (behind_all moves (start factor retries)).alarms.sent
