-- Each call, the active one and those that wait, is for a place of its own, whose parameters ended with its number.
use Rattle.std.specs.Prelude.{◌≡◌, ◌==◌, ◌&&◌, ◌++◌, ℕ, Bool, true, false, not, List, [], ◌∷◌, map, Option, Some, None, ⊤}
use Rattle.std.specs.List.{AllByRecursion, list_any}
use Rattle.expected_places.specs.declared.calls.PlugCall.{PlugCall}
use Rattle.expected_places.specs.declared.calls.WaitingCall.{WaitingCall}
use Rattle.expected_places.specs.declared.place.ExpectedPlace.{ExpectedPlace}
use Rattle.expected_places.specs.declared.place.Step.{Step}
use Rattle.expected_places.specs.declared.place.Step.TheVariants.{Settled, Pulled, Plugged, Told, Ended, Refused}
use Rattle.expected_places.specs.Calls.{PlugQueue}
use Rattle.expected_places.specs.Places.{is_for}

-- The slot, the subslot and the number of a call that waits.
abbrev pub waiting_key : WaitingCall → ℕ × ℕ × ℕ
waiting_key call = (call.slot, call.subslot, call.number)

-- That of the active one.
abbrev pub standing_keys : Option PlugCall → List (ℕ × ℕ × ℕ)
standing_keys None = []
standing_keys (Some call) = (call.slot, call.subslot, call.number) ∷ []

-- Those of all calls, the active one first.
abbrev pub called_keys : PlugQueue → List (ℕ × ℕ × ℕ)
called_keys queue = standing_keys queue.standing ++ map waiting_key queue.waiting

-- The same slot and subslot.
abbrev pub is_same : ℕ × ℕ × ℕ → ℕ × ℕ × ℕ → Bool
is_same one other = one.0 == other.0 && one.1 == other.1

-- The parameters of the plug with this number have ended.
abbrev pub is_ended_with : ℕ → Step → Bool
is_ended_with number Settled = false
is_ended_with number Pulled = false
is_ended_with number Plugged = false
is_ended_with number (Told other) = false
is_ended_with number (Ended other) = other == number
is_ended_with number Refused = false

-- So it is at this place.
abbrev pub ends_with : ℕ → Option ExpectedPlace → Bool
ends_with number None = false
ends_with number (Some place) = is_ended_with number place.step

-- A place there for which that is not so.
abbrev pub is_unended : ℕ → ℕ → ℕ → ExpectedPlace → Bool
is_unended slot subslot number place = is_for slot subslot place && not (is_ended_with number place.step)

-- A place is there, and none for which that is not so.
abbrev pub IsEndedAt : List ExpectedPlace → ℕ × ℕ × ℕ → Type 0
IsEndedAt places key = (list_any (is_for key.0 key.1) places ≡ true) × (list_any (is_unended key.0 key.1 key.2) places ≡ false)

-- Each of these is a place that has ended with that number, and no two are the same.
abbrev pub HaveOwn : List ExpectedPlace → List (ℕ × ℕ × ℕ) → Type 0
HaveOwn places [] = ⊤
HaveOwn places (key ∷ keys) = IsEndedAt places key × AllByRecursion (λ other. is_same key other ≡ false) keys × HaveOwn places keys
