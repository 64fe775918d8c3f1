-- The slots in which responses are stored.
use Rattle.std.specs.Prelude.{◌≢◌, ◌<◌, ℕ, List, [], ◌∷◌, map, get_or}
use Rattle.rpc_core.specs.declared.cache.Slot.{Slot}
use Rattle.rpc_core.specs.Cache.{Kept}

-- a slot without a response
abbrev pub blank : Slot
blank = record { activity = []; sequence = 0; frame = record { items = [] } }

-- the response in a slot
abbrev pub kept_in : Slot → Kept
kept_in slot = record { activity = slot.activity; sequence = slot.sequence; frame = slot.frame.items }

-- the response in the slot at an index
abbrev pub kept_at : List Slot → ℕ → Kept
kept_at slots place = kept_in (get_or slots place blank)

-- the responses in the slots at these indices
abbrev pub shown : List Slot → List ℕ → List Kept
shown slots order = map (kept_at slots) order

-- an index that is not one of these
abbrev pub IsFree : ℕ → List ℕ → Type 0
IsFree place [] = Unit {0}
IsFree place (other ∷ others) = (place ≢ other) × IsFree place others

-- indices below a bound, without duplicates
abbrev pub IsTidy : ℕ → List ℕ → Type 0
IsTidy bound [] = Unit {0}
IsTidy bound (place ∷ places) = (place < bound) × IsFree place places × IsTidy bound places
