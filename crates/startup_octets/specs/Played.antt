-- The turns of a run, and the records of a plan.
use Rattle.std.specs.Prelude.{ℕ, Bool, true, false, List, [], ◌∷◌, length, drop, map, slice_get, unwrap_or}
use Rattle.plans.specs.declared.parts.PlanRecord.{PlanRecord}
use Rattle.network_world.specs.declared.moves.End.{End}
use Rattle.network_world.specs.declared.moves.End.TheVariants.{Device, Controller}
use Rattle.network_world.specs.declared.moves.Move.{Move}
use Rattle.network_world.specs.declared.moves.Move.TheVariants as move
use Rattle.network_world.specs.World.{World, end_at}
use Rattle.startup_octets.specs.StartUp.{Turn, Written}

-- Whether an end is the device.
abbrev pub is_device : End → Bool
is_device Device = true
is_device Controller = false

-- The frame that a move delivers, of those that were sent before.
abbrev pub came_by : List (List ℕ) → Move → List ℕ
came_by sent (move.Deliver end number) = unwrap_or (slice_get sent number) []
came_by sent one = []

-- The turn of a move, from the frames that were sent before it and after it.
abbrev pub turn_by : List (List ℕ) → Move → List (List ℕ) → Turn
turn_by before one after = record { at_device = is_device (end_at one); came = came_by before one; sent = drop (length before) after }

-- The turns of moves, each with all the frames that were sent after it.
abbrev pub turns_of : List (List ℕ) → List (Move × List (List ℕ)) → List Turn
turns_of sent [] = []
turns_of sent (one ∷ run) = turn_by sent one.0 one.1 ∷ turns_of one.1 run

-- What is seen of a run: its moves, and what was sent after each of them.
abbrev pub seen_of : {F : Type 0} → List (Move × World F) → List (Move × List (List ℕ))
seen_of run = map (λ one. (one.0, one.1.sent)) run

-- The records of a plan.
abbrev pub records_for : List PlanRecord → List Written
records_for records = map (λ entry. record { slot = entry.slot; subslot = entry.subslot; index = entry.index; octets = entry.data.items }) records
