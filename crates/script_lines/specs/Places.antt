-- The lines of the places of a plan, as a controller knows them.
use Rattle.std.specs.Prelude.{◌==◌, ◌++◌, ℕ, List, [], codes, decimal, length, flat_map, Option, Some, None, if◌then◌else◌}
use Rattle.pn_values.specs.declared.real.RealModule.{RealModule}
use Rattle.pn_values.specs.declared.real.RealSubmodule.{RealSubmodule}
use Rattle.plan_places.specs.declared.place.PlaceState.{PlaceState}
use Rattle.plan_places.specs.declared.place.PlaceState.TheVariants as known
use Rattle.plan_places.specs.Places.{state_at}
use Rattle.controller_core.specs.stored.State.{Controlling}
use Rattle.script_lines.specs.Text.{printed}

-- The word for what is known of a place. One that is there again is there, and one whose records are written is plugged.
abbrev pub place_word : PlaceState → List ℕ
place_word known.There = codes "there"
place_word known.Differs = codes "differs"
place_word known.Gone = codes "gone"
place_word known.Wrong = codes "wrong"
place_word (known.Plugged number) = codes "plugged"
place_word (known.Writing number) = codes "plugged"
place_word (known.Ending number) = codes "ending"
place_word (known.Ready number) = codes "there"
place_word known.Refused = codes "refused"

-- The line of a place: slot, subslot, and the word.
unfoldable pub place_line : ℕ → ℕ → PlaceState → List ℕ
place_line slot subslot state = printed (codes "place " ++ decimal slot ++ codes " " ++ decimal subslot ++ codes " " ++ place_word state)

-- The line of a submodule, if it is a place.
abbrev pub line_by : ℕ → ℕ → Option PlaceState → List ℕ
line_by slot subslot (Some state) = place_line slot subslot state
line_by slot subslot None = []

-- That of a submodule of the controller's plan.
abbrev pub line_at : Controlling → ℕ → ℕ → List ℕ
line_at controller slot subslot = line_by slot subslot (state_at slot subslot controller.live.places)

-- That of a submodule of a slot.
abbrev pub part_line : Controlling → ℕ → RealSubmodule → List ℕ
part_line controller slot part = line_at controller slot part.subslot

-- The lines of the submodules of a module.
abbrev pub lines_of : Controlling → RealModule → List ℕ
lines_of controller entry = flat_map (part_line controller entry.slot) entry.submodules.items

-- Those of all modules of the plan, in the order of slots and subslots.
abbrev pub all_lines : Controlling → List ℕ
all_lines controller = flat_map (lines_of controller) controller.setup.plan.real.modules.items

-- The same; '-' if there is no place.
abbrev pub places_shown : Controlling → List ℕ
places_shown controller = if length (all_lines controller) == 0 then printed (codes "places -") else all_lines controller

-- The same of the controller, if there is one.
abbrev pub known_places : Option Controlling → List ℕ
known_places None = []
known_places (Some controller) = places_shown controller
