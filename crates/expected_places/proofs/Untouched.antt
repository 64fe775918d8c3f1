-- Places that nothing was pulled from or plugged into.
use Rattle.std.proofs.Common.{◌≡◌, ◌++◌, ℕ, Bool, true, false, List, [], ◌∷◌, map, Option, Some, None, if◌then◌else◌, refl, ap, subst, sym, ◌∙◌}
use Rattle.arrayvec.specs.ArrayVec.{ArrayVec}
use Rattle.wire.specs.blocks.modules.Lists.{Listed}
use Rattle.connect_blocks.specs.declared.expected.ExpectedSubmodule.{ExpectedSubmodule}
use Rattle.connect_blocks.specs.declared.module_diff.DiffModule.{DiffModule}
use Rattle.connect_blocks.specs.declared.module_diff.DiffSubmodule.{DiffSubmodule}
use Rattle.module_diff.specs.declared.expected.Expected.{Expected}
use Rattle.module_diff.specs.Diff.{Wanted, wanted_in}
use Rattle.expected_places.specs.declared.place.ExpectedPlace.{ExpectedPlace}
use Rattle.expected_places.specs.Machine.{touches}
use Rattle.expected_places.specs.Places.{AreUntouched, IsWhole, first_place, is_for, opened_places, place_at, places_of, restated_place}

-- ---- a relation begins

both : (one other : List ExpectedPlace) → AreUntouched one → AreUntouched other → AreUntouched (one ++ other)
both [] other first second = second
both (place ∷ places) other first second = (first.0, both places other first.1 second)

first_ones : (rows : Listed DiffModule DiffSubmodule) (slot : ℕ) (parts : List ExpectedSubmodule) → AreUntouched (map (first_place rows slot) parts)
first_ones rows slot [] = tt
first_ones rows slot (part ∷ parts) = (refl, first_ones rows slot parts)

all_first : (rows : Listed DiffModule DiffSubmodule) (wanteds : List Wanted) → AreUntouched (places_of rows wanteds)
all_first rows [] = tt
all_first rows (wanted ∷ wanteds) =
    both (map (first_place rows wanted.entry.slot_number) wanted.submodules) (places_of rows wanteds) (first_ones rows wanted.entry.slot_number wanted.submodules) (all_first rows wanteds)

pub opened_whole : (places : List ExpectedPlace) (expected : Expected) (rows : Listed DiffModule DiffSubmodule) → places ≡ opened_places expected rows → (is_whole : Bool) → IsWhole is_whole places
opened_whole places expected rows is is_whole known = subst AreUntouched (sym is) (all_first rows (wanted_in expected.modules.items expected.submodules.items))

-- ---- what differs does not matter

restated_all : (rows : Listed DiffModule DiffSubmodule) (places : List ExpectedPlace) → AreUntouched places → AreUntouched (map (restated_place rows) places)
restated_all rows [] all = tt
restated_all rows (place ∷ places) all = (all.0, restated_all rows places all.1)

pub restated_whole : (rows : Listed DiffModule DiffSubmodule) (is_whole : Bool) (places new : List ExpectedPlace) → new ≡ map (restated_place rows) places → IsWhole is_whole places → IsWhole is_whole new
restated_whole rows is_whole places new is whole known = subst AreUntouched (sym is) (restated_all rows places (whole known))

-- ---- a place among them

first_of : (b : Bool) (place : ExpectedPlace) (found : Option ExpectedPlace) → touches (Some place) ≡ false → touches found ≡ false → touches (if b then Some place else found) ≡ false
first_of true place found one other = one
first_of false place found one other = other

pub none_touched : (slot subslot : ℕ) (places : List ExpectedPlace) → AreUntouched places → touches (place_at slot subslot places) ≡ false
none_touched slot subslot [] all = refl
none_touched slot subslot (place ∷ places) all = first_of (is_for slot subslot place) place (place_at slot subslot places) all.0 (none_touched slot subslot places all.1)
