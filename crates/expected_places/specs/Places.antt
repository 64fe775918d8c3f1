-- The places of a relation: the submodules that its Connect expects, and how far each is since something was pulled or plugged
-- there (IEC 61158-6-10, 4.8 and 5.2.4.5).
use Rattle.std.specs.Prelude.{◌≡◌, ◌==◌, ◌&&◌, ◌++◌, ℕ, Bool, true, false, List, [], ◌∷◌, map, Option, Some, None, if◌then◌else◌}
use Rattle.std.specs.List.{AllByRecursion, find}
use Rattle.wire.specs.blocks.modules.Lists.{Listed}
use Rattle.connect_blocks.specs.declared.expected.ExpectedSubmodule.{ExpectedSubmodule}
use Rattle.connect_blocks.specs.declared.module_diff.DiffModule.{DiffModule}
use Rattle.connect_blocks.specs.declared.module_diff.DiffSubmodule.{DiffSubmodule}
use Rattle.module_diff.specs.declared.expected.Expected.{Expected}
use Rattle.module_diff.specs.declared.changes.Affected.{Affected}
use Rattle.module_diff.specs.Changes.{covers}
use Rattle.module_diff.specs.Diff.{Wanted, is_listed, wanted_in}
use Rattle.expected_places.specs.declared.place.ExpectedPlace.{ExpectedPlace}
use Rattle.expected_places.specs.declared.place.Progress.{Progress}
use Rattle.expected_places.specs.declared.place.Progress.TheVariants as word
use Rattle.expected_places.specs.declared.place.Step.{Step}
use Rattle.expected_places.specs.declared.place.Step.TheVariants.{Settled, Pulled, Plugged, Told, Ended, Refused}

-- Something was pulled or plugged there in this relation, and the place was not released since.
abbrev pub is_touched : Step → Bool
is_touched Settled = false
is_touched Pulled = true
is_touched Plugged = true
is_touched (Told number) = true
is_touched (Ended number) = true
is_touched Refused = true

-- None of these places is touched.
abbrev pub AreUntouched : List ExpectedPlace → Type 0
AreUntouched places = AllByRecursion (λ place. is_touched place.step ≡ false) places

-- None is, if this is known.
abbrev pub IsWhole : Bool → List ExpectedPlace → Type 0
IsWhole is_whole places = is_whole ≡ true → AreUntouched places

-- A step in one word: what was pulled differs.
abbrev pub step_word : Step → Progress
step_word Settled = word.Good
step_word Pulled = word.Differs
step_word Plugged = word.Plugged
step_word (Told number) = word.Told
step_word (Ended number) = word.Ended
step_word Refused = word.Refused

-- How far a place is, in one word: what differs comes first.
abbrev pub progress_of : ExpectedPlace → Progress
progress_of place = if place.differs then word.Differs else step_word place.step

-- A place is in this slot and subslot.
abbrev pub is_for : ℕ → ℕ → ExpectedPlace → Bool
is_for slot subslot place = place.slot == slot && place.subslot == subslot

-- The first place in a slot and subslot.
abbrev pub place_at : ℕ → ℕ → List ExpectedPlace → Option ExpectedPlace
place_at slot subslot places = find (is_for slot subslot) places

-- ---- a relation begins

-- The place of a submodule that is expected. It differs if it is listed, and nothing happened to it.
abbrev pub first_place : Listed DiffModule DiffSubmodule → ℕ → ExpectedSubmodule → ExpectedPlace
first_place rows slot part = record {
  slot = slot;
  subslot = part.subslot_number;
  differs = is_listed slot part.subslot_number rows;
  step = Settled;
}

-- The places of these modules, one module after the other.
abbrev pub places_of : Listed DiffModule DiffSubmodule → List Wanted → List ExpectedPlace
places_of rows [] = []
places_of rows (wanted ∷ wanteds) = map (first_place rows wanted.entry.slot_number) wanted.submodules ++ places_of rows wanteds

-- The places of all modules that are expected.
abbrev pub opened_places : Expected → Listed DiffModule DiffSubmodule → List ExpectedPlace
opened_places expected rows = places_of rows (wanted_in expected.modules.items expected.submodules.items)

-- ---- what changes places

-- A place, while these rows list what differs.
abbrev pub restated_place : Listed DiffModule DiffSubmodule → ExpectedPlace → ExpectedPlace
restated_place rows place = record place { differs = is_listed place.slot place.subslot rows }

-- Each place, while these rows list what differs.
abbrev pub places_restated : Listed DiffModule DiffSubmodule → List ExpectedPlace → List ExpectedPlace
places_restated rows places = map (restated_place rows) places

-- A place that is affected is this far, and any other as it was.
abbrev pub touched_place : Affected → Step → ExpectedPlace → ExpectedPlace
touched_place affected step place = if covers affected place.slot place.subslot then record place { step = step } else place

-- Each place that is affected is this far.
abbrev pub touched_places : Affected → Step → List ExpectedPlace → List ExpectedPlace
touched_places affected step places = map (touched_place affected step) places

-- The place in a slot and subslot is this far.
abbrev pub stepped : ℕ → ℕ → Step → List ExpectedPlace → List ExpectedPlace
stepped slot subslot step places = touched_places (record { slot = slot; subslot = Some subslot }) step places

-- ---- which is reported

-- The alarm of the plug was sent, with this number.
abbrev pub is_told_with : ℕ → Step → Bool
is_told_with number Settled = false
is_told_with number Pulled = false
is_told_with number Plugged = false
is_told_with number (Told other) = other == number
is_told_with number (Ended other) = false
is_told_with number Refused = false

-- The first place that is reported with this number, in the order of the Connect.
abbrev pub first_told : ℕ → List ExpectedPlace → Option ExpectedPlace
first_told number places = find (λ place. is_told_with number place.step) places

-- The expected submodule is plugged, and its alarm waits.
abbrev pub is_plugged_step : Step → Bool
is_plugged_step Settled = false
is_plugged_step Pulled = false
is_plugged_step Plugged = true
is_plugged_step (Told number) = false
is_plugged_step (Ended number) = false
is_plugged_step Refused = false

-- A place is there, and is plugged.
abbrev pub is_plugged : Option ExpectedPlace → Bool
is_plugged None = false
is_plugged (Some place) = is_plugged_step place.step
