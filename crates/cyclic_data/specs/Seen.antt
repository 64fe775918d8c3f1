-- The places that were seen: one mark for the data and one for the IOCS of each expected submodule.
use Rattle.std.specs.Prelude.{ℕ, ◌+◌, ◌||◌, Bool, true, false, not, List, [], ◌∷◌, get_or, set, Option, Some, None, option_map, option_and_then, if◌then◌else◌}
use Rattle.connect_blocks.specs.declared.iocr.IocrType.{IocrType}
use Rattle.cyclic_data.specs.declared.place.PlaceKind.{PlaceKind}
use Rattle.cyclic_data.specs.declared.place.PlaceKind.TheVariants.{Data, Iocs}
use Rattle.cyclic_data.specs.declared.place.Place.{Place}
use Rattle.cyclic_data.specs.declared.place.ExpectedData.{ExpectedData}
use Rattle.cyclic_data.specs.Places.{taken, found_from}

-- The mark for the data or the IOCS of the submodule with this index, which is below 64.
abbrev pub mark_in : PlaceKind → ℕ → ℕ
mark_in Data index = index
mark_in Iocs index = index + 64

-- The mark of a place, if it is expected.
abbrev pub mark_of : IocrType → List ExpectedData → PlaceKind → ℕ → ℕ → Option ℕ
mark_of direction expected kind slot subslot =
    option_and_then (λ found. option_map (λ _. mark_in kind found.0) (taken direction kind found.1)) (found_from slot subslot 0 expected)

-- Whether a place is expected and its mark is not set yet.
abbrev pub is_new : List Bool → Option ℕ → Bool
is_new seen None = false
is_new seen (Some mark) = not (get_or seen mark false)

-- The marks of submodules that have a place, with one more.
abbrev pub seen_with : List Bool → Option ℕ → List Bool
seen_with seen None = seen
seen_with seen (Some mark) = set seen mark true

-- Whether an expected place has no mark.
abbrev pub lacks : List Bool → Option ℕ → Bool
lacks seen None = false
lacks seen (Some mark) = not (get_or seen mark false)

module _ (direction : IocrType) (expected : List ExpectedData) where
  -- Whether one of the places is not new.
  abbrev pub has_unknown : List Bool → List Place → Bool
  has_unknown seen [] = false
  has_unknown seen (place ∷ places) =
      if is_new seen (mark_of direction expected place.kind place.slot place.subslot)
      then has_unknown (seen_with seen (mark_of direction expected place.kind place.slot place.subslot)) places else true

  -- The marks after the places, as long as they are new.
  abbrev pub seen_behind : List Bool → List Place → List Bool
  seen_behind seen [] = seen
  seen_behind seen (place ∷ places) =
      if is_new seen (mark_of direction expected place.kind place.slot place.subslot)
      then seen_behind (seen_with seen (mark_of direction expected place.kind place.slot place.subslot)) places else seen

  -- Whether a place of one of these submodules was not seen.
  abbrev pub has_missing : List Bool → List ExpectedData → Bool
  has_missing seen [] = false
  has_missing seen (sub ∷ subs) =
      (lacks seen (mark_of direction expected Data sub.slot sub.subslot) || lacks seen (mark_of direction expected Iocs sub.slot sub.subslot))
      || has_missing seen subs
