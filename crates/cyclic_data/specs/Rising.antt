-- Submodules in the order of their slots and subslots.
use Rattle.std.specs.Prelude.{◌==◌, ◌&&◌, ◌||◌, Bool, true, List, [], ◌∷◌, nat_lt}
use Rattle.cyclic_data.specs.declared.place.ExpectedData.{ExpectedData}

-- Whether a submodule is in an earlier slot, or in an earlier subslot of the same slot.
abbrev pub is_before : ExpectedData → ExpectedData → Bool
is_before one other = nat_lt one.slot other.slot || ((one.slot == other.slot) && nat_lt one.subslot other.subslot)

-- Whether each submodule is before the one that follows it.
abbrev pub rises_from : ExpectedData → List ExpectedData → Bool
rises_from last [] = true
rises_from last (sub ∷ subs) = is_before last sub && rises_from sub subs

-- Whether the submodules of a list are in rising order of slot and subslot.
abbrev pub rises : List ExpectedData → Bool
rises [] = true
rises (sub ∷ subs) = rises_from sub subs
